use Rattle.std.proofs.Common.{◌≡◌, ◌^◌, ◌<◌, sym, ◌∙◌, ap, arith}
use Rattle.std.proofs.lemmas.Bool.{false≢true}
use Rattle.std.proofs.lemmas.Bool.Decides.{nat_tests}
use Rattle.std.proofs.lemmas.Slice.Eq.{bytes_eq-Decides}
use Rattle.std.specs.Fmt.{decimal}
use Rattle.table_json.proofs.Numerals.{generator_parses}
use Rattle.table_json.proofs.decimals.generator.Goals as goal
use Rattle.table_json.proofs.decimals.generator.Goals.{then-k-eq0-via-then-k-eq0, then-k-eq0-via-else-k-eq0+then-k-n}

-- the number of a generator is parsed
pub returns-in_default : goal.returns-in_default
returns-in_default c k least most is =
    let small : c.args.n < 2 ^ 32 = omega arith in
    let read = generator_parses c.args.digits.now k c.parse.result c.parse.ensures.value.0 (omega
    arith) is in cc

-- and it is in range
pub returns-then-k-eq0 : goal.returns-then-k-eq0
returns-then-k-eq0 c k least most is =
    let small : c.args.n < 2 ^ 32 = omega arith in
    let read = generator_parses c.args.digits.now k c.parse.result c.parse.ensures.value.0 (omega
    arith) is in
    let same : c.in-Ok.k ≡ k = cc in
    elim c.then-k-eq0.branch [
      | then-k-eq0-via-then-k-eq0 w ↦ grind (arith, nat_tests)
      | then-k-eq0-via-else-k-eq0+then-k-n w ↦ grind (arith, nat_tests)
    ]

-- and it is written as it stands
pub returns-else-eq : goal.returns-else-eq
returns-else-eq c k least most is =
    let small : c.args.n < 2 ^ 32 = omega arith in
    let read = generator_parses c.args.digits.now k c.parse.result c.parse.ensures.value.0 (omega
    arith) is in
    let same : c.in-Ok.k ≡ k = cc in
    let text : c.format.result.now ≡ c.args.digits.now =
    c.format.ensures.text ∙ ap decimal same ∙ sym is in
    false≢true (sym c.if-eq.false ∙ c.eq.ensures
    ∙ (bytes_eq-Decides c.format.result.now c.args.digits.now).1 text)
