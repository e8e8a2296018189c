use Rattle.std.proofs.Common.{◌≡◌, ◌^◌, ◌-◌, negsuc, unsigned_abs, sym, ◌∙◌, ap, subst, arith}
use Rattle.std.proofs.lemmas.Bool.{false≢true}
use Rattle.std.proofs.lemmas.Slice.Eq.{bytes_eq-Decides}
use Rattle.std.specs.Fmt.{signed_decimal}
use Rattle.nil_num.specs.Bound.{IsNumber}
use Rattle.table_json.proofs.Numerals.{coefficient_parses, held, machine_is}
use Rattle.table_json.proofs.decimals.coefficient.Goals as goal
use Rattle.table_json.proofs.decimals.coefficient.Goals.{then-number-eq0-via-then-number-eq0, then-number-eq0-via-else-number-eq0+then-number}

-- a coefficient is parsed
pub returns-in_default : goal.returns-in_default
returns-in_default c z is =
    let read = coefficient_parses c.args.text.now z c.parse.result c.parse.ensures.value.0 is in cc

-- and it is neither 0 nor the lowest number
pub returns-then-number-eq0 : goal.returns-then-number-eq0
returns-then-number-eq0 c z is =
    let read = coefficient_parses c.args.text.now z c.parse.result c.parse.ensures.value.0 is in
    let same : c.in-Ok.number ≡ z = cc in
    let small : IsNumber c.in-Ok.number = subst IsNumber (sym same) is.within in
    elim c.then-number-eq0.branch [
      | then-number-eq0-via-then-number-eq0 w ↦
          is.not_zero (sym same ∙ machine_is c.in-Ok.number 0 small w.if-number-eq0.true)
      | then-number-eq0-via-else-number-eq0+then-number w ↦
          let lowest : c.in-Ok.number ≡ negsuc (2 ^ 127 - 1) = machine_is c.in-Ok.number _ small
          w.if-number.true in
          omega (arith, ap unsigned_abs lowest, small)
    ]

-- and it is written as it stands
pub returns-else-eq : goal.returns-else-eq
returns-else-eq c z is =
    let read = coefficient_parses c.args.text.now z c.parse.result c.parse.ensures.value.0 is in
    let same : c.in-Ok.number ≡ z = cc in
    let small : IsNumber c.in-Ok.number = subst IsNumber (sym same) is.within in
    let text : c.format.result.now ≡ c.args.text.now =
    c.format.ensures.text ∙ ap signed_decimal (held c.in-Ok.number small ∙ same) ∙ sym is.decimal in
    false≢true (sym c.if-eq.false ∙ c.eq.ensures
    ∙ (bytes_eq-Decides c.format.result.now c.args.text.now).1 text)
