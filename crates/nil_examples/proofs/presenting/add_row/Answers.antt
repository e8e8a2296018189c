use Rattle.std.proofs.Common.{◌+◌, ◌-◌, ◌<◌, ◌≤◌, length, ap, refl, ◌∙◌, arith}
use Rattle.nil_pres.specs.Presented.{Draft, added}
use Rattle.nil_examples.specs.Examples.{power_of}
use Rattle.nil_examples.specs.Building.{with_pair}
use Rattle.nil_examples.proofs.Rows.{with_row-start, with_row-next, with_row-whole, added-with_row}
use Rattle.nil_examples.proofs.presenting.add_row.Goals as goal

pub loop-k-init : goal.loop-k-init
loop-k-init c =
    with_row-start c.args.builder.now c.args.j (power_of c.args.example.now) c.requires.before

pub add_pair-requires-clause-generators : goal.add_pair-requires-clause-generators
add_pair-requires-clause-generators c =
    ap (λ (d : Draft). length d.names) c.loop-k.invariant ∙ c.requires.generators

pub add_pair-requires-clause-before : goal.add_pair-requires-clause-before
add_pair-requires-clause-before c =
    let inside : c.args.j - 1 < length c.args.builder.now.rights = omega (arith, c.requires.rows) in
    ap (λ (d : Draft). added d (c.loop-k.k + 1) c.args.j) c.loop-k.invariant
    ∙ added-with_row c.args.builder.now c.args.j c.loop-k.k (power_of c.args.example.now) inside c.loop-k-test.true

-- one pair more
pub loop-k-preserved : goal.loop-k-preserved
loop-k-preserved c =
    let inside : c.args.j - 1 < length c.args.builder.now.rights = omega (arith, c.requires.rows) in
    let right = power_of c.args.example.now in
    c.in_ok-add_pair.ensures.ok
    ∙ ap (λ (d : Draft). with_pair d (c.loop-k.k + 1) c.args.j (right (c.loop-k.k + 1) c.args.j)) c.loop-k.invariant
    ∙ with_row-next c.args.builder.now c.args.j c.loop-k.k right (right (c.loop-k.k + 1) c.args.j) inside c.loop-k-test.true refl

pub returns-clause-ok : goal.returns-clause-ok
returns-clause-ok c =
    let all : c.args.j - 1 ≤ c.loop-k.k = omega arith in
    c.loop-k.invariant ∙ with_row-whole c.args.builder.now c.args.j c.loop-k.k (power_of c.args.example.now) all
