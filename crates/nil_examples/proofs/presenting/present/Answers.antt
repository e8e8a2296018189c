use Rattle.std.proofs.Common.{◌+◌, ◌-◌, ◌<◌, ◌≤◌, [], length, get_or, ap, ◌∙◌, arith}
use Rattle.nil_pres.specs.Presented.{Draft, finished}
use Rattle.nil_examples.specs.Examples.{count_of, power_of}
use Rattle.nil_examples.specs.Building.{named, with_row, whole_row}
use Rattle.nil_examples.proofs.Rows.{length-numbered, so_far-start, length-so_far, so_far-blank, so_far-next, finished-so_far, some_names}
use Rattle.nil_examples.proofs.presenting.present.Goals as goal

pub loop-k-init : goal.loop-k-init
loop-k-init c =
    c.in_ok-builder.ensures.ok ∙ ap named c.count-count.ensures
    ∙ so_far-start (count_of c.args.example.now) (power_of c.args.example.now)

pub add_row-requires-clause-generators : goal.add_row-requires-clause-generators
add_row-requires-clause-generators c =
    ap (λ (d : Draft). length d.names) c.loop-k.invariant ∙ length-numbered (count_of c.args.example.now)

pub add_row-requires-clause-rows : goal.add_row-requires-clause-rows
add_row-requires-clause-rows c =
    ap (λ (d : Draft). length d.rights) c.loop-k.invariant
    ∙ length-so_far (count_of c.args.example.now) c.loop-k.k (power_of c.args.example.now)

pub add_row-requires-clause-before : goal.add_row-requires-clause-before
add_row-requires-clause-before c =
    let below : c.loop-k.k < count_of c.args.example.now = omega (arith, c.count-count.ensures) in
    ap (λ (d : Draft). get_or d.rights (c.loop-k.k + 1 - 1) []) c.loop-k.invariant
    ∙ so_far-blank (count_of c.args.example.now) c.loop-k.k (power_of c.args.example.now) below

-- one row more
pub loop-k-preserved : goal.loop-k-preserved
loop-k-preserved c =
    let below : c.loop-k.k < count_of c.args.example.now = omega (arith, c.count-count.ensures) in
    let right = power_of c.args.example.now in
    c.in_ok-add_row.ensures.ok
    ∙ ap (λ (d : Draft). with_row d (c.loop-k.k + 1) (whole_row right (c.loop-k.k + 1))) c.loop-k.invariant
    ∙ so_far-next (count_of c.args.example.now) c.loop-k.k right below

pub unreachable-requires : goal.unreachable-requires
unreachable-requires c =
    some_names (count_of c.args.example.now) c.loop-k.k (power_of c.args.example.now) c.loop-k.builder
    c.requires.least c.loop-k.invariant c.in-None.ensures.presented

pub returns-clause-ok : goal.returns-clause-ok
returns-clause-ok c =
    let all : count_of c.args.example.now ≤ c.loop-k.k = omega (arith, c.count-count.ensures) in
    c.in-Some.ensures.presented ∙ ap finished c.loop-k.invariant
    ∙ finished-so_far (count_of c.args.example.now) c.loop-k.k (power_of c.args.example.now) all
