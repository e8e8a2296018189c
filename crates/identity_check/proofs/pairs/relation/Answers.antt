use Rattle.std.proofs.Common.{◌≡◌, ◌∙◌, rules, refl, sym, ap, FitsSigned, to_z, of_z, arith}
use Rattle.std.specs.Int.{w128}
use Rattle.std.proofs.lemmas.Int.{to_z-of_z}
use Rattle.nil_pres.specs.Relations.{relations_of}
use Rattle.identity_check.proofs.PutPairs.{pair_wide, pair_holds, pair_fails}
use Rattle.identity_check.proofs.pairs.relation.Goals as goal

pub returns-in_default : goal.returns-in_default
returns-in_default c =
    pair_wide (relations_of c.args.pres.now) c.args.table.now c.args.j c.args.l c.args.k c.args.rows.now
    c.last.ensures.form record { low = omega arith; high = omega arith } c.requires.put
    c.in_default.ensures.wide.1

pub returns-then-left-right : goal.returns-then-left-right
returns-then-left-right c =
    let l : FitsSigned w128 c.in-Ok.left = search rules in
    let r : FitsSigned w128 c.entry_of_pair-right.result = search rules in
    let same : c.in-Ok.left ≡ c.entry_of_pair-right.result =
    sym (to_z-of_z w128 c.in-Ok.left l) ∙ ap (to_z w128) c.if-left-right.true
    ∙ to_z-of_z w128 c.entry_of_pair-right.result r in
    pair_holds (relations_of c.args.pres.now) c.args.table.now c.args.j c.args.l c.args.k c.args.rows.now
    c.in-Ok.left c.entry_of_pair-right.result c.last.ensures.form
    record { low = omega arith; high = omega arith } record { low = omega arith; high = omega arith }
    record { low = omega arith; high = omega arith } c.requires.put c.in-Ok.ensures.wide
    c.in-Ok.ensures.value c.entry_of_pair-right.ensures same

pub returns : goal.returns
returns c =
    let l : FitsSigned w128 c.in-Ok.left = search rules in
    let r : FitsSigned w128 c.entry_of_pair-right.result = search rules in
    pair_fails (relations_of c.args.pres.now) c.args.table.now c.args.j c.args.l c.args.k c.args.rows.now
    c.in-Ok.left c.entry_of_pair-right.result _ c.last.ensures.form
    record { low = omega arith; high = omega arith } record { low = omega arith; high = omega arith }
    record { low = omega arith; high = omega arith } c.requires.put c.in-Ok.ensures.wide
    c.in-Ok.ensures.value c.entry_of_pair-right.ensures
    (λ e. c.if-left-right.false (ap (of_z w128) e)) refl c.new.ensures.items
    (to_z-of_z w128 c.in-Ok.left l) (to_z-of_z w128 c.entry_of_pair-right.result r)
