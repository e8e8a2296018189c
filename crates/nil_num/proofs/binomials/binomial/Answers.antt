use Rattle.std.proofs.Common.{rules, ◌∙◌, sym, to_z, of_z, FitsSigned}
use Rattle.std.specs.Int.{w128}
use Rattle.std.proofs.lemmas.Int.{to_z-of_z}
use Rattle.integer.proofs.Binomial.{choose_none}
use Rattle.nil_num.proofs.Rows.{none-overflows, RowOverflows-more}
use Rattle.nil_num.proofs.binomials.binomial.Goals as goal

pub loop-k-init : goal.loop-k-init
loop-k-init c =
    let x = to_z w128 (of_z w128 c.args.x) in
    (sym (choose_none x), none-overflows x)

pub loop-k-preserved : goal.loop-k-preserved
loop-k-preserved c =
    let f : FitsSigned w128 c.in-Some.next = search rules in (
      to_z-of_z w128 c.in-Some.next f ∙ c.in-Some.ensures.1,
      RowOverflows-more (to_z w128 (of_z w128 c.args.x)) c.loop-k.k c.loop-k.invariant.1 c.in-Some.ensures.0,
    )
