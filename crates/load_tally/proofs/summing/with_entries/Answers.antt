use Rattle.std.proofs.Common.{◌+◌, ◌*ℤ◌, ◌+ℤ◌, ℤ, pos, get_or, ◌∙◌, ap, rules, FitsSigned}
use Rattle.std.specs.Int.{w128}
use Rattle.std.proofs.lemmas.Int.{to_z-of_z}
use Rattle.load_tally.specs.Weights.{remainder}
use Rattle.load_tally.proofs.Weighing.{weighted_from-next}
use Rattle.load_tally.proofs.summing.with_entries.Goals as goal

pub adding-preserved : goal.adding-preserved
adding-preserved c =
    let entry : ℤ = get_or c.args.entries.now c.adding.index (pos 0) in
    let fits : FitsSigned w128 entry = search rules in (
      c.with_entry-sum.ensures.within,
      weighted_from-next c.adding.sum c.with_entry-sum.result c.adding.index _ c.args.entries.now
          c.adding-test.true
          (c.with_entry-sum.ensures.sum
          ∙ ap (λ (z : ℤ). remainder (pos c.adding.sum +ℤ pos (c.adding.index + 1) *ℤ z))
          (to_z-of_z w128 entry fits))
          c.adding.invariant.1,
    )
