-- All names and all rows are equal.
use Rattle.std.proofs.Common.{arith, refl}
use Rattle.tree_propose.proofs.Same.{same_presented}
use Rattle.tree_propose.proofs.sameness.are_same.Goals as goal

pub returns : goal.returns
returns c =
    let names = c.if-not-have_same_names.ensures.0 refl in (
      λ _. same_presented c.args.p.now c.args.q.now c.count-count.ensures.lawful c.count.ensures.lawful names
          (λ j one le. c.loop-j.invariant j (omega (arith, le)) one),
      λ _. refl,
    )
