-- Each name is read at its place.
use Rattle.std.proofs.Common.{◌≡◌, ℕ, ◌+◌, refl, subst, arith}
use Rattle.std.specs.Prelude.{slice_get}
use Rattle.tree_propose.proofs.Same.{same_gets}
use Rattle.tree_propose.proofs.sameness.have_same_names.Goals as goal

pub returns : goal.returns
returns c =
    let p = c.args.p.now in
    let q = c.args.q.now in (
      λ _. same_gets p.names q.names (omega arith)
          (λ m lt. subst (λ (i : ℕ). slice_get p.names i ≡ slice_get q.names i) (omega arith)
          (c.loop-k.invariant (m + 1) (omega (arith, lt)) (omega arith))),
      λ _. refl,
    )
