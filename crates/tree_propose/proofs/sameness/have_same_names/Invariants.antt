use Rattle.std.proofs.Common.{◌≡◌, ℕ, ◌-◌, ◌<◌, ◌≤◌}
use Rattle.std.specs.Prelude.{slice_get}
use Rattle.tree_propose.proofs.sameness.have_same_names.Given as goal

abbrev pub invariant-loop-k : goal.invariant-loop-k
invariant-loop-k l =
    (m : ℕ) → m < l.k → 1 ≤ m → slice_get l.p.names (m - 1) ≡ slice_get l.q.names (m - 1)
