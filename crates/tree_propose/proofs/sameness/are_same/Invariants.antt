use Rattle.std.proofs.Common.{ℕ, ◌<◌, ◌≤◌}
use Rattle.tree_propose.specs.Sameness.{HaveSameRow}
use Rattle.tree_propose.proofs.sameness.are_same.Given as goal

abbrev pub invariant-loop-j : goal.invariant-loop-j
invariant-loop-j l = (m : ℕ) → m < l.j → 1 ≤ m → HaveSameRow l.p l.q m
