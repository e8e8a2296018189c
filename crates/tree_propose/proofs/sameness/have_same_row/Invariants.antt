use Rattle.std.proofs.Common.{◌≡◌, ℕ, ◌<◌, ◌≤◌}
use Rattle.nil_pres.specs.Presented.{right_of}
use Rattle.tree_propose.proofs.sameness.have_same_row.Given as goal

abbrev pub invariant-loop-i : goal.invariant-loop-i
invariant-loop-i l = (m : ℕ) → m < l.i → 1 ≤ m → right_of l.p m l.j ≡ right_of l.q m l.j
