use Rattle.std.proofs.Common.{◌≡◌, ℕ, drop}
use Rattle.nil_pres.specs.Rights.{syllable_fault, AreUpTo, IsRight}
use Rattle.nil_pres.proofs.rights.first_syllable_fault.Given as goal

abbrev pub invariant-loop-place : goal.invariant-loop-place
invariant-loop-place l =
    (syllable_fault 0 l.fn.above l.right ≡ syllable_fault l.place l.last (drop l.place l.right))
    × ((high : ℕ) → AreUpTo high l.right → IsRight l.last high (drop l.place l.right) → IsRight l.fn.above high l.right)
