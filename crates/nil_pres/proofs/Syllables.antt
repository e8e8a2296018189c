-- Right sides without a fault.
use Rattle.std.proofs.Common.{All, ℕ, ◌<◌, ◌≤◌, List, [], ◌∷◌, arith}
use Rattle.std.proofs.lemmas.List.Elements.{All-nil, All-cons, All-weaker}
use Rattle.nil_pres.specs.declared.syllable.Syllable.{Syllable}
use Rattle.nil_pres.specs.Rights.{IsRight}

-- more generators may stand in a right side
pub IsRight-higher : (low high more : ℕ) (right : List Syllable) → high ≤ more → IsRight low high right → IsRight low more right
IsRight-higher low high more [] l h = tt
IsRight-higher low high more (s ∷ rest) l h = (h.0, omega (arith, h.1), h.2, h.3, IsRight-higher s.number high more rest l h.4)

-- the generators of a right side
pub IsRight-generators : (low high : ℕ) (right : List Syllable) → IsRight low high right → All (λ (s : Syllable). (low < s.number) × (s.number ≤ high)) right
IsRight-generators low high [] h = All-nil (λ (s : Syllable). (low < s.number) × (s.number ≤ high))
IsRight-generators low high (s ∷ rest) h =
    All-cons (λ (t : Syllable). (low < t.number) × (t.number ≤ high)) s rest (h.0, h.1)
    (All-weaker (λ (t : Syllable). (s.number < t.number) × (t.number ≤ high)) (λ (t : Syllable). (low < t.number) × (t.number ≤ high)) (λ t p. (omega (arith, h.0), p.1)) rest (IsRight-generators s.number high rest h.4))
