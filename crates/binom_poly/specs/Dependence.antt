-- What values depend on, and the variables that the monomials of a polynomial hold.
--   Agree test a b         the points a and b have one value at each variable with the test
--   DependsOnly test f     f has one value at any two points that agree
--   HasOnly test ms        each part of the monomial ms has a variable with the test
--   alone v                the monomial that is the variable v
--   IsTwoAnd test v w p    p is v + w plus terms in variables with the test
-- v w variables · a b points · f value at each point · ms monomial · p polynomial
use Rattle.std.specs.Prelude.{◌≡◌, ◌≢◌, ℕ, Bool, IsTrue, ℤ, pos, List, [], ◌∷◌, All}
use Rattle.binom_poly.specs.declared.part.Part.{Part}
use Rattle.binom_poly.specs.declared.term.Term.{Term}
use Rattle.binom_poly.specs.Totals.{coefficient_at}

abbrev pub Agree : (ℕ → Bool) → (ℕ → ℤ) → (ℕ → ℤ) → Type 0
Agree test a b = (v : ℕ) → IsTrue (test v) → a v ≡ b v

abbrev pub DependsOnly : (ℕ → Bool) → ((ℕ → ℤ) → ℤ) → Type 0
DependsOnly test f = (a b : ℕ → ℤ) → Agree test a b → f a ≡ f b

-- so it is for a constant, which has no part
abbrev pub HasOnly : (ℕ → Bool) → List Part → Type 0
HasOnly test ms = All (λ q. IsTrue (test q.var)) ms

abbrev pub alone : ℕ → List Part
alone v = record { var = v; exp = 1 } ∷ []

pub record IsTwoAnd (test : ℕ → Bool) (v w : ℕ) (p : List Term) : Type 0 where
  pub first : coefficient_at (alone v) p ≡ pos 1
  pub second : coefficient_at (alone w) p ≡ pos 1
  pub others : All
      (λ t. t.monomial ≢ alone v → t.monomial ≢ alone w → HasOnly test t.monomial) p
