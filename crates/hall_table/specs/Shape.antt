-- The shape of a table's polynomials: f_k is x_k + y_k plus terms in lower variables.
--   IsX v  is_x v          v is before the variables y_k, as each x_k is; the test of it
--   alone v  is_alone v m  the monomial that is the variable v; the test whether m is it
--   coefficient_of v p     the coefficient of v alone in p, and 0 where p has no such term
--   is_lower level k v     v is x_l or y_l with level <= l < k
--   AreLower level k m     each variable of the monomial m is; so it is for a constant
--   are_lower level k m    the test of it
--   HasShape level k p     p is x_k + y_k plus terms in lower variables
--   has_shape level k p    the test of it
--   is_allowed level k t   what it tests of the term t
-- k generator · v variable · m monomial · t term · p polynomial
use Rattle.std.specs.Prelude.{◌≡◌, ◌≢◌, ℕ, ◌<◌, ◌==◌, nat_le, nat_lt, Bool, false, ◌&&◌, ◌||◌, IsTrue, ℤ, pos, List, [], ◌∷◌, All, if◌then◌else◌}
use Rattle.std.specs.List.{list_all}
use Rattle.std.specs.Ordering.{int_eq}
use Rattle.binom_poly.specs.declared.part.Part.{Part}
use Rattle.binom_poly.specs.declared.term.Term.{Term}
use Rattle.binom_poly.specs.Variable.{y_of}

abbrev pub IsX : ℕ → Type 0
IsX v = v < y_of 0

abbrev pub is_x : ℕ → Bool
is_x v = nat_lt v (y_of 0)

abbrev pub alone : ℕ → List Part
alone v = record { var = v; exp = 1 } ∷ []

abbrev pub is_alone : ℕ → List Part → Bool
is_alone v [] = false
is_alone v (q ∷ []) = (q.var == v) && (q.exp == 1)
is_alone v (q ∷ r ∷ m) = false

abbrev pub coefficient_of : ℕ → List Term → ℤ
coefficient_of v [] = pos 0
coefficient_of v (t ∷ ts) = if is_alone v t.monomial then t.coefficient else coefficient_of v ts

abbrev pub is_lower : ℕ → ℕ → ℕ → Bool
is_lower level k v = (nat_le level v && nat_lt v k) || (nat_le (y_of level) v && nat_lt v (y_of k))

abbrev pub AreLower : ℕ → ℕ → List Part → Type 0
AreLower level k m = All (λ q. IsTrue (is_lower level k q.var)) m

pub record HasShape (level k : ℕ) (p : List Term) : Type 0 where
  pub x : coefficient_of k p ≡ pos 1
  pub y : coefficient_of (y_of k) p ≡ pos 1
  pub others : All
      (λ t. t.monomial ≢ alone k → t.monomial ≢ alone (y_of k) → AreLower level k t.monomial) p

abbrev pub are_lower : ℕ → ℕ → List Part → Bool
are_lower level k m = list_all (λ q. is_lower level k q.var) m

abbrev pub is_allowed : ℕ → ℕ → Term → Bool
is_allowed level k t =
    is_alone k t.monomial || (is_alone (y_of k) t.monomial || are_lower level k t.monomial)

abbrev pub has_shape : ℕ → ℕ → List Term → Bool
has_shape level k p =
    int_eq (coefficient_of k p) (pos 1)
    && (int_eq (coefficient_of (y_of k) p) (pos 1) && list_all (is_allowed level k) p)
