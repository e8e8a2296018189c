-- Generators that are added on.
--   is_free v p      the variable v stands in no term of p
--   IsAddedOn t m    y_m stands in no later polynomial, and so in none but f_m
-- t table · k m generators · v variable · p polynomial
use Rattle.std.specs.Prelude.{ℕ, ◌<◌, ◌≤◌, ◌==◌, not, Bool, List, IsTrue}
use Rattle.std.specs.List.{list_all}
use Rattle.binom_poly.specs.declared.term.Term.{Term}
use Rattle.binom_poly.specs.Variable.{y_of}
use Rattle.hall_table.specs.Tabled.{Tabled, last_of, poly_at}

abbrev pub is_free : ℕ → List Term → Bool
is_free v p = list_all (λ t. list_all (λ q. not (q.var == v)) t.monomial) p

abbrev pub IsAddedOn : Tabled → ℕ → Type 0
IsAddedOn t m =
    (k : ℕ) → m < k → k ≤ last_of t → IsTrue (is_free (y_of m) (poly_at t k))
