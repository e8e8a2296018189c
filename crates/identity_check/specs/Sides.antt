-- The two sides of each identity of a table, as polynomials.
--   from_to low high          the numbers from low to high
--   xs t, ys t                the variables x_k, and y_k, of the generators of the table
--   xs_above t j              the x_k with k above j
--   other_ys t j              the y_k but y_j
--   cleared t j               both of these: the variables that are 0 where j comes last
--   unit_vector t k           1 at k, and else 0
--   step t j c m              f_m with the y other than y_j set to 0, and then y_j replaced by c
--   last_step t j c k         the same with the x above j set to 0 as well
--   last_added j c k          entry k of x with c added at j, where each x above j is 0
--   left_step t j c k         f_k with each y_m replaced by `step` of m, in y in place of x
--   right_step t j c k        `step` of k with each x_m replaced by f_m
--   entry_of_unit t j l k     f_k at the unit vectors of l and j
--   entry_of_pair rels j l k  entry k of 1 at j and at l plus the exponents of the right side
--   left_of t id              the left side; that of a relation is an entry, as a constant
--   right_of rels t id        the right side
-- rels a presentation · t table · j < l and k m generators · c a number · id identity
use Rattle.std.specs.Prelude.{ℕ, suc, ◌-◌, ◌==◌, nat_lt, not, ℤ, pos, negsuc, List, [], ◌++◌, map, filter, if◌then◌else◌}
use Rattle.nil_word.specs.Congruence.{Relations}
use Rattle.nil_word.specs.Exponents.{entry, numbers}
use Rattle.hall_law.specs.Table.{added, single, exponents}
use Rattle.binom_poly.specs.declared.term.Term.{Term}
use Rattle.binom_poly.specs.Variable.{y_of}
use Rattle.binom_poly.specs.Polynomial.{value_of}
use Rattle.binom_poly.specs.Collected.{constant_terms, var_terms, sum_of}
use Rattle.poly_subst.specs.Renaming.{without}
use Rattle.poly_subst.specs.Substitute.{substituted}
use Rattle.poly_subst.specs.Walk.{step_of, in_x, in_y}
use Rattle.hall_table.specs.Tabled.{Tabled, last_of, poly_at}
use Rattle.hall_table.specs.Values.{point_of}
use Rattle.hall_table.specs.Order.{generators}
use Rattle.identity_check.specs.declared.identity.Identity.{Identity}
use Rattle.identity_check.specs.declared.identity.Identity.TheVariants.{UnitRight, UnitLeft, Up, Down, StepUp, StepDown, Relation}

abbrev pub from_to : ℕ → ℕ → List ℕ
from_to low high = numbers low (suc high - low)

abbrev pub xs : Tabled → List ℕ
xs t = from_to t.level (last_of t)

abbrev pub ys : Tabled → List ℕ
ys t = map y_of (xs t)

abbrev pub xs_above : Tabled → ℕ → List ℕ
xs_above t j = from_to (suc j) (last_of t)

abbrev pub other_ys : Tabled → ℕ → List ℕ
other_ys t j = map y_of (filter (λ k. not (k == j)) (xs t))

abbrev pub cleared : Tabled → ℕ → List ℕ
cleared t j = xs_above t j ++ other_ys t j

abbrev pub unit_vector : Tabled → ℕ → List ℤ
unit_vector t k = single (last_of t) k (pos 1)

abbrev pub step : Tabled → ℕ → ℤ → ℕ → List Term
step t j c m = step_of (poly_at t m) (other_ys t j) (y_of j) c

abbrev pub last_step : Tabled → ℕ → ℤ → ℕ → List Term
last_step t j c k = step_of (poly_at t k) (cleared t j) (y_of j) c

abbrev pub last_added : ℕ → ℤ → ℕ → List Term
last_added j c k =
    if nat_lt k j then var_terms k
    else (if k == j then sum_of (var_terms k) (constant_terms c) else [])

abbrev pub entry_of_unit : Tabled → ℕ → ℕ → ℕ → ℤ
entry_of_unit t j l k = value_of (point_of (unit_vector t l) (unit_vector t j)) (poly_at t k)

abbrev pub entry_of_pair : Relations → ℕ → ℕ → ℕ → ℤ
entry_of_pair rels j l k =
    entry (added (added (exponents rels.count (rels.right j l)) l (pos 1)) j (pos 1)) k

abbrev pub left_step : Tabled → ℕ → ℤ → ℕ → List Term
left_step t j c k = substituted (poly_at t k) (in_y t.level (generators t) (step t j c))

abbrev pub right_step : Tabled → ℕ → ℤ → ℕ → List Term
right_step t j c k = substituted (step t j c k) (in_x t.level (generators t) (poly_at t))

unfoldable pub left_of : Tabled → Identity → List Term
left_of t (UnitRight k) = without (ys t) (poly_at t k)
left_of t (UnitLeft k) = without (xs t) (poly_at t k)
left_of t (Up j k) = last_step t j (pos 1) k
left_of t (Down j k) = last_step t j (negsuc 0) k
left_of t (StepUp j k) = left_step t j (pos 1) k
left_of t (StepDown j k) = left_step t j (negsuc 0) k
left_of t (Relation j l k) = constant_terms (entry_of_unit t j l k)

unfoldable pub right_of : Relations → Tabled → Identity → List Term
right_of rels t (UnitRight k) = var_terms k
right_of rels t (UnitLeft k) = var_terms (y_of k)
right_of rels t (Up j k) = last_added j (pos 1) k
right_of rels t (Down j k) = last_added j (negsuc 0) k
right_of rels t (StepUp j k) = right_step t j (pos 1) k
right_of rels t (StepDown j k) = right_step t j (negsuc 0) k
right_of rels t (Relation j l k) = constant_terms (entry_of_pair rels j l k)
