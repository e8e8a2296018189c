-- The sums of a table's polynomials, and the first that overflows
use Rattle.std.proofs.Common.{◌≡◌, ℕ, ◌+◌, ◌-◌, ◌^◌, ◌<◌, ◌≤◌, Bool, true, false, List, length, refl, sym, ap, ◌∙◌, subst, arith, inl, inr}
use Rattle.std.proofs.lemmas.Bool.{cases_lt}
use Rattle.std.proofs.lemmas.Bool.Decides.{nat_tests}
use Rattle.std.specs.Prelude.{Option, Result, Ok, Err, OnOk}
use Rattle.hall_table.specs.declared.wide_at.WideAt.{WideAt}
use Rattle.hall_table.specs.declared.wide_at.WideAt.TheVariants.{Sum}
use lib.IntN.{ℤ}
use Rattle.binom_poly.specs.declared.term.Term.{Term}
use Rattle.binom_poly.specs.Polynomial.{value_of}
use Rattle.binom_poly.specs.Readings.{magnitude_of}
use Rattle.nil_num.specs.Bound.{IsNumber, overflows}
use Rattle.nil_num.specs.First.{first_from}
use Rattle.nested_poly.specs.declared.weighed.Weighed.{Weighed}
use Rattle.nested_poly.specs.Counts.{weighed_at, IsSumOf}
use Rattle.hall_table.specs.Order.{generators, sum_overflows, NamesFound}
use Rattle.hall_table.specs.Summed.{sum_in, value_in, AreSummed}
use Rattle.hall_table.specs.Tabled.{Tabled, IsTabled, last_of, poly_at}
use Rattle.hall_table.proofs.Multiplied.{first_same}
use Rattle.hall_table.proofs.Putting.{entry_within}

both_overflow : (m n : ℕ) → 2 ^ 127 ≤ m → 2 ^ 127 ≤ n → overflows m ≡ overflows n
both_overflow m n k l = grind (arith, nat_tests)

sum_overflow : (a : ℕ → ℤ) (p : List Term) (w : Weighed) → IsSumOf a p w → overflows w.magnitude ≡ sum_overflows a p
sum_overflow a p w s =
    elim (cases_lt w.magnitude (2 ^ 127)) [
      | inl l ↦ ap overflows (s.magnitude l)
      | inr l ↦ both_overflow w.magnitude (magnitude_of a p) l (s.past l)
    ]

pub same_first : (t : Tabled) (a : ℕ → ℤ) (sums : List Weighed) (level : ℕ) → IsTabled t → AreSummed t a sums → level ≡ t.level → length sums ≡ generators t
    → first_from level (length sums) (λ k. overflows (sum_in level sums k).magnitude) ≡ first_from t.level (generators t) (λ k. sum_overflows a (poly_at t k))
same_first t a sums level h s e l =
    let nonempty : 0 < length t.polys = h.nonempty in
    ap (λ i. first_from i (length sums) (λ k. overflows (sum_in i sums k).magnitude)) e
    ∙ ap (λ n. first_from t.level n (λ k. overflows (sum_in t.level sums k).magnitude)) l
    ∙ first_same (λ k. overflows (sum_in t.level sums k).magnitude) (λ k. sum_overflows a (poly_at t k)) t.level (generators t)
    (λ k low high. sum_overflow a (poly_at t k) (sum_in t.level sums k) (s k low (omega arith)))

pub sum_value : (t : Tabled) (a : ℕ → ℤ) (sums : List Weighed) (k : ℕ) → IsTabled t → AreSummed t a sums → length sums ≡ generators t → t.level ≤ k → k ≤ last_of t
    → ((j : ℕ) → j < length sums → (weighed_at sums j).magnitude < 2 ^ 127) → (value_in t.level sums k ≡ value_of a (poly_at t k)) × IsNumber (value_in t.level sums k)
sum_value t a sums k h s l low high f =
    let nonempty : 0 < length t.polys = h.nonempty in
    let g : (sum_in t.level sums k).magnitude < 2 ^ 127 = f (k - t.level) (omega arith) in
    let e : (sum_in t.level sums k).magnitude ≡ magnitude_of a (poly_at t k) = (s k low high).magnitude g in
    let v = (s k low high).value g in (
      v,
      entry_within a (poly_at t k) (value_in t.level sums k) (value_in t.level sums k) refl v (omega arith),
    )

pub named_first_sum : (t : Tabled) (a : ℕ → ℤ) (sums : List Weighed) (level : ℕ) (r : Result (Unit {0}) WideAt) → IsTabled t → AreSummed t a sums → level ≡ t.level → length sums ≡ generators t
    → NamesFound (λ k. Sum k) (first_from level (length sums) (λ k. overflows (sum_in level sums k).magnitude)) r → NamesFound (λ k. Sum k) (first_from t.level (generators t) (λ k. sum_overflows a (poly_at t k))) r
named_first_sum t a sums level r h s e l n = subst (λ (f : Option ℕ). NamesFound (λ k. Sum k) f r) (same_first t a sums level h s e l) n

pub sum_values : (t : Tabled) (a : ℕ → ℤ) (sums : List Weighed) (r : Result (Unit {0}) WideAt) → IsTabled t → AreSummed t a sums → length sums ≡ generators t
    → OnOk r ((j : ℕ) → j < length sums → (weighed_at sums j).magnitude < 2 ^ 127)
    → OnOk r ((k : ℕ) → t.level ≤ k → k ≤ last_of t → (value_in t.level sums k ≡ value_of a (poly_at t k)) × IsNumber (value_in t.level sums k))
sum_values t a sums (Ok x) h s l f = λ k low high. sum_value t a sums k h s l low high f
sum_values t a sums (Err e) h s l f = tt
