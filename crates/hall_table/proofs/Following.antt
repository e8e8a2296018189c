-- What the loops of a product keep.
--   t table · place the variable of a generator · v a b vectors · k j generators · x number
use Rattle.std.proofs.Common.{◌≡◌, ◌≢◌, ℕ, ◌+◌, ◌-◌, ◌<◌, ◌≤◌, ◌^◌, Bool, true, false, cond, List, length, map, sym, ap, ◌∙◌, subst, arith, below_more}
use Rattle.std.specs.Prelude.{Some, None, option_map, slice_get}
use Rattle.std.proofs.lemmas.Option.{get_or_from_slice_get}
use lib.IntN.{ℤ, pos}
use lib.Dec.{ltb}
use Rattle.nil_word.specs.Exponents.{entry, numbers}
use Rattle.hall_law.proofs.Entries.{same_entries, length-map_numbers, entry-map_numbers}
use Rattle.binom_poly.specs.Polynomial.{value_of}
use Rattle.binom_poly.specs.Reading.{Reading}
use Rattle.binom_poly.specs.Readings.{value_at, width_at, with_value}
use Rattle.nil_num.specs.Bound.{overflows}
use Rattle.nested_poly.specs.declared.weighed.Weighed.{Weighed}
use Rattle.nested_poly.specs.Counts.{weighed_at}
use Rattle.hall_table.specs.declared.wide_at.WideAt.TheVariants.{Sum}
use Rattle.hall_table.specs.Summed.{sum_in, value_in}
use Rattle.std.proofs.lemmas.Bool.Decides.{nat_tests}
use Rattle.nil_num.specs.First.{first_from}
use Rattle.hall_table.specs.declared.wide_at.WideAt.{WideAt}
use Rattle.hall_table.specs.Tabled.{Tabled, IsTabled, last_of, poly_at}
use Rattle.hall_table.specs.Width.{width_for, HasRows}
use Rattle.hall_table.specs.Order.{generators, row_overflows, sum_overflows}
use Rattle.hall_table.proofs.Orders.{first_found, first_none}
use Rattle.hall_table.proofs.Putting.{HasRows-with_value, value-same, value-other}

-- ---- rows
pub record PutSoFar (t : Tabled) (place : ℕ → ℕ) (v : List ℤ) (rows : List Reading) (k : ℕ) : Type 0 where
  pub placed : HasRows t rows
  pub fits : (j : ℕ) → j < k → t.level ≤ j → row_overflows (entry v j) (width_for t (place j)) ≡ false
  pub put : (j : ℕ) → j < k → t.level ≤ j → value_at rows (place j) ≡ entry v j

pub put_more : (t : Tabled) (place : ℕ → ℕ) (v : List ℤ) (rows new : List Reading) (k : ℕ) (x y : ℤ)
    → ((j : ℕ) → j < k → place j ≢ place k) → 0 < width_at rows (place k) → y ≡ entry v k → x ≡ y
    → PutSoFar t place v rows k → new ≡ with_value rows (place k) x → row_overflows x (width_for t (place k)) ≡ false
    → PutSoFar t place v new (k + 1)
put_more t place v rows new k x y apart h f g s e p = record {
  placed = HasRows-with_value t rows new (place k) x h e s.placed;
  fits =
      below_more (λ j. t.level ≤ j → row_overflows (entry v j) (width_for t (place j)) ≡ false) k s.fits
      (λ m. subst (λ z. row_overflows z (width_for t (place k)) ≡ false) (g ∙ f) p);
  put =
      below_more (λ j. t.level ≤ j → value_at new (place j) ≡ entry v j) k
      (λ j l m. value-other rows new (place k) (place j) x (apart j l) e ∙ s.put j l m)
      (λ m. value-same rows new (place k) x h e ∙ g ∙ f);
}

pub all_put : (t : Tabled) (place : ℕ → ℕ) (v : List ℤ) (rows : List Reading) (k end : ℕ) → IsTabled t
    → PutSoFar t place v rows k → end ≡ last_of t + 1 → end ≤ k
    → first_from t.level (generators t) (λ j. row_overflows (entry v j) (width_for t (place j))) ≡ None
all_put t place v rows k end h s e l =
    let nonempty : 0 < length t.polys = h.nonempty in
    first_none (λ j. row_overflows (entry v j) (width_for t (place j))) t.level (generators t) (λ j a b. s.fits j (omega arith) a)

pub named_first : (place : ℕ → WideAt) (p : ℕ → Bool) (t : Tabled) (k : ℕ) (at : WideAt) → IsTabled t → t.level ≤ k
    → k ≤ last_of t → ((j : ℕ) → j < k → t.level ≤ j → p j ≡ false) → p k ≡ true → at ≡ place k
    → option_map place (first_from t.level (generators t) p) ≡ Some at
named_first place p t k at h low high before e f =
    let nonempty : 0 < length t.polys = h.nonempty in
    ap (option_map place) (first_found p t.level (generators t) k low (omega arith) (λ j a b. before j b a) e)
    ∙ ap (λ w. Some w) (sym f)

-- ---- sums
pub record FitSoFar (sums : List Weighed) (i : ℕ) : Type 0 where
  pub fits : (j : ℕ) → j < i → (weighed_at sums j).magnitude < 2 ^ 127

overflows-fits : (n : ℕ) → n < 2 ^ 127 → overflows n ≡ false
overflows-fits n l = grind (arith, nat_tests)

fits-overflows : (n : ℕ) → overflows n ≡ false → n < 2 ^ 127
fits-overflows n e = grind (arith, nat_tests)

pub fit_more : (sums : List Weighed) (i : ℕ) (w : Weighed) (b : Bool) → w ≡ weighed_at sums i → b ≡ overflows w.magnitude → b ≡ false → FitSoFar sums i → FitSoFar sums (i + 1)
fit_more sums i w b e f g h = record {
  fits =
      below_more (λ j. (weighed_at sums j).magnitude < 2 ^ 127) i h.fits
      (subst (λ (v : Weighed). v.magnitude < 2 ^ 127) e (fits-overflows w.magnitude (sym f ∙ g)));
}

pub all_fit : (level : ℕ) (sums : List Weighed) (i : ℕ) → length sums ≤ i → FitSoFar sums i
    → first_from level (length sums) (λ k. overflows (sum_in level sums k).magnitude) ≡ None
all_fit level sums i l h =
    first_none (λ k. overflows (sum_in level sums k).magnitude) level (length sums)
    (λ j a b. overflows-fits (sum_in level sums j).magnitude (h.fits (j - level) (omega arith)))

pub wide_named : (level : ℕ) (sums : List Weighed) (i k : ℕ) (w : Weighed) (b : Bool) → i < length sums → k ≡ level + i → w ≡ weighed_at sums i → b ≡ overflows w.magnitude → b ≡ true → FitSoFar sums i
    → option_map (λ k. Sum k) (first_from level (length sums) (λ k. overflows (sum_in level sums k).magnitude)) ≡ Some (Sum k)
wide_named level sums i k w b l e f g t h =
    let q : k - level ≡ i = omega arith in
    ap (option_map (λ k. Sum k))
    (first_found (λ k. overflows (sum_in level sums k).magnitude) level (length sums) k (omega arith) (omega arith)
    (λ j a c. overflows-fits (sum_in level sums j).magnitude (h.fits (j - level) (omega arith)))
    (ap (λ j. overflows (weighed_at sums j).magnitude) q ∙ ap (λ (v : Weighed). overflows v.magnitude) (sym f) ∙ sym g ∙ t))

-- ---- the vector that is written
pub record WrittenSoFar (sums : List Weighed) (level last : ℕ) (out : List ℤ) (k : ℕ) : Type 0 where
  pub size : length out ≡ last
  pub entries : (j : ℕ) → j < k → 1 ≤ j → entry out j ≡ cond (ltb j level) (pos 0) (value_in level sums j)

pub all_written : (sums : List Weighed) (level last : ℕ) (out : List ℤ) (k end : ℕ) → WrittenSoFar sums level last out k
    → end ≡ last + 1 → end ≤ k → out ≡ map (λ j. cond (ltb j level) (pos 0) (value_in level sums j)) (numbers 1 last)
all_written sums level last out k end s e l =
    let g : ℕ → ℤ = λ j. cond (ltb j level) (pos 0) (value_in level sums j) in
    same_entries last out (map g (numbers 1 last)) s.size (length-map_numbers last g)
    (λ m a b. s.entries m (omega arith) a ∙ sym (entry-map_numbers last g m a b))

pub entry_read : (v : List ℤ) (k : ℕ) (y : ℤ) → slice_get v (k - 1) ≡ Some y → y ≡ entry v k
entry_read v k y h = sym (get_or_from_slice_get v (k - 1) y (pos 0) h)

pub put_named : (place : ℕ → WideAt) (side : ℕ → ℕ) (t : Tabled) (v : List ℤ) (rows : List Reading) (k : ℕ) (x y : ℤ)
    (at : WideAt) → IsTabled t → t.level ≤ k → k ≤ last_of t → PutSoFar t side v rows k → y ≡ entry v k → x ≡ y
    → row_overflows x (width_for t (side k)) ≡ true → at ≡ place k
    → option_map place (first_from t.level (generators t) (λ j. row_overflows (entry v j) (width_for t (side j)))) ≡ Some at
put_named place side t v rows k x y at h low high s f g p e =
    named_first place (λ j. row_overflows (entry v j) (width_for t (side j))) t k at h low high s.fits
    (subst (λ z. row_overflows z (width_for t (side k)) ≡ true) (g ∙ f) p) e
