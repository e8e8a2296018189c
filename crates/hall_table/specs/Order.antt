-- The written order of a product f(a, b): the rows of x_k at the entries of a, then those of y_k
-- at the entries of b, then the sums of f_k, each with k ascending from the level. The first of
-- them that overflows is named.
--   overflows_below x n         one of the first n products that make a row for x overflows
--   row_overflows x n           among the products that make a row of n places for x, one overflows
--   sum_overflows a p           the sum of the magnitudes of the terms' values at a overflows
--   RefusesAt place test r      r is a refusal exactly where the test is true, and names the place
--   NamesFound place found r    r is a refusal that names the place of what was found, and none
--                               where nothing was
--   named place found rest      the refusal at what was found, and the rest where nothing was
--   generators t                how many generators the table has
--   x_overflows t a k  y_overflows t b k     the row of x_k or y_k overflows
--   sum_at_overflows t a b k    the sum of f_k overflows
--   multiplied t a b            the product, or the first place that overflows
-- k generator · a b vectors, of sums a point · p polynomial · t table · x number · r result
use Rattle.std.specs.Prelude.{◌≡◌, ℕ, zero, suc, Bool, true, false, ◌||◌, ℤ, unsigned_abs, List, length, Option, Some, None, option_map, Result, Ok, Err, MatchResult}
use Rattle.nil_num.specs.Bound.{overflows}
use Rattle.nil_num.specs.First.{first_from}
use Rattle.nil_num.specs.Row.{written_product}
use Rattle.nil_word.specs.Exponents.{entry}
use Rattle.binom_poly.specs.declared.term.Term.{Term}
use Rattle.binom_poly.specs.Readings.{magnitude_of}
use Rattle.binom_poly.specs.Variable.{y_of}
use Rattle.hall_table.specs.declared.wide_at.WideAt.{WideAt}
use Rattle.hall_table.specs.declared.wide_at.WideAt.TheVariants.{RowX, RowY, Sum}
use Rattle.hall_table.specs.Tabled.{Tabled, poly_at}
use Rattle.hall_table.specs.Values.{point_of, values}
use Rattle.hall_table.specs.Width.{width_for}

abbrev pub overflows_below : ℤ → ℕ → Bool
overflows_below x zero = false
overflows_below x (suc n) = overflows (unsigned_abs (written_product x n)) || overflows_below x n

-- a row of n places is made by n - 1 products
abbrev pub row_overflows : ℤ → ℕ → Bool
row_overflows x zero = false
row_overflows x (suc n) = overflows_below x n

abbrev pub sum_overflows : (ℕ → ℤ) → List Term → Bool
sum_overflows a p = overflows (magnitude_of a p)

abbrev pub RefusesAt : {A : Type 0} → WideAt → Bool → Result A WideAt → Type 0
RefusesAt place test r = MatchResult r (λ _. test ≡ false) (λ at. (at ≡ place) × (test ≡ true))

abbrev pub NamesFound : {A : Type 0} → (ℕ → WideAt) → Option ℕ → Result A WideAt → Type 0
NamesFound place found r =
    MatchResult r (λ _. found ≡ None) (λ at. option_map place found ≡ Some at)

abbrev pub named : (ℕ → WideAt) → Option ℕ → Result (List ℤ) WideAt → Result (List ℤ) WideAt
named place (Some k) rest = Err (place k)
named place None rest = rest

abbrev pub generators : Tabled → ℕ
generators t = length t.polys

abbrev pub x_overflows : Tabled → List ℤ → ℕ → Bool
x_overflows t a k = row_overflows (entry a k) (width_for t k)

abbrev pub y_overflows : Tabled → List ℤ → ℕ → Bool
y_overflows t b k = row_overflows (entry b k) (width_for t (y_of k))

abbrev pub sum_at_overflows : Tabled → List ℤ → List ℤ → ℕ → Bool
sum_at_overflows t a b k = sum_overflows (point_of a b) (poly_at t k)

abbrev pub multiplied : Tabled → List ℤ → List ℤ → Result (List ℤ) WideAt
multiplied t a b =
    named RowX (first_from t.level (generators t) (x_overflows t a))
    (named RowY (first_from t.level (generators t) (y_overflows t b))
    (named Sum (first_from t.level (generators t) (sum_at_overflows t a b))
    (Ok (values t a b))))
