-- Sums that grow by terms.
--   weighed_at sums k        the sum at place k, and that of no terms past the end
--   IsTotal w                the value is within the magnitude, which may overflow
--   AreTotals sums           each sum is
--   IsPartial a ps w ts      w is the sum of the terms ps but for ts, which are still to be added
--   Counts a ts old new      the sum new is old and the terms ts
--   IsSumOf a ps w           w is the sum of the terms ps: above the limit exactly where their
--                            magnitude is
-- k place · w old new sums · ps ts us terms · a point
use Rattle.std.specs.Prelude.{◌≡◌, ◌≤◌, ℕ, ◌+◌, List, ◌++◌, ℤ, pos, ◌+ℤ◌, unsigned_abs, slice_index_or}
use Rattle.nil_num.specs.Bound.{Fits, Overflows}
use Rattle.binom_poly.specs.declared.term.Term.{Term}
use Rattle.binom_poly.specs.Polynomial.{value_of}
use Rattle.binom_poly.specs.Readings.{magnitude_of}
use Rattle.nested_poly.specs.declared.weighed.Weighed.{Weighed}

abbrev pub weighed_at : List Weighed → ℕ → Weighed
weighed_at sums k = slice_index_or sums k record { value = pos 0; magnitude = 0 }

abbrev pub IsTotal : Weighed → Type 0
IsTotal w = unsigned_abs w.value ≤ w.magnitude

abbrev pub AreTotals : List Weighed → Type 0
AreTotals sums = (k : ℕ) → IsTotal (weighed_at sums k)

pub record IsPartial (a : ℕ → ℤ) (ps : List Term) (w : Weighed) (ts : List Term) : Type 0 where
  pub past : Overflows w.magnitude → Overflows (magnitude_of a ps)
  pub value : Fits w.magnitude → value_of a ps ≡ w.value +ℤ value_of a ts
  pub magnitude : Fits w.magnitude → magnitude_of a ps ≡ w.magnitude + magnitude_of a ts

abbrev pub Counts : (ℕ → ℤ) → List Term → Weighed → Weighed → Type 0
Counts a ts old new =
    (ps us : List Term) → IsPartial a ps old (ts ++ us) → IsPartial a ps new us

pub record IsSumOf (a : ℕ → ℤ) (ps : List Term) (w : Weighed) : Type 0 where
  pub past : Overflows w.magnitude → Overflows (magnitude_of a ps)
  pub value : Fits w.magnitude → w.value ≡ value_of a ps
  pub magnitude : Fits w.magnitude → w.magnitude ≡ magnitude_of a ps
