-- Rows whose y are put to 0, one after another.
--   t table · k j generators · v variable
use Rattle.std.proofs.Common.{◌≡◌, ℕ, ◌+◌, ◌<◌, ◌≤◌, List, pos, ◌∙◌, arith, below_more}
use Rattle.std.specs.Prelude.{Result, Ok, Err, OnOk, OnErr}
use Rattle.binom_poly.specs.Reading.{Reading}
use Rattle.binom_poly.specs.Readings.{value_at, width_at, with_value}
use Rattle.binom_poly.specs.Variable.{y_of}
use Rattle.hall_table.specs.Tabled.{Tabled}
use Rattle.hall_table.specs.Width.{HasRows}
use Rattle.hall_table.proofs.Putting.{HasRows-with_value, value-same, value-other}

pub record ClearedSoFar (t : Tabled) (start rows : List Reading) (k : ℕ) : Type 0 where
  pub placed : HasRows t rows
  pub put : (j : ℕ) → j < k → t.level ≤ j → value_at rows (y_of j) ≡ pos 0
  pub kept : (v : ℕ) → v < 64 → value_at rows v ≡ value_at start v

either : {T E P : Type 0} (r : Result T E) → OnOk r P → OnErr r P → P
either (Ok x) h g = h
either (Err e) h g = g

pub cleared_more : {T E : Type 0} {t : Tabled} {start rows : List Reading} {k : ℕ}
    → ClearedSoFar t start rows k → 0 < width_at rows (y_of k) → (r : Result T E)
    → (new : List Reading) → OnOk r (new ≡ with_value rows (y_of k) (pos 0))
    → OnErr r (new ≡ with_value rows (y_of k) (pos 0)) → ClearedSoFar t start new (k + 1)
cleared_more {T} {E} {t} {start} {rows} {k} s w r new ok err =
    let e = either r ok err in
    record {
      placed = HasRows-with_value t rows new (y_of k) (pos 0) w e s.placed;
      put =
          below_more (λ j. t.level ≤ j → value_at new (y_of j) ≡ pos 0) k
          (λ j l m.
          value-other rows new (y_of k) (y_of j) (pos 0)
          (λ h. absurd (let same : 64 + j ≡ 64 + k = h in omega arith)) e ∙ s.put j l m)
          (λ m. value-same rows new (y_of k) (pos 0) w e);
      kept = λ v l.
          value-other rows new (y_of k) v (pos 0)
          (λ h. absurd (let same : v ≡ 64 + k = h in omega arith)) e ∙ s.kept v l;
    }
