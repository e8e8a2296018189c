-- The written order of a solution solves: each entry is the difference that is left.
--   t table · k m generators · d how many are left · e a difference · a b x y z vectors
use Rattle.std.proofs.Common.{◌≡◌, ℕ, zero, suc, ◌+◌, ◌-◌, ◌<◌, ◌≤◌, ℤ, pos, ◌+ℤ◌, List, length, sym, ◌∙◌, subst, inl, inr, arith}
use Rattle.std.specs.Prelude.{Ok}
use Rattle.std.proofs.Math.Nat.{eq-or-lt_of_le}
use Rattle.std.proofs.lemmas.Bool.{cases_lt}
use Rattle.std.proofs.lemmas.Int.{ints}
use Rattle.nil_word.specs.Words.{IsVector}
use Rattle.nil_word.specs.Exponents.{entry}
use Rattle.binom_poly.specs.Polynomial.{value_of}
use Rattle.hall_law.specs.Table.{zeros, IsClosed}
use Rattle.hall_law.specs.Plan.{put}
use Rattle.hall_law.specs.Shape.{IsShaped}
use Rattle.hall_law.proofs.Entries.{same_entries}
use Rattle.hall_law.proofs.Vectors.{IsAt, at_of, vector_of, IsAt-zeros, entry-zeros}
use Rattle.hall_law.proofs.Pairs.{entry-put_same, entry-put_other}
use Rattle.hall_law.proofs.Grading.{IsClosed-from_entries, entry-from_entries}
use Rattle.hall_law.proofs.Cutting.{Same, same_self, same_times}
use Rattle.std.proofs.lemmas.List.{length-set}
use Rattle.hall_table.specs.declared.wide_at.WideAt.TheVariants.{RowX, RowY, Sum}
use Rattle.binom_poly.specs.Variable.{y_of}
use Rattle.hall_table.specs.Tabled.{Tabled, IsTabled, last_of, poly_at}
use Rattle.hall_table.specs.Values.{point_of, values}
use Rattle.hall_table.specs.Width.{width_for}
use Rattle.hall_table.specs.Order.{generators, row_overflows, sum_at_overflows}
use Rattle.group_eval.specs.Order.{unless, is_wide, left_overflow, difference, solved_from, solved}
use Rattle.group_eval.proofs.Outcomes.{named_ok, unless_ok}

pub IsClosed-values : (t : Tabled) → IsTabled t → IsClosed (last_of t) t.level (values t)
IsClosed-values t h =
    let nonempty : 0 < length t.polys = h.nonempty in
    IsClosed-from_entries (last_of t) t.level (λ k x y. value_of (point_of x y) (poly_at t k))
    (omega arith)

pub IsVector-zeros : (t : Tabled) → IsTabled t → IsVector (last_of t) t.level (zeros (last_of t))
IsVector-zeros t h =
    let nonempty : 0 < length t.polys = h.nonempty in
    vector_of (last_of t) t.level (zeros (last_of t)) (omega arith) (IsAt-zeros (last_of t) t.level)

module _ (t : Tabled) (tabled : IsTabled t) (shaped : IsShaped (last_of t) t.level (values t))
    (a b : List ℤ) (ha : IsVector (last_of t) t.level a) (hb : IsVector (last_of t) t.level b) where
  -- x solves at the entries below k, and is 0 from there on
  pub record SolvesBelow (x : List ℤ) (k : ℕ) : Type 0 where
    pub vector : IsVector (last_of t) t.level x
    pub rest : (m : ℕ) → k ≤ m → entry x m ≡ pos 0
    pub solves : (m : ℕ) → t.level ≤ m → m < k → entry (values t a x) m ≡ entry b m

  abbrev with_difference : List ℤ → ℕ → List ℤ
  with_difference x k = put x k (difference t a b x k)

  IsVector-put : (x : List ℤ) (k : ℕ) (e : ℤ) → t.level ≤ k → IsVector (last_of t) t.level x
      → IsVector (last_of t) t.level (put x k e)
  IsVector-put x k e low h =
      let least : 1 ≤ t.level = tabled.least in
      let nonempty : 0 < length t.polys = tabled.nonempty in
      let at : IsAt (last_of t) t.level x = at_of (last_of t) t.level x h in
      vector_of (last_of t) t.level (put x k e) (omega arith)
      (record {
        size = length-set x (k - 1) e ∙ at.size;
        clear = λ m from to. entry-put_other x k m e (omega arith) from (omega arith)
            ∙ at.clear m from to;
      })

  -- the entry of the product at k is now that of b, and those before stay
  difference_solves : (x : List ℤ) (k : ℕ) → t.level ≤ k → k ≤ last_of t → SolvesBelow x k
      → SolvesBelow (with_difference x k) (suc k)
  difference_solves x k low high h =
      let least : 1 ≤ t.level = tabled.least in
      let y = with_difference x k in
      let e = difference t a b x k in
      let size : length x ≡ last_of t = h.vector.entries in
      let new : Same k e y x = record {
        lower = λ l from to. entry-put_other x k l e (omega arith) from (omega arith);
        at = entry-put_same x k e (omega arith) (omega arith)
            ∙ (let none : entry x k ≡ pos 0 = h.rest k (omega arith) in omega (arith, ints));
      } in
      let vector : IsVector (last_of t) t.level y = IsVector-put x k e low h.vector in
      let product : Same k (pos 0 +ℤ e) (values t a y) (values t a x) =
      same_times (last_of t) t.level (values t) least (IsClosed-values t tabled) shaped k (pos 0) e a
      a y x low high ha ha vector h.vector (same_self k a) new in
      let value : entry (values t a x) k ≡ value_of (point_of a x) (poly_at t k) =
      entry-from_entries (last_of t) t.level (λ j u v. value_of (point_of u v) (poly_at t j)) a x k
      (omega arith) low high in
      record {
        vector = vector;
        rest = λ m above. entry-put_other x k m e (omega arith) (omega arith) (omega arith)
            ∙ h.rest m (omega arith);
        solves = λ m from to.
            elim (eq-or-lt_of_le (let z : m ≤ k = omega arith in z)) [
              | inl same ↦
                  subst (λ (i : ℕ). entry (values t a y) i ≡ entry b i) (sym same)
                  (omega (arith, ints, product.at, value))
              | inr l ↦ product.lower m (omega arith) l ∙ h.solves m from l
            ];
      }

  -- as far as the order goes without a refusal
  solved_from_solves : (d k : ℕ) (x z : List ℤ) → t.level ≤ k → k + d ≡ last_of t + 1
      → SolvesBelow x k → solved_from t a b x k d ≡ Ok z → SolvesBelow z (last_of t + 1)
  solved_from_solves zero k x z low whole h is =
      let same : x ≡ z = cc in
      let end : k ≡ last_of t + 1 = omega arith in
      subst (λ (i : ℕ). SolvesBelow z i) end (subst (λ (y : List ℤ). SolvesBelow y k) same h)
  solved_from_solves (suc d) k x z low whole h is =
      let e = difference t a b x k in
      let next = solved_from t a b (put x k e) (suc k) d in
      let third = unless (row_overflows e (width_for t (y_of k))) (RowY k) next in
      let second = unless (is_wide e) (Sum k) third in
      solved_from_solves d (suc k) (with_difference x k) z (omega arith) (omega arith)
      (difference_solves x k low (omega arith) h)
      (unless_ok (row_overflows e (width_for t (y_of k))) (RowY k) next z
      (unless_ok (is_wide e) (Sum k) third z
      (unless_ok (sum_at_overflows t a x k) (Sum k) second z is)))

  start : SolvesBelow (zeros (last_of t)) t.level
  start = record {
    vector = IsVector-zeros t tabled;
    rest = λ m above. entry-zeros (last_of t) m;
    solves = λ m from to. absurd (omega arith);
  }

  whole_solves : (x : List ℤ) → SolvesBelow x (last_of t + 1) → values t a x ≡ b
  whole_solves x h =
      let product : IsAt (last_of t) t.level (values t a x) =
      at_of (last_of t) t.level (values t a x) (IsClosed-values t tabled a x ha h.vector) in
      let right : IsAt (last_of t) t.level b = at_of (last_of t) t.level b hb in
      same_entries (last_of t) (values t a x) b product.size right.size
      (λ m low high. elim (cases_lt m t.level) [
        | inl l ↦ product.clear m low l ∙ sym (right.clear m low l)
        | inr g ↦ h.solves m g (omega arith)
      ])

  pub solved_ok : (x : List ℤ) → solved t a b ≡ Ok x
      → IsVector (last_of t) t.level x × (values t a x ≡ b)
  solved_ok x is =
      let nonempty : 0 < length t.polys = tabled.nonempty in
      let h : SolvesBelow x (last_of t + 1) =
      solved_from_solves (generators t) t.level (zeros (last_of t)) x (omega arith) (omega arith)
      start
      (named_ok RowX (left_overflow t a)
      (solved_from t a b (zeros (last_of t)) t.level (generators t)) x is) in
      (h.vector, whole_solves x h)
