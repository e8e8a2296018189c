-- The table of the last generator multiplies: its values are the last entries, added.
--   n the last generator · k m places · x y vectors · rels a presentation · f g operations
--   t table · p presentation
use Rattle.std.proofs.Common.{◌≡◌, ℕ, ◌-◌, ◌<◌, ◌≤◌, Bool, cond, ltb, ℤ, pos, ◌+ℤ◌, List, [], ◌∷◌, length, get_or, sym, ap, ◌∙◌, subst, inl, inr, arith}
use Rattle.std.proofs.lemmas.Bool.{cases_lt, lt-ltb}
use Rattle.nil_word.specs.Words.{IsVector}
use Rattle.nil_word.specs.Congruence.{Relations}
use Rattle.nil_word.specs.Exponents.{entry}
use Rattle.hall_law.specs.Table.{Operation, IsTable, zeros, single, of_letter, sign, base}
use Rattle.hall_law.proofs.Entries.{same_entries, entry-map_numbers}
use Rattle.hall_law.proofs.Vectors.{at_of, vector_of, IsAt-zeros, IsAt-single, length-added, entry-added_same, entry-added_other}
use Rattle.nil_pres.specs.Presented.{Presented, IsPresented}
use Rattle.nil_pres.specs.Relations.{relations_of}
use Rattle.binom_poly.specs.Polynomial.{value_of}
use Rattle.binom_poly.specs.Variable.{x_of, y_of}
use Rattle.binom_poly.specs.Collected.{var_terms}
use Rattle.binom_poly.proofs.Canonical.{value-var_terms}
use Rattle.identity_check.proofs.Choosing.{value-sum_of}
use Rattle.hall_table.specs.Multiplies.{IsChecked}
use Rattle.hall_table.specs.Tabled.{Tabled, IsTabled, last_of, poly_at}
use Rattle.hall_table.specs.Values.{point_of, values}
use Rattle.hall_table.proofs.Entries.{entry-values, length-values, point_of-x, point_of-y}
use Rattle.sum_compiler.specs.Plan.{first_poly}
use Rattle.hall_compile.specs.Levels.{base_table, paired}
use Rattle.hall_compile.proofs.Bases.{IsTabled-base_table}

value-first_poly : (n : ℕ) (x y : List ℤ) → n ≤ 48
    → value_of (point_of x y) (first_poly n) ≡ entry x n +ℤ entry y n
value-first_poly n x y most =
    let e : y_of n - 64 ≡ n = omega arith in
    value-sum_of (point_of x y) (var_terms (x_of n)) (var_terms (y_of n))
    ∙ ap (λ z. z +ℤ value_of (point_of x y) (var_terms (y_of n)))
    (value-var_terms (point_of x y) (x_of n) ∙ point_of-x x y n (omega arith))
    ∙ ap (λ z. entry x n +ℤ z)
    (value-var_terms (point_of x y) (y_of n) ∙ point_of-y x y (y_of n) (omega arith)
    ∙ ap (entry y) e)

entry-low : (t : Tabled) (x y : List ℤ) (k : ℕ) → 1 ≤ k → k < t.level → k ≤ last_of t
    → entry (values t x y) k ≡ pos 0
entry-low t x y k low high most =
    let g = λ (m : ℕ). value_of (point_of x y) (poly_at t m) in
    entry-map_numbers (last_of t) (λ m. cond (ltb m t.level) (pos 0) (g m)) k low most
    ∙ ap (λ (b : Bool). cond b (pos 0) (g k)) (lt-ltb k t.level high)

base-values : (n : ℕ) (x y : List ℤ) → n ≤ 48 → IsTabled (base_table n) → IsVector n n x
    → IsVector n n y → base n x y ≡ values (base_table n) x y
base-values n x y most form a b =
    let least : 1 ≤ n = form.least in
    let last : last_of (base_table n) ≡ n = omega arith in
    let zero : n - n ≡ 0 = omega arith in
    let at_last : entry (base n x y) n ≡ entry (values (base_table n) x y) n =
    entry-added_same x n (entry y n) least (omega (arith, a.entries))
    ∙ sym (value-first_poly n x y most)
    ∙ ap (λ (i : ℕ). value_of (point_of x y) (get_or (first_poly n ∷ []) i [])) (sym zero)
    ∙ sym (entry-values (base_table n) x y n form (omega arith) (omega arith)) in
    same_entries n (base n x y) (values (base_table n) x y)
    (length-added x n (entry y n) ∙ a.entries)
    (length-values (base_table n) x y ∙ last)
    (λ m low high. elim (cases_lt m n) [
      | inl l ↦
          entry-added_other x n m (entry y n) least low (λ e. omega arith)
          ∙ (at_of n n x a).clear m low l
          ∙ sym (entry-low (base_table n) x y m low l (omega arith))
      | inr g ↦
          (let same : n ≡ m = omega arith in
          subst (λ (k : ℕ). entry (base n x y) k ≡ entry (values (base_table n) x y) k) same
          at_last)
    ])

-- ---- another operation with the same values
module _ (rels : Relations) (level : ℕ) (f g : Operation) (t : IsTable rels level f)
    (alike : (x y : List ℤ) → IsVector rels.count level x → IsVector rels.count level y
    → f x y ≡ g x y) where
  abbrev n : ℕ
  n = rels.count

  none_in : IsVector n level (zeros n)
  none_in = vector_of n level (zeros n) (omega (arith, t.most)) (IsAt-zeros n level)

  single_in : (k : ℕ) (e : ℤ) → level ≤ k → IsVector n level (single n k e)
  single_in k e h =
      vector_of n level (single n k e) (omega (arith, t.most))
      (IsAt-single n level k e (omega (arith, t.least)) h)

  closed : (x y : List ℤ) → IsVector n level x → IsVector n level y → IsVector n level (g x y)
  closed x y a b = subst (IsVector n level) (alike x y a b) (t.closed x y a b)

  like_table : IsTable rels level g
  like_table = record {
    least = t.least;
    most = t.most;
    closed = closed;
    multiplies = record {
      unit = λ x h. (
        sym (alike x (zeros n) h none_in) ∙ (t.multiplies.unit x h).0,
        sym (alike (zeros n) x none_in h) ∙ (t.multiplies.unit x h).1,
      );
      order = λ a x i h z.
          sym (alike x (of_letter n a) h (single_in a.number (sign a) i.0))
          ∙ t.multiplies.order a x i h z;
      step = λ a x y i h k.
          let e = single_in a.number (sign a) i.0 in
          sym (ap (g x) (alike y (of_letter n a) k e))
          ∙ sym (alike x (f y (of_letter n a)) h (t.closed y (of_letter n a) k e))
          ∙ t.multiplies.step a x y i h k
          ∙ alike (f x y) (of_letter n a) (t.closed x y h k) e
          ∙ ap (λ z. g z (of_letter n a)) (alike x y h k);
      relations = λ j l a b d.
          sym (alike (single n l (pos 1)) (single n j (pos 1)) (single_in l (pos 1) (omega arith))
          (single_in j (pos 1) a))
          ∙ t.multiplies.relations j l a b d;
    };
  }

-- the law of the last level
abbrev pub LastMultiplies : Type 0
LastMultiplies =
    (rels : Relations) → 1 ≤ rels.count → IsTable rels rels.count (base rels.count)

pub IsTable-base_table : (p : Presented) → IsPresented p → LastMultiplies
    → IsTable (relations_of p) (length p.names) (values (base_table (length p.names)))
IsTable-base_table p h law =
    let n = length p.names in
    let form = IsTabled-base_table n h.some h.names.few in
    like_table (relations_of p) n (base n) (values (base_table n)) (law (relations_of p) h.some)
    (λ x y a b. base-values n x y h.names.few form a b)

pub IsChecked-base_table : (p : Presented) → IsPresented p → LastMultiplies
    → IsChecked (paired p (base_table (length p.names)))
IsChecked-base_table p h law =
    record { last = omega arith; multiplies = IsTable-base_table p h law }
