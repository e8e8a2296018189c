-- Presentations with the same names and the same rows are equal.
--   p q presentations · xs ys lists · d default · i j generators · k place
use Rattle.std.proofs.Common.{◌≡◌, ◌==◌, ℕ, suc, ◌+◌, ◌-◌, ◌<◌, ◌≤◌, Bool, true, false, ◌&&◌, List, [], ◌∷◌, length, get_or, refl, sym, ap, ◌∙◌, subst, arith}
use Rattle.std.specs.Prelude.{not, slice_get}
use Rattle.std.specs.Bool.{Decides}
use Rattle.std.specs.Cmp.{unsigned_Decides, signed_Decides, first_so, second_so}
use Rattle.std.specs.Ordering.{int_eq}
use lib.IntN.{ℤ}
use Rattle.nil_pres.specs.declared.syllable.Syllable.{Syllable}
use Rattle.nil_pres.specs.Presented.{Presented, IsPresented}
use Rattle.tree_propose.specs.Sameness.{HaveSameRow}

-- ---- lists
pub same_elements : {A : Type 0} (d : A) (xs ys : List A) → length xs ≡ length ys
    → ((k : ℕ) → k < length xs → get_or xs k d ≡ get_or ys k d) → xs ≡ ys
same_elements d [] [] e h = refl
same_elements d [] (y ∷ ys) e h = absurd (omega (arith, e))
same_elements d (x ∷ xs) [] e h = absurd (omega (arith, e))
same_elements {A} d (x ∷ xs) (y ∷ ys) e h =
    ap (λ (z : A). z ∷ xs) (h 0 (omega arith))
    ∙ ap (λ (zs : List A). y ∷ zs)
    (same_elements d xs ys (omega (arith, e)) (λ k lt. h (suc k) (omega (arith, lt))))

pub same_gets : {A : Type 0} (xs ys : List A) → length xs ≡ length ys
    → ((k : ℕ) → k < length xs → slice_get xs k ≡ slice_get ys k) → xs ≡ ys
same_gets [] [] e h = refl
same_gets [] (y ∷ ys) e h = absurd (omega (arith, e))
same_gets (x ∷ xs) [] e h = absurd (omega (arith, e))
same_gets {A} (x ∷ xs) (y ∷ ys) e h =
    let first : x ≡ y = cc (h 0 (omega arith)) in
    ap (λ (z : A). z ∷ xs) first
    ∙ ap (λ (zs : List A). y ∷ zs)
    (same_gets xs ys (omega (arith, e)) (λ k lt. h (suc k) (omega (arith, lt))))

-- ---- right sides
abbrev pub same_syllable : Syllable → Syllable → Bool
same_syllable s t = (s.number == t.number) && int_eq s.exp t.exp

pub same_syllable-Decides : (s t : Syllable) → Decides (same_syllable s t) (s ≡ t)
same_syllable-Decides s t = (
  λ h. ap (λ (n : ℕ). let r : Syllable = record { number = n; exp = s.exp } in r)
      ((unsigned_Decides s.number t.number).0
      (first_so (s.number == t.number) (int_eq s.exp t.exp) h))
      ∙ ap (λ (e : ℤ). let r : Syllable = record { number = t.number; exp = e } in r)
      ((signed_Decides s.exp t.exp).0
      (second_so (s.number == t.number) (int_eq s.exp t.exp) h)),
  λ e. subst (λ (r : Syllable). same_syllable s r ≡ true) e
      (λ i. (unsigned_Decides s.number s.number).1 refl i && (signed_Decides s.exp s.exp).1 refl i),
)

pub not_false : (b : Bool) → false ≡ not b → b ≡ true
not_false true h = refl
not_false false h = h

pub not_true : (b : Bool) → true ≡ not b → b ≡ false
not_true true h = h
not_true false h = refl

-- ---- presentations
same_rows : (p q : Presented) → IsPresented p → IsPresented q → p.names ≡ q.names
    → ((j : ℕ) → 1 ≤ j → j ≤ length p.names → HaveSameRow p q j) → p.rights ≡ q.rights
same_rows p q hp hq names rows =
    let many : length p.rights ≡ length q.rights =
    hp.rows ∙ ap length names ∙ sym hq.rows in
    same_elements [] p.rights q.rights many
    (λ k lt.
    let wide = hp.widths k lt in
    let wide_q = hq.widths k (omega (arith, many, lt)) in
    same_elements [] (get_or p.rights k []) (get_or q.rights k []) (wide ∙ sym wide_q)
    (λ i less.
    subst (λ (m : ℕ). get_or (get_or p.rights m []) i [] ≡ get_or (get_or q.rights m []) i []) (omega arith)
    (subst (λ (m : ℕ). get_or (get_or p.rights (k + 1 - 1) []) m [] ≡ get_or (get_or q.rights (k + 1 - 1) []) m [])
    (omega arith)
    (rows (k + 1) (omega arith) (omega (arith, lt, hp.rows)) (i + 1) (omega arith) (omega (arith, less, wide))))))

pub same_presented : (p q : Presented) → IsPresented p → IsPresented q → p.names ≡ q.names
    → ((j : ℕ) → 1 ≤ j → j ≤ length p.names → HaveSameRow p q j) → p ≡ q
same_presented p q hp hq names rows =
    ap (λ (ns : List (List ℕ)). let r : Presented = record { names = ns; rights = p.rights } in r) names
    ∙ ap (λ (rs : List (List (List Syllable))). let r : Presented = record { names = q.names; rights = rs } in r)
    (same_rows p q hp hq names rows)
