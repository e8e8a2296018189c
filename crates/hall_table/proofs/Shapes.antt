-- The test of the shape decides it.
--   v variable · k generator · m monomial · p polynomial
use Rattle.std.proofs.Common.{◌≡◌, ◌≢◌, ℕ, Bool, true, false, ◌||◌, ◌&&◌, ℤ, pos, List, [], ◌∷◌, get_or, refl, sym, ap, ◌∙◌, inl, inr, eqb}
use Rattle.std.proofs.lemmas.Bool.{cases_Bool, false≢true, eq-eqb, eqb-true}
use Rattle.std.specs.List.{list_all}
use Rattle.std.specs.Bool.{MatchBool}
use Rattle.std.proofs.lemmas.List.Sums.{AllPass-from_list_all, list_all-from_AllPass}
use Rattle.std.specs.Cmp.{signed_Decides}
use Rattle.std.specs.Ordering.{int_eq}
use Rattle.binom_poly.specs.declared.part.Part.{Part}
use Rattle.binom_poly.specs.declared.term.Term.{Term}
use Rattle.binom_poly.specs.Variable.{y_of}
use Rattle.hall_table.specs.Shape.{alone, is_alone, coefficient_of, is_lower, AreLower, HasShape, are_lower, is_allowed, has_shape}

both_left : (a b : Bool) → (a && b) ≡ true → a ≡ true
both_left true b h = refl
both_left false b h = absurd (false≢true h)

both_right : (a b : Bool) → (a && b) ≡ true → b ≡ true
both_right true b h = h
both_right false b h = absurd (false≢true h)

both : (a b : Bool) → a ≡ true → b ≡ true → (a && b) ≡ true
both true b g h = h
both false b g h = absurd (false≢true g)

some_left : (a b : Bool) → a ≡ true → (a || b) ≡ true
some_left true b h = refl
some_left false b h = absurd (false≢true h)

some_right : (a b : Bool) → b ≡ true → (a || b) ≡ true
some_right true b h = refl
some_right false b h = h

other_one : (a b : Bool) → (a || b) ≡ true → a ≡ false → b ≡ true
other_one true b h g = absurd (false≢true (sym g))
other_one false b h g = h

pub alone_is : (v : ℕ) (m : List Part) → is_alone v m ≡ true → m ≡ alone v
alone_is v [] h = absurd (false≢true h)
alone_is v (q ∷ []) h =
    ap (λ (w : ℕ). let r : Part = record { var = w; exp = q.exp } in r ∷ []) (eqb-true q.var v (both_left (eqb q.var v) (eqb q.exp 1) h))
    ∙ ap (λ (e : ℕ). let r : Part = record { var = v; exp = e } in r ∷ []) (eqb-true q.exp 1 (both_right (eqb q.var v) (eqb q.exp 1) h))
alone_is v (q ∷ r ∷ m) h = absurd (false≢true h)

pub is_alone-alone : (v : ℕ) → is_alone v (alone v) ≡ true
is_alone-alone v = both (eqb v v) true (eq-eqb v v refl) refl

pub not_alone : (v : ℕ) (m : List Part) → is_alone v m ≡ false → m ≢ alone v
not_alone v m h e = false≢true (sym h ∙ ap (is_alone v) e ∙ is_alone-alone v)

pub none_alone : (v : ℕ) (m : List Part) → m ≢ alone v → is_alone v m ≡ false
none_alone v m h =
    elim (cases_Bool (is_alone v m)) [ inl b ↦ absurd (h (alone_is v m b)) | inr b ↦ b ]

one_is : (c : ℤ) → int_eq c (pos 1) ≡ true → c ≡ pos 1
one_is c h = (signed_Decides c (pos 1)).0 h

is_one : (c : ℤ) → c ≡ pos 1 → int_eq c (pos 1) ≡ true
is_one c h = (signed_Decides c (pos 1)).1 h

other_lower : (level k : ℕ) (t : Term) → is_allowed level k t ≡ true → t.monomial ≢ alone k
    → t.monomial ≢ alone (y_of k) → AreLower level k t.monomial
other_lower level k t h x y =
    AllPass-from_list_all (λ (q : Part). is_lower level k q.var) t.monomial
    (other_one (is_alone (y_of k) t.monomial) (are_lower level k t.monomial)
    (other_one (is_alone k t.monomial) (is_alone (y_of k) t.monomial || are_lower level k t.monomial) h
    (none_alone k t.monomial x))
    (none_alone (y_of k) t.monomial y))

lower_allowed : (level k : ℕ) (t : Term)
    → (t.monomial ≢ alone k → t.monomial ≢ alone (y_of k) → AreLower level k t.monomial)
    → is_allowed level k t ≡ true
lower_allowed level k t h =
    let lower = are_lower level k t.monomial in
    elim (cases_Bool (is_alone k t.monomial)) [
      | inl x ↦ some_left (is_alone k t.monomial) (is_alone (y_of k) t.monomial || lower) x
      | inr x ↦
          some_right (is_alone k t.monomial) (is_alone (y_of k) t.monomial || lower)
          (elim (cases_Bool (is_alone (y_of k) t.monomial)) [
            | inl y ↦ some_left (is_alone (y_of k) t.monomial) lower y
            | inr y ↦
                some_right (is_alone (y_of k) t.monomial) lower
                (list_all-from_AllPass (λ (q : Part). is_lower level k q.var) t.monomial
                (h (not_alone k t.monomial x) (not_alone (y_of k) t.monomial y)))
          ])
    ]

pub shape_of : (level k : ℕ) (p : List Term) → has_shape level k p ≡ true → HasShape level k p
shape_of level k p h =
    let a = int_eq (coefficient_of k p) (pos 1) in
    let b = int_eq (coefficient_of (y_of k) p) (pos 1) in
    let c = list_all (is_allowed level k) p in
    record {
      x = one_is (coefficient_of k p) (both_left a (b && c) h);
      y = one_is (coefficient_of (y_of k) p) (both_left b c (both_right a (b && c) h));
      others = λ i d l. other_lower level k (get_or p i d)
          (AllPass-from_list_all (is_allowed level k) p (both_right b c (both_right a (b && c) h)) i d l);
    }

pub has_shape-of : (level k : ℕ) (p : List Term) → HasShape level k p → has_shape level k p ≡ true
has_shape-of level k p h =
    let a = int_eq (coefficient_of k p) (pos 1) in
    let b = int_eq (coefficient_of (y_of k) p) (pos 1) in
    let c = list_all (is_allowed level k) p in
    both a (b && c) (is_one (coefficient_of k p) h.x)
    (both b c (is_one (coefficient_of (y_of k) p) h.y)
    (list_all-from_AllPass (is_allowed level k) p
    (λ i d l. lower_allowed level k (get_or p i d) (h.others i d l))))

pub shape_tells : (level k : ℕ) (p : List Term) (r : Bool) → r ≡ has_shape level k p
    → MatchBool r (HasShape level k p) (¬ HasShape level k p)
shape_tells level k p true e = shape_of level k p (sym e)
shape_tells level k p false e = λ h. false≢true (e ∙ has_shape-of level k p h)
