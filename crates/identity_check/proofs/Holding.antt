-- Lists of variables, and of what is put in place of them.
--   low d   the numbers of a list, d of them from low on · m j generators · v variable
--   vs variables · a point · h a polynomial for each generator
use Rattle.std.proofs.Common.{◌≡◌, ◌≢◌, ℕ, zero, suc, ◌+◌, ◌<◌, ◌≤◌, Bool, true, false, List, [], ◌∷◌, ◌++◌, map, Some, None, refl, sym, ap, ◌∙◌, arith, inl, inr}
use Rattle.std.specs.Prelude.{◌||◌, ◌==◌, not, filter}
use Rattle.std.proofs.lemmas.Bool.{eq-eqb, ne_eqb}
use Rattle.std.proofs.lemmas.Bool.Decides.{eqb_tells}
use lib.IntN.{ℤ, pos}
use Rattle.nil_word.specs.Exponents.{numbers}
use Rattle.binom_poly.specs.declared.term.Term.{Term}
use Rattle.binom_poly.specs.Variable.{y_of}
use Rattle.poly_subst.specs.declared.assign.Assign.{Assign}
use Rattle.poly_subst.specs.Renaming.{holds, zeroed, terms_to_y}
use Rattle.poly_subst.specs.Substitute.{assigned}
use Rattle.poly_subst.specs.Walk.{in_x, in_y}

-- ---- points with zeros
pub zeroed_listed : (vs : List ℕ) (a : ℕ → ℤ) (v : ℕ) → holds vs v ≡ true → zeroed vs a v ≡ pos 0
zeroed_listed vs a v h = rw h refl

pub zeroed_other : (vs : List ℕ) (a : ℕ → ℤ) (v : ℕ) → holds vs v ≡ false → zeroed vs a v ≡ a v
zeroed_other vs a v h = rw h refl

-- ---- lists of variables
holds_here : (w : ℕ) (ws : List ℕ) (v : ℕ) → w ≡ v → holds (w ∷ ws) v ≡ true
holds_here w ws v e = rw (eq-eqb w v e) refl

holds_there : (w : ℕ) (ws : List ℕ) (v : ℕ) → holds ws v ≡ true → holds (w ∷ ws) v ≡ true
holds_there w ws v h = rw h (or_true (w == v))
  where
    or_true : (b : Bool) → (b || true) ≡ true
    or_true true = refl
    or_true false = refl

holds_not : (w : ℕ) (ws : List ℕ) (v : ℕ) → w ≢ v → holds ws v ≡ false → holds (w ∷ ws) v ≡ false
holds_not w ws v n h = rw (ne_eqb w v n) h

pub holds-append_left : (us vs : List ℕ) (v : ℕ) → holds us v ≡ true → holds (us ++ vs) v ≡ true
holds-append_left [] vs v h = absurd (let e : false ≡ true = h in cc)
holds-append_left (u ∷ us) vs v h =
    elim (eqb_tells u v) [
      | inl same ↦ holds_here u (us ++ vs) v same.1
      | inr other ↦
          holds_there u (us ++ vs) v
          (holds-append_left us vs v (sym (rw (ne_eqb u v other.1) refl) ∙ h))
    ]

pub holds-append_right : (us vs : List ℕ) (v : ℕ) → holds us v ≡ false
    → holds (us ++ vs) v ≡ holds vs v
holds-append_right [] vs v h = refl
holds-append_right (u ∷ us) vs v h =
    elim (eqb_tells u v) [
      | inl same ↦ absurd (let e : true ≡ false = sym (holds_here u us v same.1) ∙ h in cc)
      | inr other ↦
          rw (ne_eqb u v other.1)
          (holds-append_right us vs v (sym (rw (ne_eqb u v other.1) refl) ∙ h))
    ]

pub holds-numbers : (low d v : ℕ) → low ≤ v → v < low + d → holds (numbers low d) v ≡ true
holds-numbers low zero v l h = absurd (omega arith)
holds-numbers low (suc d) v l h =
    elim (eqb_tells low v) [
      | inl same ↦ holds_here low (numbers (suc low) d) v same.1
      | inr other ↦
          (let n : low ≢ v = other.1 in
          holds_there low (numbers (suc low) d) v
          (holds-numbers (suc low) d v (omega arith) (omega arith)))
    ]

pub holds-numbers_outside : (low d v : ℕ) → ((m : ℕ) → low ≤ m → m < low + d → m ≢ v)
    → holds (numbers low d) v ≡ false
holds-numbers_outside low zero v n = refl
holds-numbers_outside low (suc d) v n =
    holds_not low (numbers (suc low) d) v (n low (omega arith) (omega arith))
    (holds-numbers_outside (suc low) d v (λ m l h. n m (omega arith) (omega arith)))

pub holds-ys : (low d m : ℕ) → low ≤ m → m < low + d
    → holds (map y_of (numbers low d)) (y_of m) ≡ true
holds-ys low zero m l h = absurd (omega arith)
holds-ys low (suc d) m l h =
    elim (eqb_tells low m) [
      | inl same ↦ holds_here (y_of low) (map y_of (numbers (suc low) d)) (y_of m) (ap y_of same.1)
      | inr other ↦
          (let n : low ≢ m = other.1 in
          holds_there (y_of low) (map y_of (numbers (suc low) d)) (y_of m)
          (holds-ys (suc low) d m (omega arith) (omega arith)))
    ]

pub holds-ys_x : (low d v : ℕ) → v < 64 → holds (map y_of (numbers low d)) v ≡ false
holds-ys_x low zero v l = refl
holds-ys_x low (suc d) v l =
    holds_not (y_of low) (map y_of (numbers (suc low) d)) v (λ e. omega arith)
    (holds-ys_x (suc low) d v l)

-- all but one
abbrev pub others : ℕ → List ℕ → List ℕ
others j ks = map y_of (filter (λ k. not (k == j)) ks)

others_skip : (j k : ℕ) (ks : List ℕ) → k ≡ j → others j (k ∷ ks) ≡ others j ks
others_skip j k ks e = rw (eq-eqb k j e) refl

others_take : (j k : ℕ) (ks : List ℕ) → k ≢ j → others j (k ∷ ks) ≡ y_of k ∷ others j ks
others_take j k ks n = rw (ne_eqb k j n) refl

pub holds-others : (j low d m : ℕ) → low ≤ m → m < low + d → m ≢ j
    → holds (others j (numbers low d)) (y_of m) ≡ true
holds-others j low zero m l h n = absurd (omega arith)
holds-others j low (suc d) m l h n =
    elim (eqb_tells low j) [
      | inl same ↦
          (let e : low ≡ j = same.1 in
          ap (λ (vs : List ℕ). holds vs (y_of m)) (others_skip j low (numbers (suc low) d) e)
          ∙ holds-others j (suc low) d m (omega arith) (omega arith) n)
      | inr other ↦
          ap (λ (vs : List ℕ). holds vs (y_of m)) (others_take j low (numbers (suc low) d) other.1)
          ∙ elim (eqb_tells low m) [
            | inl same ↦ holds_here (y_of low) (others j (numbers (suc low) d)) (y_of m) (ap y_of same.1)
            | inr apart ↦
                (let ne : low ≢ m = apart.1 in
                holds_there (y_of low) (others j (numbers (suc low) d)) (y_of m)
                (holds-others j (suc low) d m (omega arith) (omega arith) n))
          ]
    ]

pub holds-others_not : (j low d v : ℕ) → ((m : ℕ) → m ≢ j → y_of m ≢ v)
    → holds (others j (numbers low d)) v ≡ false
holds-others_not j low zero v n = refl
holds-others_not j low (suc d) v n =
    elim (eqb_tells low j) [
      | inl same ↦
          ap (λ (vs : List ℕ). holds vs v) (others_skip j low (numbers (suc low) d) same.1)
          ∙ holds-others_not j (suc low) d v n
      | inr other ↦
          ap (λ (vs : List ℕ). holds vs v) (others_take j low (numbers (suc low) d) other.1)
          ∙ holds_not (y_of low) (others j (numbers (suc low) d)) v (n low other.1)
          (holds-others_not j (suc low) d v n)
    ]

-- ---- what is put in
assigned_here : (s : Assign) (ss : List Assign) (v : ℕ) → s.var ≡ v → assigned (s ∷ ss) v ≡ Some s.to
assigned_here s ss v e = rw (eq-eqb s.var v e) refl

assigned_there : (s : Assign) (ss : List Assign) (v : ℕ) → s.var ≢ v
    → assigned (s ∷ ss) v ≡ assigned ss v
assigned_there s ss v n = rw (ne_eqb s.var v n) refl

pub assigned_one : (v : ℕ) (q : List Term) → assigned (record { var = v; to = q } ∷ []) v ≡ Some q
assigned_one v q = assigned_here record { var = v; to = q } [] v refl

pub assigned_none : (v w : ℕ) (q : List Term) → v ≢ w
    → assigned (record { var = v; to = q } ∷ []) w ≡ None
assigned_none v w q n = assigned_there record { var = v; to = q } [] w n

pub assigned-in_x : (low d : ℕ) (h : ℕ → List Term) (m : ℕ) → low ≤ m → m < low + d
    → assigned (in_x low d h) m ≡ Some (h m)
unfolding in_x
assigned-in_x low zero h m l u = absurd (omega arith)
assigned-in_x low (suc d) h m l u =
    elim (eqb_tells low m) [
      | inl same ↦
          assigned_here record { var = low; to = h low } (in_x (suc low) d h) m same.1
          ∙ ap (λ (k : ℕ). Some (h k)) same.1
      | inr other ↦
          (let n : low ≢ m = other.1 in
          assigned_there record { var = low; to = h low } (in_x (suc low) d h) m n
          ∙ assigned-in_x (suc low) d h m (omega arith) (omega arith))
    ]

pub assigned-in_x_y : (low d : ℕ) (h : ℕ → List Term) (v : ℕ) → low + d ≤ v
    → assigned (in_x low d h) v ≡ None
unfolding in_x
assigned-in_x_y low zero h v l = refl
assigned-in_x_y low (suc d) h v l =
    assigned_there record { var = low; to = h low } (in_x (suc low) d h) v (λ e. omega arith)
    ∙ assigned-in_x_y (suc low) d h v (omega arith)

pub assigned-in_y : (low d : ℕ) (h : ℕ → List Term) (m : ℕ) → low ≤ m → m < low + d
    → assigned (in_y low d h) (y_of m) ≡ Some (terms_to_y (h m))
unfolding in_y
assigned-in_y low zero h m l u = absurd (omega arith)
assigned-in_y low (suc d) h m l u =
    elim (eqb_tells low m) [
      | inl same ↦
          (let e : low ≡ m = same.1 in
          assigned_here record { var = y_of low; to = terms_to_y (h low) } (in_y (suc low) d h) (y_of m)
          (omega arith)
          ∙ ap (λ (k : ℕ). Some (terms_to_y (h k))) same.1)
      | inr other ↦
          (let n : low ≢ m = other.1 in
          assigned_there record { var = y_of low; to = terms_to_y (h low) } (in_y (suc low) d h) (y_of m)
          (λ e. n (omega arith))
          ∙ assigned-in_y (suc low) d h m (omega arith) (omega arith))
    ]

pub assigned-in_y_x : (low d : ℕ) (h : ℕ → List Term) (v : ℕ) → v < 64
    → assigned (in_y low d h) v ≡ None
unfolding in_y
assigned-in_y_x low zero h v l = refl
assigned-in_y_x low (suc d) h v l =
    assigned_there record { var = y_of low; to = terms_to_y (h low) } (in_y (suc low) d h) v
    (λ e. omega arith)
    ∙ assigned-in_y_x (suc low) d h v l
