-- What is put in place of the x, and of the y: lists that grow, and their variables.
--   t table · low d   numbers, d of them from low on · k m generators · h a polynomial for each
use Rattle.std.proofs.Common.{◌≡◌, ◌≢◌, ℕ, zero, suc, ◌+◌, ◌-◌, ◌<◌, ◌≤◌, List, [], ◌∷◌, ◌++◌, length, map, get_or, refl, sym, ap, ◌∙◌, subst, arith}
use Rattle.std.specs.Prelude.{All, AllPairs}
use Rattle.std.proofs.lemmas.List.{get_or-map, length-map}
use Rattle.std.proofs.lemmas.List.Elements.{All-nil, All-cons}
use Rattle.std.proofs.lemmas.List.Kept.{AllPairs-cons}
use Rattle.nil_word.specs.Exponents.{numbers}
use Rattle.binom_poly.specs.declared.term.Term.{Term}
use Rattle.binom_poly.specs.Monomial.{IsVariable}
use Rattle.binom_poly.specs.Variable.{y_of}
use Rattle.poly_subst.specs.declared.assign.Assign.{Assign}
use Rattle.poly_subst.specs.Renaming.{terms_to_y}
use Rattle.poly_subst.specs.Walk.{in_x, in_y}
use Rattle.hall_table.specs.Tabled.{Tabled, IsTabled}
use Rattle.hall_table.specs.Order.{generators}
use Rattle.identity_check.proofs.Agreeing.{bounds_of}
use Rattle.identity_check.proofs.Pushing.{numbers-more, x_is, y_is}

-- ---- growing
in_x-last : (low d : ℕ) (h : ℕ → List Term)
    → in_x low (suc d) h ≡ in_x low d h ++ record { var = low + d; to = h (low + d) } ∷ []
unfolding in_x
in_x-last low zero h =
    ap (λ (m : ℕ). record { var = m; to = h m } ∷ []) (let e : low ≡ low + 0 = omega arith in e)
in_x-last low (suc d) h =
    ap (λ (ss : List Assign). record { var = low; to = h low } ∷ ss)
    (in_x-last (suc low) d h
    ∙ ap (λ (m : ℕ). in_x (suc low) d h ++ record { var = m; to = h m } ∷ [])
    (let e : suc low + d ≡ low + suc d = omega arith in e))

in_y-last : (low d : ℕ) (h : ℕ → List Term)
    → in_y low (suc d) h
    ≡ in_y low d h ++ record { var = y_of (low + d); to = terms_to_y (h (low + d)) } ∷ []
unfolding in_y
in_y-last low zero h =
    ap (λ (m : ℕ). record { var = y_of m; to = terms_to_y (h m) } ∷ [])
    (let e : low ≡ low + 0 = omega arith in e)
in_y-last low (suc d) h =
    ap (λ (ss : List Assign). record { var = y_of low; to = terms_to_y (h low) } ∷ ss)
    (in_y-last (suc low) d h
    ∙ ap (λ (m : ℕ). in_y (suc low) d h ++ record { var = y_of m; to = terms_to_y (h m) } ∷ [])
    (let e : suc low + d ≡ low + suc d = omega arith in e))

pub more_in_x : (low k v : ℕ) (h : ℕ → List Term) (p : List Term) (ss out : List Assign) → low ≤ k
    → v ≡ k → p ≡ h k → ss ≡ in_x low (k - low) h → out ≡ ss ++ record { var = v; to = p } ∷ []
    → out ≡ in_x low (k + 1 - low) h
more_in_x low k v h p ss out l a b e o =
    o ∙ ap (λ (us : List Assign). us ++ record { var = v; to = p } ∷ []) e
    ∙ ap (λ (m : ℕ). in_x low (k - low) h ++ record { var = m; to = p } ∷ []) a
    ∙ ap (λ (q : List Term). in_x low (k - low) h ++ record { var = k; to = q } ∷ []) b
    ∙ ap (λ (m : ℕ). in_x low (k - low) h ++ record { var = m; to = h m } ∷ [])
    (let z : k ≡ low + (k - low) = omega arith in z)
    ∙ sym (ap (λ (d : ℕ). in_x low d h) (let z : k + 1 - low ≡ suc (k - low) = omega arith in z)
    ∙ in_x-last low (k - low) h)

pub more_in_y : (low k v : ℕ) (h : ℕ → List Term) (p : List Term) (ss out : List Assign) → low ≤ k
    → v ≡ y_of k → p ≡ terms_to_y (h k) → ss ≡ in_y low (k - low) h
    → out ≡ ss ++ record { var = v; to = p } ∷ [] → out ≡ in_y low (k + 1 - low) h
more_in_y low k v h p ss out l a b e o =
    o ∙ ap (λ (us : List Assign). us ++ record { var = v; to = p } ∷ []) e
    ∙ ap (λ (m : ℕ). in_y low (k - low) h ++ record { var = m; to = p } ∷ []) a
    ∙ ap (λ (q : List Term). in_y low (k - low) h ++ record { var = y_of k; to = q } ∷ []) b
    ∙ ap (λ (m : ℕ). in_y low (k - low) h ++ record { var = y_of m; to = terms_to_y (h m) } ∷ [])
    (let z : k ≡ low + (k - low) = omega arith in z)
    ∙ sym (ap (λ (d : ℕ). in_y low d h) (let z : k + 1 - low ≡ suc (k - low) = omega arith in z)
    ∙ in_y-last low (k - low) h)

map-last : (h : ℕ → List Term) (ks : List ℕ) (k : ℕ) → map h (ks ++ k ∷ []) ≡ map h ks ++ h k ∷ []
map-last h [] k = refl
map-last h (m ∷ ks) k = ap (λ (ps : List (List Term)). h m ∷ ps) (map-last h ks k)

pub more_polys : (low k : ℕ) (h : ℕ → List Term) (p : List Term) (ps out : List (List Term)) → low ≤ k
    → p ≡ h k → ps ≡ map h (numbers low (k - low)) → out ≡ ps ++ p ∷ []
    → out ≡ map h (numbers low (k + 1 - low))
more_polys low k h p ps out l b e o =
    o ∙ ap (λ (qs : List (List Term)). qs ++ p ∷ []) e
    ∙ ap (λ (q : List Term). map h (numbers low (k - low)) ++ q ∷ []) b
    ∙ sym (ap (map h) (numbers-more low k l) ∙ map-last h (numbers low (k - low)) k)

-- ---- places
length-numbers : (low d : ℕ) → length (numbers low d) ≡ d
length-numbers low zero = refl
length-numbers low (suc d) = ap suc (length-numbers (suc low) d)

get-numbers : (low d i : ℕ) → i < d → get_or (numbers low d) i 0 ≡ low + i
get-numbers low zero i h = absurd (omega arith)
get-numbers low (suc d) zero h = omega arith
get-numbers low (suc d) (suc i) h = get-numbers (suc low) d i (omega arith) ∙ omega arith

pub place_within : (low d k : ℕ) (h : ℕ → List Term) (ps : List (List Term)) → low ≤ k → k < low + d
    → ps ≡ map h (numbers low d) → k - low < length ps
place_within low d k h ps l u e =
    let n : length ps ≡ d =
    ap length e ∙ length-map (numbers low d) h ∙ length-numbers low d in
    omega arith

pub place_holds : (low d k : ℕ) (h : ℕ → List Term) (ps : List (List Term)) (q : List Term) → low ≤ k
    → k < low + d → ps ≡ map h (numbers low d) → get_or ps (k - low) q ≡ h k
place_holds low d k h ps q l u e =
    let n : k - low < length (numbers low d) = omega (arith, length-numbers low d) in
    ap (λ (qs : List (List Term)). get_or qs (k - low) q) e
    ∙ get_or-map h (numbers low d) (k - low) 0 q n
    ∙ ap h (get-numbers low d (k - low) (omega arith) ∙ (let z : low + (k - low) ≡ k = omega arith in z))

-- ---- variables
abbrev pub Named : Assign → Type 0
Named s = IsVariable s.var

abbrev pub Apart : Assign → Assign → Type 0
Apart s u = s.var ≢ u.var

named_x : (low d : ℕ) (h : ℕ → List Term) → 1 ≤ low → low + d ≤ 49 → All Named (in_x low d h)
unfolding in_x
named_x low zero h l u = All-nil Named
named_x low (suc d) h l u =
    All-cons Named record { var = low; to = h low } (in_x (suc low) d h) (x_is low l (omega arith))
    (named_x (suc low) d h (omega arith) (omega arith))

named_y : (low d : ℕ) (h : ℕ → List Term) → 1 ≤ low → low + d ≤ 49 → All Named (in_y low d h)
unfolding in_y
named_y low zero h l u = All-nil Named
named_y low (suc d) h l u =
    All-cons Named record { var = y_of low; to = terms_to_y (h low) } (in_y (suc low) d h)
    (y_is low l (omega arith)) (named_y (suc low) d h (omega arith) (omega arith))

above_x : (v low d : ℕ) (h : ℕ → List Term) → v < low → All (λ s. v ≢ s.var) (in_x low d h)
unfolding in_x
above_x v low zero h l = All-nil (λ (s : Assign). v ≢ s.var)
above_x v low (suc d) h l =
    All-cons (λ (s : Assign). v ≢ s.var) record { var = low; to = h low } (in_x (suc low) d h)
    (λ e. omega arith) (above_x v (suc low) d h (omega arith))

above_y : (v low d : ℕ) (h : ℕ → List Term) → v < low → All (λ s. y_of v ≢ s.var) (in_y low d h)
unfolding in_y
above_y v low zero h l = All-nil (λ (s : Assign). y_of v ≢ s.var)
above_y v low (suc d) h l =
    All-cons (λ (s : Assign). y_of v ≢ s.var) record { var = y_of low; to = terms_to_y (h low) }
    (in_y (suc low) d h) (λ e. omega arith) (above_y v (suc low) d h (omega arith))

apart_x : (low d : ℕ) (h : ℕ → List Term) → AllPairs Apart (in_x low d h)
unfolding in_x
apart_x low zero h = λ i j s l u. absurd (omega arith)
apart_x low (suc d) h =
    AllPairs-cons Apart record { var = low; to = h low } (in_x (suc low) d h)
    (above_x low (suc low) d h (omega arith)) (apart_x (suc low) d h)

apart_y : (low d : ℕ) (h : ℕ → List Term) → AllPairs Apart (in_y low d h)
unfolding in_y
apart_y low zero h = λ i j s l u. absurd (omega arith)
apart_y low (suc d) h =
    AllPairs-cons Apart record { var = y_of low; to = terms_to_y (h low) } (in_y (suc low) d h)
    (above_y low (suc low) d h (omega arith)) (apart_y (suc low) d h)

pub variables_x : (t : Tabled) (h : ℕ → List Term) (ss : List Assign) → IsTabled t
    → ss ≡ in_x t.level (generators t) h → All Named ss × AllPairs Apart ss
variables_x t h ss f e =
    let b = bounds_of t f in (
      subst (All Named) (sym e) (named_x t.level (generators t) h b.least (omega (arith, b.end, b.last))),
      subst (AllPairs Apart) (sym e) (apart_x t.level (generators t) h),
    )

pub variables_y : (t : Tabled) (h : ℕ → List Term) (ss : List Assign) → IsTabled t
    → ss ≡ in_y t.level (generators t) h → All Named ss × AllPairs Apart ss
variables_y t h ss f e =
    let b = bounds_of t f in (
      subst (All Named) (sym e) (named_y t.level (generators t) h b.least (omega (arith, b.end, b.last))),
      subst (AllPairs Apart) (sym e) (apart_y t.level (generators t) h),
    )
