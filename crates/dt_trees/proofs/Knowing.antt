-- The ways to grow from nothing, as they are found type by type.
--   a b arenas · e exponents · wss lists of ways · ways those of one type · i place · p type · r answer
use Rattle.std.proofs.Common.{◌≡◌, ℕ, zero, suc, ◌+◌, ◌<◌, List, [], ◌∷◌, ◌++◌, length, get_or, refl, sym, ap, ◌∙◌, subst, arith, inl, inr, length-append, Ok, Err}
use Rattle.std.specs.Prelude.{Vec, OnOk, Result}
use Rattle.std.specs.declared.alloc.Global.{Global}
use Rattle.std.proofs.lemmas.Bool.{cases_lt}
use Rattle.std.proofs.lemmas.List.{get_or_append_left, get_or-append-add}
use Rattle.nil_pres.specs.Presented.{Presented}
use Rattle.dt_letters.specs.Allowed.{Exponents, exponents_of}
use Rattle.dt_letters.specs.Listing.{Grew, grown}
use Rattle.dt_letters.specs.Arena.{Arena, IsExtended}
use Rattle.dt_trees.specs.declared.grown.Grown.{Grown}
use Rattle.dt_trees.specs.Ways.{IsWay, AreWays}
use Rattle.dt_trees.specs.Known.{AreKnown}
use Rattle.std.proofs.lemmas.List.Elements.{All-nil}
use Rattle.dt_trees.proofs.Low.{grown-low}
use Rattle.dt_trees.proofs.Gaining.{ways-kept}

-- over a later arena
pub known-at : (a b : Arena) → IsExtended a b → (level : ℕ) (wss : List (Vec Grown Global))
    → AreKnown a (exponents_of a.pres) level wss → (p i : ℕ) (ways : Vec Grown Global) (now : List Grown)
    → level + i ≡ p → i < length wss → ways ≡ get_or wss i ways → now ≡ ways.items
    → AreWays b now (grown (exponents_of b.pres) level p [] p)
known-at a b x level wss h p i ways now e lt is same =
    let from : Presented → ℕ → List Grew = λ r n. grown (exponents_of r) level n [] n in
    let here : AreWays a ways.items (from a.pres (level + i)) =
    subst (λ (v : Vec Grown Global). AreWays a v.items (from a.pres (level + i))) (sym is) (h i ways lt) in
    let there : AreWays a now (from a.pres p) =
    subst (λ (n : ℕ). AreWays a now (from a.pres n)) e
    (subst (λ (ls : List Grown). AreWays a ls (from a.pres (level + i))) (sym same) here) in
    subst (λ (r : Presented). AreWays b now (from r p)) (sym x.0) (ways-kept a b x now (from a.pres p) there)

pub known-kept : (a b : Arena) → IsExtended a b → (level : ℕ) (wss : List (Vec Grown Global))
    → AreKnown a (exponents_of a.pres) level wss → AreKnown b (exponents_of b.pres) level wss
known-kept a b x level wss h i d lt =
    let from : Presented → List Grew = λ r. grown (exponents_of r) level (level + i) [] (level + i) in
    subst (λ (r : Presented). AreWays b (get_or wss i d).items (from r)) (sym x.0)
    (ways-kept a b x (get_or wss i d).items (from a.pres) (h i d lt))

pub known-none : (a : Arena) (e : Exponents) (level : ℕ) → AreKnown a e level []
known-none a e level i d lt = absurd (omega (arith, lt))

pub ways-low : (a : Arena) (e : Exponents) (level k : ℕ) (ws : List Grown) → k < level → ws ≡ []
    → AreWays a ws (grown e level k [] k)
ways-low a e level k ws low none =
    subst (λ (us : List Grown). AreWays a us (grown e level k [] k)) (sym none)
    (record { ways = All-nil (IsWay a); are = sym (grown-low e level k [] k low) })

-- those of the next type
pub known-next : (a b : Arena) → IsExtended a b → (level : ℕ) (wss vss : List (Vec Grown Global))
    (ways : Vec Grown Global) (p : ℕ) → p ≡ level + length wss → vss ≡ wss ++ ways ∷ []
    → AreKnown a (exponents_of a.pres) level wss → AreWays b ways.items (grown (exponents_of a.pres) level p [] p)
    → AreKnown b (exponents_of b.pres) level vss
known-next a b x level wss vss ways p e more h new =
    subst (AreKnown b (exponents_of b.pres) level) (sym more) (λ i d lt. elim (cases_lt i (length wss)) [
      | inl low ↦
          known-at a b x level wss h (level + i) i (get_or wss i d) (get_or (wss ++ ways ∷ []) i d).items refl low
          (same_at wss i d low) (ap (λ (v : Vec Grown Global). v.items) (get_or_append_left wss (ways ∷ []) d i low))
      | inr high ↦
          let n : i ≡ length wss + 0 = omega (arith, lt, high, length-append wss (ways ∷ [])) in
          let at : ways ≡ get_or (wss ++ ways ∷ []) i d =
          sym (ap (λ (j : ℕ). get_or (wss ++ ways ∷ []) j d) n ∙ get_or-append-add wss (ways ∷ []) 0 d) in
          let q : p ≡ level + i = omega (arith, e, n) in
          let from : Presented → ℕ → List Grew = λ r m. grown (exponents_of r) level m [] m in
          subst (λ (v : Vec Grown Global). AreWays b v.items (from b.pres (level + i))) at
          (subst (λ (m : ℕ). AreWays b ways.items (from b.pres m)) q
          (subst (λ (r : Presented). AreWays b ways.items (from r p)) (sym x.0) new))
    ])
  where
    same_at : (vs : List (Vec Grown Global)) (i : ℕ) (d : Vec Grown Global) → i < length vs
        → get_or vs i d ≡ get_or vs i (get_or vs i d)
    same_at [] i d lt = absurd (omega (arith, lt))
    same_at (v ∷ vs) zero d lt = refl
    same_at (v ∷ vs) (suc i) d lt = same_at vs i d (omega (arith, lt))

pub ok_of : {A E : Type 0} (r : Result A E) (P : Type 0) → P → OnOk r P
ok_of (Ok x) P h = h
ok_of (Err x) P h = tt
