-- Contributions of trees, and which overflow.
--   e exponents · a arena · t letter · ts us letters · cs terms · i place · ms trees · o tree
use Rattle.std.proofs.Common.{◌≡◌, ℕ, zero, suc, ◌+◌, ◌<◌, List, [], ◌∷◌, ◌++◌, length, get_or, take, drop, map, refl, sym, ap, ◌∙◌, subst, inl, inr, ◌⊎◌}
use Rattle.std.proofs.lemmas.List.{map-append, take_more}
use Rattle.binom_poly.specs.Weight.{DoOverflow}
use Rattle.binom_poly.proofs.Contributing.{overflows_append}
use Rattle.dt_letters.specs.declared.tree.Tree.{Tree}
use Rattle.dt_letters.specs.Letters.{Letter}
use Rattle.dt_letters.specs.Allowed.{Exponents}
use Rattle.dt_letters.specs.Arena.{Arena, letter_in}
use Rattle.dt_trees.specs.Polynomials.{term_of, terms_of, ConstantOverflows, AnyOverflows, TreesOverflow}

pub any-left : (e : Exponents) (ts us : List Letter) → AnyOverflows e ts → AnyOverflows e (ts ++ us)
any-left e [] us h = absurd h
any-left e (t ∷ ts) us (inl h) = inl h
any-left e (t ∷ ts) us (inr h) = inr (any-left e ts us h)

any-right : (e : Exponents) (ts us : List Letter) → AnyOverflows e us → AnyOverflows e (ts ++ us)
any-right e [] us h = h
any-right e (t ∷ ts) us h = inr (any-right e ts us h)

any-last : (e : Exponents) (ts : List Letter) (t : Letter) → AnyOverflows e (ts ++ t ∷ [])
    → AnyOverflows e ts ⊎ ConstantOverflows e t
any-last e [] t (inl h) = inr h
any-last e [] t (inr h) = absurd h
any-last e (u ∷ ts) t (inl h) = inl (inl h)
any-last e (u ∷ ts) t (inr h) = elim (any-last e ts t h) [ inl p ↦ inl (inr p) | inr p ↦ inr p ]

take_drop : (i : ℕ) (ms : List Tree) → ms ≡ take i ms ++ drop i ms
take_drop zero ms = refl
take_drop (suc i) [] = refl
take_drop (suc i) (m ∷ ms) = ap (λ (xs : List Tree). m ∷ xs) (take_drop i ms)

module _ (e : Exponents) (a : Arena) (ms : List Tree) where
  abbrev first : ℕ → List Letter
  first i = map (letter_in a) (take i ms)

  pub first-next : (i : ℕ) (o : Tree) → i < length ms
      → first (i + 1) ≡ first i ++ letter_in a (get_or ms i o) ∷ []
  first-next i o lt =
      ap (map (letter_in a)) (take_more ms i o lt)
      ∙ map-append (letter_in a) (take i ms) (get_or ms i o ∷ [])

  pub terms-next : (i : ℕ) (o : Tree) → i < length ms
      → terms_of e (first (i + 1)) ≡ terms_of e (first i) ++ term_of e (letter_in a (get_or ms i o)) ∷ []
  terms-next i o lt =
      ap (terms_of e) (first-next i o lt)
      ∙ map-append (term_of e) (first i) (letter_in a (get_or ms i o) ∷ [])

  pub fits-next : (i : ℕ) (o : Tree) → i < length ms → (AnyOverflows e (first i) → ⊥)
      → (ConstantOverflows e (letter_in a (get_or ms i o)) → ⊥) → AnyOverflows e (first (i + 1)) → ⊥
  fits-next i o lt h k p =
      elim (any-last e (first i) (letter_in a (get_or ms i o)) (subst (AnyOverflows e) (first-next i o lt) p)) [
        | inl q ↦ h q
        | inr q ↦ k q
      ]

  all-first : (i : ℕ) → map (letter_in a) ms ≡ first i ++ map (letter_in a) (drop i ms)
  all-first i = ap (map (letter_in a)) (take_drop i ms) ∙ map-append (letter_in a) (take i ms) (drop i ms)

  -- what overflows with the next tree overflows with all
  pub overflows-next : (i : ℕ) (o : Tree) → i < length ms
      → ConstantOverflows e (letter_in a (get_or ms i o))
      ⊎ DoOverflow (terms_of e (first i) ++ term_of e (letter_in a (get_or ms i o)) ∷ [])
      → TreesOverflow e (map (letter_in a) ms)
  overflows-next i o lt (inl h) =
      inl (subst (AnyOverflows e) (sym (all-first (i + 1)))
      (any-left e (first (i + 1)) (map (letter_in a) (drop (i + 1) ms))
      (subst (AnyOverflows e) (sym (first-next i o lt))
      (any-right e (first i) (letter_in a (get_or ms i o) ∷ []) (inl h)))))
  overflows-next i o lt (inr h) =
      inr (subst DoOverflow
      (sym (ap (terms_of e) (all-first (i + 1))
      ∙ map-append (term_of e) (first (i + 1)) (map (letter_in a) (drop (i + 1) ms))))
      (overflows_append (terms_of e (first (i + 1))) (terms_of e (map (letter_in a) (drop (i + 1) ms)))
      (subst DoOverflow (sym (terms-next i o lt)) h)))
