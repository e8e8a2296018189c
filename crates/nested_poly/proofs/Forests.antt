-- Trees of polynomials, one after another
use Rattle.std.proofs.Common.{◌≡◌, ℕ, zero, suc, ◌+◌, ◌<◌, ◌≤◌, List, [], ◌∷◌, ◌++◌, length, get_or, take, refl, sym, ap, ◌∙◌, subst, arith}
use Rattle.std.specs.Prelude.{All}
use Rattle.std.proofs.lemmas.Grind.{take_at_read}
use Rattle.std.proofs.lemmas.List.Elements.{All-nil, All-push}
use Rattle.binom_poly.specs.declared.term.Term.{Term}
use Rattle.nested_poly.specs.declared.tree.Tree.{Tree}
use Rattle.nested_poly.specs.Nodes.{IsForest, IsNestOf}
use Rattle.nested_poly.specs.Trees.{tree_terms, forest_terms, AreNests}

pub record TreesSoFar (ts : List Tree) (ps : List (List Term)) : Type 0 where
  pub nests : AreNests (forest_terms ts) ps
  pub forms : All (λ t. IsForest t.nodes.items) ts

pub trees_begin : (ts : List Tree) (ps : List (List Term)) → ts ≡ [] → TreesSoFar ts (take 0 ps)
unfolding AreNests forest_terms
trees_begin ts ps e =
    subst (λ us. TreesSoFar us []) (sym e) record { nests = tt; forms = All-nil (λ (t : Tree). IsForest t.nodes.items) }

AreNests-push : (ts : List Tree) (ps : List (List Term)) (t : Tree) (p : List Term) → AreNests (forest_terms ts) ps → IsNestOf (tree_terms t) p → AreNests (forest_terms (ts ++ t ∷ [])) (ps ++ p ∷ [])
unfolding AreNests forest_terms
AreNests-push [] [] t p h k = (k, tt)
AreNests-push [] (q ∷ qs) t p h k = absurd h
AreNests-push (u ∷ us) [] t p h k = absurd h
AreNests-push (u ∷ us) (q ∷ qs) t p h k = (h.0, AreNests-push us qs t p h.1 k)

pub trees_more : (ts news : List Tree) (ps : List (List Term)) (i : ℕ) (t : Tree) (p : List Term) → i < length ps → p ≡ get_or ps i p → news ≡ ts ++ t ∷ [] → IsNestOf (tree_terms t) p → IsForest t.nodes.items
    → TreesSoFar ts (take i ps) → TreesSoFar news (take (i + 1) ps)
trees_more ts news ps i t p l e f h k s =
    subst (λ us. TreesSoFar us (take (i + 1) ps)) (sym f)
    (subst (TreesSoFar (ts ++ t ∷ [])) (sym ((take_at_read ps i p l).1 ∙ ap (λ q. take i ps ++ q ∷ []) (sym e)))
    record { nests = AreNests-push ts (take i ps) t p s.nests h; forms = All-push (λ (u : Tree). IsForest u.nodes.items) ts t s.forms k })

pub all_trees : (ts : List Tree) (ps : List (List Term)) (i : ℕ) → length ps ≤ i → TreesSoFar ts (take i ps) → TreesSoFar ts ps
all_trees ts ps i l s = subst (TreesSoFar ts) (all_taken ps i l) s
  where
    all_taken : (xs : List (List Term)) (j : ℕ) → length xs ≤ j → take j xs ≡ xs
    all_taken [] zero m = refl
    all_taken [] (suc j) m = refl
    all_taken (x ∷ xs) zero m = absurd (omega arith)
    all_taken (x ∷ xs) (suc j) m = ap (λ ys. x ∷ ys) (all_taken xs j (omega arith))

-- ---- one tree
pub length-forest_terms : (ts : List Tree) → length (forest_terms ts) ≡ length ts
unfolding forest_terms
length-forest_terms [] = refl
length-forest_terms (t ∷ ts) = omega (arith, length-forest_terms ts)

pub forest_at : (ts : List Tree) (i : ℕ) (t : Tree) → i < length ts → t ≡ get_or ts i t → get_or (forest_terms ts) i [] ≡ tree_terms t
unfolding forest_terms
forest_at [] i t l e = absurd (omega arith)
forest_at (u ∷ us) zero t l e = ap tree_terms (sym e)
forest_at (u ∷ us) (suc i) t l e = forest_at us i t (omega arith) e

pub form_at : (ts : List Tree) (i : ℕ) (t : Tree) → i < length ts → t ≡ get_or ts i t → All (λ t. IsForest t.nodes.items) ts → IsForest t.nodes.items
form_at ts i t l e h = subst (λ (u : Tree). IsForest u.nodes.items) (sym e) (h i t l)

pub place_within : (ts : List Tree) (now : List (List Term)) (i : ℕ) → forest_terms ts ≡ now → i < length now → i < length ts
place_within ts now i e l = subst (λ n. i < n) (ap length (sym e) ∙ length-forest_terms ts) l

pub tree_read : (ts : List Tree) (now : List (List Term)) (i : ℕ) (t : Tree) → forest_terms ts ≡ now → i < length now → t ≡ get_or ts i t → get_or now i [] ≡ tree_terms t
tree_read ts now i t e l f = ap (λ us. get_or us i []) (sym e) ∙ forest_at ts i t (place_within ts now i e l) f
