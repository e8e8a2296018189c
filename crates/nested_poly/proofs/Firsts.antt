-- The first branch of nodes
use Rattle.std.proofs.Common.{◌≡◌, List, [], ◌∷◌, ◌++◌, length, take, drop, refl, sym, ap, ◌∙◌, subst, arith}
use Rattle.binom_poly.specs.declared.part.Part.{Part}
use Rattle.nested_poly.specs.declared.node.Node.{Node}
use Rattle.nested_poly.specs.Nodes.{branch_terms, terms_of}
use Rattle.nested_poly.specs.Roots.{first_branch, HasFirst}
use Rattle.nested_poly.proofs.Branching.{Front, forest_front, terms_first}

pub no_first : (p : Part) (ns : List Node) → length ns ≡ 0 → HasFirst p ns → ⊥
unfolding HasFirst
no_first p [] l h = h
no_first p (n ∷ ns) l h = omega arith

pub record First (p : Part) (ns after : List Node) (n : Node) : Type 0 where
  pub part : n.part ≡ p
  pub front : Front n after

pub first_of : (p : Part) (ns after : List Node) (n : Node) → ns ≡ n ∷ after → HasFirst p ns → First p ns after n
unfolding HasFirst
first_of p ns after n e h =
    let k = subst (HasFirst p) e h in
    record { part = k.0; front = forest_front n after k.1 }

pub first_is : (ns after below : List Node) (n : Node) → ns ≡ n ∷ after → below ≡ take n.below after → first_branch ns ≡ branch_terms n (terms_of below)
unfolding first_branch
first_is ns after below n e f = ap first_branch e ∙ ap (λ ms. branch_terms n (terms_of ms)) (sym f)

pub first_and_next : (ns after next : List Node) (n : Node) → ns ≡ n ∷ after → next ≡ drop n.below after → terms_of ns ≡ first_branch ns ++ terms_of next
unfolding first_branch
first_and_next ns after next n e f =
    ap terms_of e ∙ terms_first n after ∙ ap (λ ms. branch_terms n (terms_of (take n.below after)) ++ terms_of ms) (sym f)
    ∙ ap (λ ts. ts ++ terms_of next) (sym (first_is ns after (take n.below after) n e refl))
