-- The trees of a type as they grew, and the polynomials of a level, one after the other.
--   e exponents · level · k type · n count · a o arenas · ws ways · now ts stacks · w way
use Rattle.std.proofs.Common.{◌≡◌, ℕ, ◌+◌, ◌≤◌, List, [], ◌∷◌, ◌++◌, map, refl, ap, ◌∙◌, subst, arith, inl, inr, add-one}
use Rattle.std.specs.Prelude.{All}
use Rattle.std.proofs.lemmas.Bool.{cases_lt}
use Rattle.dt_letters.specs.declared.tree.Tree.{Tree}
use Rattle.dt_letters.specs.Letters.{Letter}
use Rattle.dt_letters.specs.Allowed.{Exponents, IsRising}
use Rattle.dt_letters.specs.Listing.{Grew, grown, trees}
use Rattle.dt_letters.specs.Arena.{Arena, letter_in}
use Rattle.dt_letters.proofs.Trees.{lists_least_trees}
use Rattle.dt_trees.specs.declared.grown.Grown.{Grown}
use Rattle.dt_trees.specs.Ways.{stack_in, AreWays}
use Rattle.dt_trees.specs.Polynomials.{IsOver, TreesOverflow, poly_of, polys_of, AnyPolyOverflows}
use Rattle.dt_trees.proofs.Permuted.{letters-of_ways, all-of, from-more}

pub trees-grown : (e : Exponents) (level k : ℕ) (o a : Arena) (ws : List Grown) (now ts : List Tree)
    → now ≡ [] → AreWays a ws (grown e level k (stack_in o now) k) → ts ≡ map (λ w. w.tree) ws
    → map (letter_in a) ts ≡ trees e level k
trees-grown e level k o a ws now ts none ways same =
    let tree : Grew → Letter = λ w. w.tree in
    ap (map (letter_in a)) same ∙ letters-of_ways a ws ∙ ap (map tree) ways.are
    ∙ ap (λ (ms : List Tree). map tree (grown e level k (stack_in o ms) k)) none

pub trees-over : (e : Exponents) (level k n : ℕ) → IsRising e → 1 ≤ level → k ≤ n
    → All (IsOver e n) (trees e level k)
trees-over e level k n rise one few =
    all-of (IsOver e n) (trees e level k)
    (λ t h. let q = ((lists_least_trees e level k rise one).0 t).0 h in
    record { letter = q.0; leaves = from-more 1 level t one q.1; kind = omega (arith, q.3, few) })

pub polys-none : (e : Exponents) (level : ℕ) → polys_of e level 0 ≡ []
unfolding polys_of
polys-none e level = refl

pub polys-next : (e : Exponents) (level n : ℕ)
    → polys_of e level (n + 1) ≡ polys_of e level n ++ poly_of e level (level + n) ∷ []
unfolding polys_of
polys-next e level n = rw add-one refl

pub fit-next : (e : Exponents) (level n : ℕ) → (AnyPolyOverflows e level n → ⊥)
    → (TreesOverflow e (trees e level (level + n)) → ⊥) → AnyPolyOverflows e level (n + 1) → ⊥
fit-next e level n h k p = elim (cases_lt p.0 n) [
  | inl lt ↦ h (p.0, lt, p.2)
  | inr ge ↦
      let same : p.0 ≡ n = omega (arith, p.1, ge) in
      k (subst (λ (i : ℕ). TreesOverflow e (trees e level (level + i))) same p.2)
]
