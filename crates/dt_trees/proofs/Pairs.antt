-- Growing by a left and a right letter, over an arena.
--   a b d arenas · w left way · ws vs us ways · ts now stacks · e exponents · k p q types · c limit
use Rattle.std.proofs.Common.{◌≡◌, ◌≢◌, ℕ, zero, suc, ◌+◌, ◌-◌, ◌<◌, ◌≤◌, ◌^◌, List, [], ◌∷◌, ◌++◌, map, refl, sym, ap, ◌∙◌, subst, arith, Bool, false, ℤ, pos, negsuc, if◌then◌else◌}
use Rattle.std.specs.Prelude.{All}
use Rattle.std.proofs.lemmas.List.Elements.{All-push}
use Rattle.nil_pres.specs.Presented.{Presented}
use Rattle.dt_letters.specs.declared.tree.Tree.{Tree}
use Rattle.dt_letters.specs.Letters.{Letter}
use Rattle.dt_letters.specs.Allowed.{Exponents, exponents_of}
use Rattle.dt_letters.specs.Growth.{AreBelow, most_steps}
use Rattle.dt_letters.specs.Listing.{Grew, each, grown, is_zero, joined}
use Rattle.dt_letters.specs.Arena.{Arena, IsTreeOf, IsExtended}
use Rattle.dt_trees.specs.declared.grown.Grown.{Grown}
use Rattle.dt_trees.specs.Ways.{stack_in, grown_in, IsWay, AreWays, Gains, FitsFor, IsSmall, rights_of, pair_ways}
use Rattle.dt_trees.proofs.Small.{IsWithin, grown-within, all_below-more, steps-least, steps-more, steps-node, steps-small}
use Rattle.dt_trees.proofs.Stacks.{trees-kept, stack-kept, stack-push}
use Rattle.dt_letters.proofs.Different.{extended-refl}
use Rattle.dt_trees.proofs.Low.{pair-low}
use Rattle.dt_trees.proofs.Gaining.{gains-nothing, gains-before, gains-same, way-kept}

-- the left letter is pushed

pub pushed-trees : (a b : Arena) → IsExtended a b → (w : Grown) → IsWay a w → (ts now : List Tree)
    → ts ≡ w.list.items ++ w.tree ∷ [] → now ≡ ts → All (IsTreeOf b) now
pushed-trees a b x w h ts now e same =
    subst (All (IsTreeOf b)) (sym (same ∙ e))
    (All-push (IsTreeOf b) w.list.items w.tree (trees-kept a b x w.list.items h.list) (x.1 w.tree h.tree).0)

pub pushed-stack : (a b : Arena) → IsExtended a b → (w : Grown) → IsWay a w → (ts now : List Tree)
    → ts ≡ w.list.items ++ w.tree ∷ [] → now ≡ ts
    → stack_in b now ≡ (grown_in a w).tree ∷ (grown_in a w).list
pushed-stack a b x w h ts now e same =
    ap (stack_in b) (same ∙ e) ∙ stack-push b w.list.items w.tree
    ∙ ap (λ (g : Grew). g.tree ∷ g.list) (way-kept a b x w h).1

-- numbers

all-weaker : (P Q : Grew → Type 0) → ((g : Grew) → P g → Q g) → (gs : List Grew) → All P gs → All Q gs
all-weaker P Q f gs h = λ i d lt. f _ (h i d lt)

within-both : (n m : ℕ) → n ≤ m → (g : Grew) → IsWithin n g → AreBelow m (g.tree ∷ g.list)
within-both n m le g h = all_below-more n m (g.tree ∷ g.list) le (h.tree, h.list)

pub rights-small : (e : Exponents) (level q : ℕ) (ts : List Letter) → q ≤ 48
    → AreBelow (2 ^ 63 - most_steps q) ts → All IsSmall (grown e level q ts q)
rights-small e level q ts most small =
    let n = 2 ^ 63 - most_steps q in
    let top = steps-small q most in
    let low = steps-least q in
    all-weaker (IsWithin (n + most_steps q)) IsSmall
    (λ g h. (within-both (n + most_steps q) (2 ^ 63) (omega (arith, top, low)) g h).1)
    (grown e level q ts q) (grown-within e level q n q ts (omega (arith, top, low)) small)

pub lefts-small : (e : Exponents) (level k p q : ℕ) (ts : List Letter) → k ≤ 48 → p < k → q < k
    → AreBelow (2 ^ 63 - most_steps k) ts → All (FitsFor q) (grown e level p ts p)
lefts-small e level k p q ts most a b small =
    let n = 2 ^ 63 - most_steps k in
    let top = steps-small k most in
    let low = steps-least k in
    let node = steps-node p q k a b in
    all-weaker (IsWithin (n + most_steps p)) (FitsFor q)
    (λ g h. within-both (n + most_steps p) (2 ^ 63 - most_steps q) (omega (arith, top, low, node)) g h)
    (grown e level p ts p) (grown-within e level p n p ts (omega (arith, top, low)) small)

pub half-small : (k p : ℕ) (ts : List Letter) → p ≤ k → AreBelow (2 ^ 63 - most_steps k) ts
    → AreBelow (2 ^ 63 - most_steps p) ts
half-small k p ts le small =
    all_below-more (2 ^ 63 - most_steps k) (2 ^ 63 - most_steps p) ts (omega (arith, steps-more p k le)) small

-- ways

pub rights-same : (a b d : Arena) → IsExtended a b → IsExtended b d → (level q k : ℕ) (c : ℤ)
    (rights : List Grown) (now : List Tree) (left : Grew) → stack_in b now ≡ left.tree ∷ left.list
    → AreWays d rights (grown (exponents_of b.pres) level q (stack_in b now) q)
    → each (λ w. joined (exponents_of d.pres) k c w.tree w.list) (map (grown_in d) rights)
    ≡ rights_of (exponents_of a.pres) level q k c left
rights-same a b d x y level q k c rights now left e ways =
    let f : Presented → List Grew → List Grew =
    λ p gs. each (λ w. joined (exponents_of p) k c w.tree w.list) gs in
    let g : Presented → List Letter → List Grew = λ p ts. grown (exponents_of p) level q ts q in
    ap (f d.pres) ways.are ∙ ap (λ (ts : List Letter). f d.pres (g b.pres ts)) e
    ∙ ap (λ (p : Presented). f p (g b.pres (left.tree ∷ left.list))) (y.0 ∙ x.0)
    ∙ ap (λ (p : Presented). f a.pres (g p (left.tree ∷ left.list))) x.0

not_zero : (c : ℤ) → c ≢ pos 0 → is_zero c ≡ false
not_zero (pos zero) h = absurd (h refl)
not_zero (pos (suc n)) h = refl
not_zero (negsuc n) h = refl

pub gains-pair : (a b d : Arena) → IsExtended a b → (ws us lefts : List Grown) (level k p q : ℕ) (c : ℤ)
    (ts : List Letter) → c ≡ exponents_of a.pres q p k → c ≢ pos 0
    → AreWays b lefts (grown (exponents_of a.pres) level p ts p)
    → Gains b ws d us (each (rights_of (exponents_of b.pres) level q k c) (map (grown_in b) lefts))
    → Gains a ws d us (pair_ways (exponents_of a.pres) level ts k p q)
gains-pair a b d x ws us lefts level k p q c ts is some ways gains =
    let e = exponents_of a.pres in
    let f : ℤ → List Grew = λ z. each (rights_of e level q k z) (grown e level p ts p) in
    let nonzero : is_zero (e q p k) ≡ false = ap is_zero (sym is) ∙ not_zero c some in
    gains-before a b d ws us (pair_ways e level ts k p q) x
    (gains-same b d ws us (each (rights_of (exponents_of b.pres) level q k c) (map (grown_in b) lefts))
    (pair_ways e level ts k p q)
    (ap (λ (r : Presented). each (rights_of (exponents_of r) level q k c) (map (grown_in b) lefts)) x.0
    ∙ ap (each (rights_of e level q k c)) ways.are ∙ ap f is
    ∙ ap (λ (z : Bool). if z then [] else f (e q p k)) (sym nonzero)) gains)

-- a right letter below the level
pub gains-low : (a : Arena) (ws : List Grown) (level k p q : ℕ) (ts : List Letter) → q < level
    → Gains a ws a ws (pair_ways (exponents_of a.pres) level ts k p q)
gains-low a ws level k p q ts low =
    gains-same a a ws ws [] (pair_ways (exponents_of a.pres) level ts k p q)
    (sym (pair-low (exponents_of a.pres) level ts k p q low)) (gains-nothing a a ws (extended-refl a))

pub pair-kept : (a b : Arena) → IsExtended a b → (level k p q : ℕ) (ts : List Tree) → All (IsTreeOf a) ts
    → pair_ways (exponents_of b.pres) level (stack_in b ts) k p q
    ≡ pair_ways (exponents_of a.pres) level (stack_in a ts) k p q
pair-kept a b x level k p q ts h =
    let f : Presented → List Letter → List Grew = λ r ls. pair_ways (exponents_of r) level ls k p q in
    ap (λ (r : Presented). f r (stack_in b ts)) x.0 ∙ ap (f a.pres) (stack-kept a b x ts h)
