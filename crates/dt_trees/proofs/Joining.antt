-- Leaves and joined letters, put into stacks over an arena.
--   a b d arenas · w way · ws vs us ways · t m trees · ts rest now stacks · l r letters · e exponents · k type · c limit
use Rattle.std.proofs.Common.{◌≡◌, ℕ, ◌+◌, ◌<◌, ◌≤◌, List, [], ◌∷◌, ◌++◌, length, get_or, take, map, sym, ap, ◌∙◌, subst, arith, Bool, true, false, nat_le, ℤ, pos, if◌then◌else◌}
use Rattle.std.specs.Prelude.{All}
use Rattle.std.proofs.lemmas.List.{map-append, get_or-map, length-map, take_more}
use Rattle.nil_pres.specs.Presented.{Presented}
use Rattle.dt_letters.specs.declared.side.Side.{Side}
use Rattle.dt_letters.specs.declared.side.Side.TheVariants as side
use Rattle.dt_letters.specs.declared.tree.Tree.{Tree}
use Rattle.dt_letters.specs.Letters.{Letter, leaf, node, leaves, nodes, group_of}
use Rattle.dt_letters.specs.Allowed.{Exponents, exponents_of}
use Rattle.dt_letters.specs.Growth.{AreBelow}
use Rattle.dt_letters.specs.Listing.{Grew, each, joined, may_join, places}
use Rattle.dt_letters.specs.Arena.{Arena, letter_in, IsTreeOf, IsExtended}
use Rattle.dt_trees.specs.declared.grown.Grown.{Grown}
use Rattle.dt_trees.specs.Ways.{stack_in, grown_in, IsWay, Gains, leaf_ways}
use Rattle.dt_trees.proofs.Each.{each-push}
use Rattle.dt_trees.proofs.Stacks.{stack-kept, stack-push}
use Rattle.dt_trees.proofs.Gaining.{gains-nothing, gains-trans, gains-before, gains-same, way-kept}

pub way-at : (a : Arena) (ws : List Grown) (i : ℕ) (w : Grown) → All (IsWay a) ws → i < length ws
    → w ≡ get_or ws i w → IsWay a w
way-at a ws i w h lt is = subst (IsWay a) (sym is) (h i w lt)

pub grew-at : (P : Grew → Type 0) (a : Arena) (ws : List Grown) (i : ℕ) (w : Grown)
    → All P (map (grown_in a) ws) → i < length ws → w ≡ get_or ws i w → P (grown_in a w)
grew-at P a ws i w h lt is =
    subst P (get_or-map (grown_in a) ws i w (grown_in a w) lt ∙ ap (grown_in a) (sym is))
    (h i (grown_in a w) (omega (arith, length-map ws (grown_in a), lt)))

-- a leaf, over the arena with its first member

pub gains-leaf : (a b d : Arena) (ws us : List Grown) → IsExtended a b → (s : Side) (k : ℕ) (m : Tree)
    (ts : List Tree) → All (IsTreeOf a) ts → letter_in b m ≡ leaf s k 1
    → Gains b ws d us (places (group_of (letter_in b m)) (pos 0) (stack_in b ts))
    → Gains a ws d us (places (leaves s k) (pos 0) (stack_in a ts))
gains-leaf a b d ws us x s k m ts h e p =
    gains-before a b d ws us (places (leaves s k) (pos 0) (stack_in a ts)) x
    (gains-same b d ws us (places (group_of (letter_in b m)) (pos 0) (stack_in b ts))
    (places (leaves s k) (pos 0) (stack_in a ts))
    (ap (λ (l : Letter). places (group_of l) (pos 0) (stack_in b ts)) e
    ∙ ap (places (leaves s k) (pos 0)) (stack-kept a b x ts h)) p)

pub gains-leaves : (a b d : Arena) (ws vs us : List Grown) → IsExtended a b → (level k : ℕ) (ts : List Tree)
    → All (IsTreeOf a) ts → level ≤ k
    → Gains a ws b vs (places (leaves side.X k) (pos 0) (stack_in a ts))
    → Gains b vs d us (places (leaves side.Y k) (pos 0) (stack_in b ts))
    → Gains a ws d us (leaf_ways level (stack_in a ts) k)
gains-leaves a b d ws vs us x level k ts h high p q =
    let ls = stack_in a ts in
    let first = places (leaves side.X k) (pos 0) ls in
    let second : List Letter → List Grew = places (leaves side.Y k) (pos 0) in
    let t : nat_le level k ≡ true = grind (arith, high) in
    gains-same a d ws us (first ++ second ls) (leaf_ways level ls k)
    (ap (λ (z : Bool). if z then first ++ second ls else []) (sym t))
    (gains-trans a b d ws vs us first (second ls) p
    (gains-same b d vs us (second (stack_in b ts)) (second ls) (ap second (stack-kept a b x ts h)) q))

-- a node

stack-popped : (a : Arena) (ts rest : List Tree) (left : Tree) → ts ≡ rest ++ left ∷ []
    → stack_in a ts ≡ letter_in a left ∷ stack_in a rest
stack-popped a ts rest left e = ap (stack_in a) e ∙ stack-push a rest left

pub small-popped : (n : ℕ) (a b : Arena) → IsExtended a b → (ts rest now : List Tree) (left : Tree)
    → ts ≡ rest ++ left ∷ [] → now ≡ rest → All (IsTreeOf a) rest → AreBelow n (stack_in a ts)
    → AreBelow n (stack_in b now)
small-popped n a b x ts rest now left e same h s =
    subst (λ (us : List Tree). AreBelow n (stack_in b us)) (sym same)
    (subst (AreBelow n) (sym (stack-kept a b x rest h))
    (subst (AreBelow n) (stack-popped a ts rest left e) s).1)

pub gains-refused : (a : Arena) (ws : List Grown) (e : Exponents) (k : ℕ) (c : ℤ) (r : Letter)
    (ts rest : List Tree) (left : Tree) → ts ≡ rest ++ left ∷ []
    → may_join e (letter_in a left) r k ≡ false → IsExtended a a
    → Gains a ws a ws (joined e k c r (stack_in a ts))
gains-refused a ws e k c r ts rest left is refused x =
    let l = letter_in a left in
    let some = places (nodes l r k) c (stack_in a rest) in
    gains-same a a ws ws [] (joined e k c r (stack_in a ts))
    (ap (λ (z : Bool). if z then some else []) (sym refused)
    ∙ ap (joined e k c r) (sym (stack-popped a ts rest left is)))
    (gains-nothing a a ws x)

pub gains-node : (a b d : Arena) (ws us : List Grown) → IsExtended a b → (e : Exponents) (k : ℕ) (c : ℤ)
    (ts rest now : List Tree) (left right m : Tree) → ts ≡ rest ++ left ∷ [] → now ≡ rest
    → All (IsTreeOf a) rest → letter_in b m ≡ node (letter_in a left) (letter_in a right) k 1
    → may_join e (letter_in a left) (letter_in a right) k ≡ true
    → Gains b ws d us (places (group_of (letter_in b m)) c (stack_in b now))
    → Gains a ws d us (joined e k c (letter_in a right) (stack_in a ts))
gains-node a b d ws us x e k c ts rest now left right m is same h letter joins p =
    let l = letter_in a left in
    let r = letter_in a right in
    let some = places (nodes l r k) c (stack_in a rest) in
    gains-before a b d ws us (joined e k c r (stack_in a ts)) x
    (gains-same b d ws us (places (group_of (letter_in b m)) c (stack_in b now))
    (joined e k c r (stack_in a ts))
    (ap (λ (z : Letter). places (group_of z) c (stack_in b now)) letter
    ∙ ap (λ (us : List Tree). places (nodes l r k) c (stack_in b us)) same
    ∙ ap (places (nodes l r k) c) (stack-kept a b x rest h)
    ∙ ap (λ (z : Bool). if z then some else []) (sym joins)
    ∙ ap (joined e k c r) (sym (stack-popped a ts rest left is))) p)

-- the next of the ways in which a stack grew

pub gains-each : (a b d : Arena) (ws vs us done : List Grown) (w : Grown) (f : Grew → List Grew)
    (more : List Grew) → more ≡ f (grown_in a w) → Gains a ws b vs (each f (map (grown_in a) done))
    → Gains b vs d us more → Gains a ws d us (each f (map (grown_in a) (done ++ w ∷ [])))
gains-each a b d ws vs us done w f more e p q =
    gains-same a d ws us (each f (map (grown_in a) done) ++ f (grown_in a w))
    (each f (map (grown_in a) (done ++ w ∷ [])))
    (sym (ap (each f) (map-append (grown_in a) done (w ∷ []))
    ∙ each-push f (map (grown_in a) done) (grown_in a w)))
    (gains-trans a b d ws vs us (each f (map (grown_in a) done)) (f (grown_in a w)) p
    (gains-same b d vs us more (f (grown_in a w)) e q))

-- the same, where the ways stand in a slice
pub gains-each-next : (a b d : Arena) (ws vs us lefts : List Grown) (i : ℕ) (w : Grown) (f : Grew → List Grew)
    (more : List Grew) → i < length lefts → w ≡ get_or lefts i w → more ≡ f (grown_in a w)
    → Gains a ws b vs (each f (map (grown_in a) (take i lefts))) → Gains b vs d us more
    → Gains a ws d us (each f (map (grown_in a) (take (i + 1) lefts)))
gains-each-next a b d ws vs us lefts i w f more lt is e p q =
    let next : take i lefts ++ w ∷ [] ≡ take (i + 1) lefts =
    ap (λ (z : Grown). take i lefts ++ z ∷ []) is ∙ sym (take_more lefts i w lt) in
    subst (λ (done : List Grown). Gains a ws d us (each f (map (grown_in a) done))) next
    (gains-each a b d ws vs us (take i lefts) w f more e p q)

pub joined-kept : (a b : Arena) → IsExtended a b → (w : Grown) (k : ℕ) (c : ℤ) → IsWay a w
    → joined (exponents_of b.pres) k c (grown_in b w).tree (grown_in b w).list
    ≡ joined (exponents_of a.pres) k c (grown_in a w).tree (grown_in a w).list
joined-kept a b x w k c h =
    let f : Presented → Grew → List Grew = λ p g. joined (exponents_of p) k c g.tree g.list in
    ap (λ (p : Presented). f p (grown_in b w)) x.0 ∙ ap (f a.pres) (way-kept a b x w h).1
