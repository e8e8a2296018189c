-- Stacks of trees over an arena, their letters and their numbers.
--   a b d arenas · o t u trees · ts us vs stacks · l letter · xs letters · g group · i number · n bound
use Rattle.std.proofs.Common.{◌≡◌, ℕ, zero, suc, ◌+◌, ◌<◌, ◌≤◌, List, [], ◌∷◌, ◌++◌, length, get_or, take, map, refl, sym, ap, ◌∙◌, subst, arith}
use Rattle.std.specs.Prelude.{All, reverse}
use Rattle.std.proofs.lemmas.List.{map-append, reverse-append, take_more}
use Rattle.std.proofs.lemmas.List.Elements.{All-nil, All-cons, All-head, All-tail, All-push}
use Rattle.dt_letters.specs.declared.tree.Tree.{Tree}
use Rattle.dt_letters.specs.Letters.{Letter, Group, leaves, nodes, group_of, number_of, member, IsBelow}
use Rattle.dt_letters.specs.Growth.{AreBelow, raised}
use Rattle.dt_letters.specs.Arena.{Arena, letter_in, IsTreeOf, IsExtended, IsTreeFor}
use Rattle.dt_trees.specs.Ways.{stack_in, IsStackFor}
use Rattle.dt_trees.proofs.Small.{below-more}

pub trees-kept : (a b : Arena) → IsExtended a b → (ts : List Tree) → All (IsTreeOf a) ts → All (IsTreeOf b) ts
trees-kept a b x [] h = All-nil (IsTreeOf b)
trees-kept a b x (t ∷ ts) h =
    All-cons (IsTreeOf b) t ts (x.1 t (All-head (IsTreeOf a) t ts h)).0
    (trees-kept a b x ts (All-tail (IsTreeOf a) t ts h))

letters-kept : (a b : Arena) → IsExtended a b → (ts : List Tree) → All (IsTreeOf a) ts
    → map (letter_in b) ts ≡ map (letter_in a) ts
letters-kept a b x [] h = refl
letters-kept a b x (t ∷ ts) h =
    ap (λ (l : Letter). l ∷ map (letter_in b) ts) (x.1 t (All-head (IsTreeOf a) t ts h)).1
    ∙ ap (λ (ls : List Letter). letter_in a t ∷ ls) (letters-kept a b x ts (All-tail (IsTreeOf a) t ts h))

pub stack-kept : (a b : Arena) → IsExtended a b → (ts : List Tree) → All (IsTreeOf a) ts
    → stack_in b ts ≡ stack_in a ts
stack-kept a b x ts h = ap reverse (letters-kept a b x ts h)

pub stack-push : (a : Arena) (ts : List Tree) (t : Tree)
    → stack_in a (ts ++ t ∷ []) ≡ letter_in a t ∷ stack_in a ts
stack-push a ts t =
    ap reverse (map-append (letter_in a) ts (t ∷ []))
    ∙ reverse-append (map (letter_in a) ts) (letter_in a t ∷ [])

pub stack-more : (a b : Arena) → IsExtended a b → (ts : List Tree) (xs : List Letter)
    → IsStackFor a ts xs → IsStackFor b ts xs
stack-more a b x ts xs h = record {
  trees = trees-kept a b x ts h.trees;
  letters = stack-kept a b x ts h.trees ∙ h.letters;
}

pub tree-more : (a b : Arena) → IsExtended a b → (t : Tree) (l : Letter) → IsTreeFor a t l → IsTreeFor b t l
tree-more a b x t l h = let k = x.1 t h.0 in (k.0, k.1 ∙ h.1)

pub stack-copied : (a b : Arena) → IsExtended a b → (ts us : List Tree) → us ≡ ts → All (IsTreeOf a) ts
    → IsStackFor b us (stack_in a ts)
stack-copied a b x ts us e h =
    subst (λ (vs : List Tree). IsStackFor b vs (stack_in a ts)) (sym e)
    (record { trees = trees-kept a b x ts h; letters = stack-kept a b x ts h })

group_of-member : (g : Group) (i : ℕ) → group_of (member g i) ≡ g
group_of-member (leaves s k) i = refl
group_of-member (nodes l r k) i = refl

number_of-member : (g : Group) (i : ℕ) → number_of (member g i) ≡ i
number_of-member (leaves s k) i = refl
number_of-member (nodes l r k) i = refl

pub stack-raised : (a b d : Arena) → IsExtended a b → (g : Group) (i : ℕ) (t : Tree) (ts us : List Tree)
    → All (IsTreeOf a) ts → letter_in b t ≡ member g i
    → IsStackFor d us (map (raised (group_of (letter_in b t)) (number_of (letter_in b t))) (stack_in b ts))
    → IsStackFor d us (map (raised g i) (stack_in a ts))
stack-raised a b d x g i t ts us h e s =
    let by : Group → ℕ → List Letter → List Letter = λ f n xs. map (raised f n) xs in
    subst (IsStackFor d us)
    (ap (λ (l : Letter). by (group_of l) (number_of l) (stack_in b ts)) e
    ∙ ap (λ (f : Group). by f (number_of (member g i)) (stack_in b ts)) (group_of-member g i)
    ∙ ap (λ (n : ℕ). by g n (stack_in b ts)) (number_of-member g i)
    ∙ ap (λ (xs : List Letter). by g i xs) (stack-kept a b x ts h)) s

pub small-kept : (n : ℕ) (a b : Arena) → IsExtended a b → (ts : List Tree) → All (IsTreeOf a) ts
    → AreBelow n (stack_in a ts) → AreBelow n (stack_in b ts)
small-kept n a b x ts h s = subst (AreBelow n) (sym (stack-kept a b x ts h)) s

pub stack-put : (a b : Arena) → IsExtended a b → (ts : List Tree) (t : Tree) (xs : List Letter) (l : Letter)
    → IsStackFor a ts xs → IsTreeFor b t l → IsStackFor b (ts ++ t ∷ []) (l ∷ xs)
stack-put a b x ts t xs l s h =
    let k = stack-more a b x ts xs s in
    record {
      trees = All-push (IsTreeOf b) ts t k.trees h.0;
      letters = stack-push b ts t ∙ ap (λ (m : Letter). m ∷ stack_in b ts) h.1
          ∙ ap (λ (ys : List Letter). l ∷ ys) k.letters;
    }

-- the next tree of a stack, raised
pub raised-next : (a b d : Arena) → IsExtended a b → IsExtended b d → (m o u : Tree) (ts us vs : List Tree) (i : ℕ)
    → IsTreeOf a m → All (IsTreeOf a) ts → i < length ts
    → IsStackFor b us (map (raised (group_of (letter_in a m)) (number_of (letter_in a m))) (stack_in a (take i ts)))
    → IsTreeFor d u (raised (group_of (letter_in b m)) (number_of (letter_in b m)) (letter_in b (get_or ts i o)))
    → vs ≡ us ++ u ∷ []
    → IsStackFor d vs (map (raised (group_of (letter_in a m)) (number_of (letter_in a m))) (stack_in a (take (i + 1) ts)))
raised-next a b d x y m o u ts us vs i hm h lt s r e =
    let t : Tree = get_or ts i o in
    let by : Letter → Letter → Letter = λ n l. raised (group_of n) (number_of n) l in
    let f : Letter → Letter = by (letter_in a m) in
    let ht : IsTreeOf a t = h i o lt in
    let same : by (letter_in b m) (letter_in b t) ≡ f (letter_in a t) =
    ap (λ (n : Letter). by n (letter_in b t)) (x.1 m hm).1 ∙ ap f (x.1 t ht).1 in
    let put = stack-put b d y us u (map f (stack_in a (take i ts))) (f (letter_in a t)) s (r.0, r.1 ∙ same) in
    let list : stack_in a (take (i + 1) ts) ≡ letter_in a t ∷ stack_in a (take i ts) =
    ap (stack_in a) (take_more ts i o lt) ∙ stack-push a (take i ts) t in
    subst (λ (zs : List Letter). IsStackFor d vs (map f zs)) (sym list)
    (subst (λ (zs : List Tree). IsStackFor d zs (f (letter_in a t) ∷ map f (stack_in a (take i ts)))) (sym e) put)

-- numbers

below-parts : (n : ℕ) (xs ys : List Letter) → AreBelow n (xs ++ ys) → AreBelow n xs × AreBelow n ys
below-parts n [] ys h = (tt, h)
below-parts n (x ∷ xs) ys h = let k = below-parts n xs ys h.1 in ((h.0, k.0), k.1)

below-reverse : (n : ℕ) (x : Letter) (xs : List Letter) → AreBelow n (reverse (x ∷ xs))
    → AreBelow n (reverse xs) × IsBelow n x
below-reverse n x xs h =
    let k = below-parts n (reverse xs) (x ∷ []) (subst (AreBelow n) (reverse-append (x ∷ []) xs) h) in
    (k.0, k.1.0)

pub below-at : (n : ℕ) (a : Arena) (ts : List Tree) (i : ℕ) (t : Tree) → i < length ts
    → AreBelow n (stack_in a ts) → IsBelow n (letter_in a (get_or ts i t))
below-at n a [] i t lt h = absurd (omega (arith, lt))
below-at n a (u ∷ ts) zero t lt h = (below-reverse n (letter_in a u) (map (letter_in a) ts) h).1
below-at n a (u ∷ ts) (suc i) t lt h =
    below-at n a ts i t (omega (arith, lt)) (below-reverse n (letter_in a u) (map (letter_in a) ts) h).0

-- over a later arena, and below a higher bound
pub below-kept : (n m : ℕ) (a b : Arena) → IsExtended a b → (ts : List Tree) (i : ℕ) (t : Tree) → n ≤ m
    → All (IsTreeOf a) ts → i < length ts → AreBelow n (stack_in a ts)
    → IsBelow m (letter_in b (get_or ts i t))
below-kept n m a b x ts i t le h lt s =
    subst (IsBelow m) (sym (x.1 (get_or ts i t) (h i t lt)).1)
    (below-more n m (letter_in a (get_or ts i t)) le (below-at n a ts i t lt s))
