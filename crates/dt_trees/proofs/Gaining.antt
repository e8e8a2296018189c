-- Ways over an arena: when it is extended, and when more come.
--   a b c arenas · t tree · ts us trees · xs letters · w v way · ws vs us ways · g way of letters · gs hs more of them
use Rattle.std.proofs.Common.{◌≡◌, ℕ, suc, ◌+◌, List, [], ◌∷◌, ◌++◌, map, refl, sym, ap, ◌∙◌, subst, arith, append_assoc, add-one, Bool, true, ℤ, Ok, Err, if◌then◌else◌}
use Rattle.std.specs.Prelude.{All, OnOk, Result}
use Rattle.std.proofs.lemmas.List.{append-nil, map-append}
use Rattle.std.proofs.lemmas.List.Elements.{All-nil, All-cons, All-head, All-tail, All-push}
use Rattle.dt_letters.specs.declared.tree.Tree.{Tree}
use Rattle.dt_letters.specs.Letters.{Letter, Group, group_of}
use Rattle.dt_letters.specs.Least.{greatest}
use Rattle.dt_letters.specs.Listing.{Grew, upto, again, anew, has_room, places, places_up_to}
use Rattle.dt_letters.specs.Arena.{Arena, letter_in, IsTreeOf, IsExtended, IsTreeFor}
use Rattle.dt_letters.proofs.Different.{extended-trans}
use Rattle.dt_trees.specs.declared.grown.Grown.{Grown}
use Rattle.dt_trees.specs.Ways.{stack_in, grown_in, IsStackFor, IsWay, AreWays, Gains}
use Rattle.dt_trees.proofs.Each.{map-upto}
use Rattle.dt_trees.proofs.Fresh.{anew-fresh}
use Rattle.dt_trees.proofs.Stacks.{stack-kept, trees-kept}

-- ways

pub way-kept : (a b : Arena) → IsExtended a b → (w : Grown) → IsWay a w
    → IsWay b w × (grown_in b w ≡ grown_in a w)
way-kept a b x w h = (
  record { list = trees-kept a b x w.list.items h.list; tree = (x.1 w.tree h.tree).0 },
  let at : List Letter → Letter → Grew = λ ls l. record { list = ls; tree = l } in
      ap (λ (ls : List Letter). at ls (letter_in b w.tree)) (stack-kept a b x w.list.items h.list)
      ∙ ap (λ (l : Letter). at (stack_in a w.list.items) l) (x.1 w.tree h.tree).1,
)

pub all_ways-kept : (a b : Arena) → IsExtended a b → (ws : List Grown) → All (IsWay a) ws
    → All (IsWay b) ws × (map (grown_in b) ws ≡ map (grown_in a) ws)
all_ways-kept a b x [] h = (All-nil (IsWay b), refl)
all_ways-kept a b x (w ∷ ws) h =
    let here = way-kept a b x w (All-head (IsWay a) w ws h) in
    let rest = all_ways-kept a b x ws (All-tail (IsWay a) w ws h) in (
      All-cons (IsWay b) w ws here.0 rest.0,
      ap (λ (g : Grew). g ∷ map (grown_in b) ws) here.1
          ∙ ap (λ (gs : List Grew). grown_in a w ∷ gs) rest.1,
    )

pub ways-kept : (a b : Arena) → IsExtended a b → (ws : List Grown) (gs : List Grew)
    → AreWays a ws gs → AreWays b ws gs
ways-kept a b x ws gs h =
    let k = all_ways-kept a b x ws h.ways in record { ways = k.0; are = k.1 ∙ h.are }

pub gains-nothing : (a b : Arena) (ws : List Grown) → IsExtended a b → Gains a ws b ws []
gains-nothing a b ws x = record {
  ways = λ gs h. subst (AreWays b ws) (sym (append-nil gs)) (ways-kept a b x ws gs h);
}

pub gains-trans : (a b c : Arena) (ws vs us : List Grown) (gs hs : List Grew)
    → Gains a ws b vs gs → Gains b vs c us hs → Gains a ws c us (gs ++ hs)
gains-trans a b c ws vs us gs hs p q = record {
  ways = λ fs h. subst (AreWays c us) (append_assoc fs gs hs) (q.ways (fs ++ gs) (p.ways fs h));
}

-- what was gained over a later arena
pub gains-before : (a b c : Arena) (ws vs : List Grown) (gs : List Grew) → IsExtended a b
    → Gains b ws c vs gs → Gains a ws c vs gs
gains-before a b c ws vs gs x p = record { ways = λ fs h. p.ways fs (ways-kept a b x ws fs h) }

pub gains-same : (a b : Arena) (ws vs : List Grown) (gs hs : List Grew) → gs ≡ hs → Gains a ws b vs gs
    → Gains a ws b vs hs
gains-same a b ws vs gs hs e p = subst (Gains a ws b vs) e p

pub gains-push : (a b : Arena) (ws : List Grown) (w : Grown) (g : Grew) → IsExtended a b → IsWay b w
    → grown_in b w ≡ g → Gains a ws b (ws ++ w ∷ []) (g ∷ [])
gains-push a b ws w g x h e = record {
  ways = λ gs k. let more = ways-kept a b x ws gs k in
      record {
        ways = All-push (IsWay b) ws w more.ways h;
        are = map-append (grown_in b) ws (w ∷ [])
            ∙ ap (λ (fs : List Grew). fs ++ grown_in b w ∷ []) more.are
            ∙ ap (λ (f : Grew). gs ++ f ∷ []) e;
      };
}

-- from nothing
pub ways-gained : (a b : Arena) (ws : List Grown) (gs : List Grew) → Gains a [] b ws gs → AreWays b ws gs
ways-gained a b ws gs p = p.ways [] (record { ways = All-nil (IsWay a); are = refl })

-- what one call puts behind

pub put-way : (a b : Arena) (ws vs : List Grown) (w : Grown) (xs : List Letter) (l : Letter)
    → IsExtended a b → vs ≡ ws ++ w ∷ [] → IsStackFor b w.list.items xs → IsTreeFor b w.tree l
    → Gains a ws b vs (record { list = xs; tree = l } ∷ [])
put-way a b ws vs w xs l x e s t =
    let at : List Letter → Letter → Grew = λ ys m. record { list = ys; tree = m } in
    subst (λ (us : List Grown). Gains a ws b us (at xs l ∷ [])) (sym e)
    (gains-push a b ws w (at xs l) x (record { list = s.trees; tree = t.0 })
    (ap (λ (ys : List Letter). at ys (letter_in b w.tree)) s.letters ∙ ap (λ (m : Letter). at xs m) t.1))

-- the next of the numbers
pub gains-next : (a b c : Arena) (ws vs us : List Grown) (f : ℕ → Grew) (n : ℕ) (g : Grew)
    → Gains a ws b vs (map f (upto n)) → Gains b vs c us (g ∷ []) → g ≡ f (n + 1)
    → Gains a ws c us (map f (upto (n + 1)))
gains-next a b c ws vs us f n g p q e =
    let to : map f (upto n) ++ f (n + 1) ∷ [] ≡ map f (upto (n + 1)) =
    ap (λ (i : ℕ). map f (upto n) ++ f i ∷ []) (add-one n) ∙ sym (map-upto f n)
    ∙ ap (λ (i : ℕ). map f (upto i)) (sym (add-one n)) in
    gains-same a c ws us (map f (upto n) ++ f (n + 1) ∷ []) (map f (upto (n + 1))) to
    (gains-trans a b c ws vs us (map f (upto n)) (f (n + 1) ∷ []) p
    (subst (λ (h : Grew). Gains b vs c us (h ∷ [])) e q))

-- over a later arena the same member and stack
pub again-kept : (a b : Arena) → IsExtended a b → (t : Tree) (ts : List Tree) (i : ℕ) → IsTreeOf a t
    → All (IsTreeOf a) ts
    → again (group_of (letter_in b t)) (stack_in b ts) i ≡ again (group_of (letter_in a t)) (stack_in a ts) i
again-kept a b x t ts i h k =
    ap (λ (l : Letter). again (group_of l) (stack_in b ts) i) (x.1 t h).1
    ∙ ap (λ (xs : List Letter). again (group_of (letter_in a t)) xs i) (stack-kept a b x ts k)

pub anew-kept : (a b : Arena) → IsExtended a b → (t : Tree) (ts : List Tree) (i : ℕ) → IsTreeOf a t
    → All (IsTreeOf a) ts
    → anew (group_of (letter_in b t)) (stack_in b ts) i ≡ anew (group_of (letter_in a t)) (stack_in a ts) i
anew-kept a b x t ts i h k =
    ap (λ (l : Letter). anew (group_of l) (stack_in b ts) i) (x.1 t h).1
    ∙ ap (λ (xs : List Letter). anew (group_of (letter_in a t)) xs i) (stack-kept a b x ts k)

-- the numbers that are there, those that come in among them, and the one that comes in above them
pub gains-places : (a b d o : Arena) (ws vs us zs : List Grown) → IsExtended a b → IsExtended b d
    → (t : Tree) (ts : List Tree) → IsTreeOf a t → All (IsTreeOf a) ts → (c : ℤ) (m : ℕ)
    → m ≡ greatest (group_of (letter_in a t)) (stack_in a ts) → has_room c m ≡ true
    → Gains a ws b vs (map (again (group_of (letter_in a t)) (stack_in a ts)) (upto m))
    → Gains b vs d us (map (anew (group_of (letter_in b t)) (stack_in b ts)) (upto m))
    → Gains d us o zs (again (group_of (letter_in d t)) (stack_in d ts) (m + 1) ∷ [])
    → Gains a ws o zs (places (group_of (letter_in a t)) c (stack_in a ts))
gains-places a b d o ws vs us zs x y t ts h k c m e room p q r =
    let g = group_of (letter_in a t) in
    let xs = stack_in a ts in
    let news : Group → List Letter → ℕ → List Grew = λ f ys n. map (anew f ys) (upto n) in
    let same : news (group_of (letter_in b t)) (stack_in b ts) m ≡ news g xs m =
    ap (λ (l : Letter). news (group_of l) (stack_in b ts) m) (x.1 t h).1
    ∙ ap (λ (ys : List Letter). news g ys m) (stack-kept a b x ts k) in
    let top : again (group_of (letter_in d t)) (stack_in d ts) (m + 1) ≡ anew g xs (m + 1) =
    again-kept a d (extended-trans a b d x y) t ts (m + 1) h k
    ∙ sym (anew-fresh g (m + 1) xs (omega (arith, e))) in
    let come = gains-next b d o vs us zs (anew g xs) m
    (again (group_of (letter_in d t)) (stack_in d ts) (m + 1))
    (gains-same b d vs us (news (group_of (letter_in b t)) (stack_in b ts) m) (news g xs m) same q) r top in
    let both = gains-trans a b o ws vs zs (map (again g xs) (upto m)) (news g xs (suc m)) p
    (gains-same b o vs zs (news g xs (m + 1)) (news g xs (suc m)) (ap (news g xs) (add-one m)) come) in
    gains-same a o ws zs (map (again g xs) (upto m) ++ news g xs (suc m)) (places g c xs)
    (ap (λ (z : Bool). map (again g xs) (upto m) ++ (if z then news g xs (suc m) else [])) (sym room)
    ∙ ap (λ (n : ℕ). places_up_to g c xs n) e) both

pub on_ok : {A E : Type 0} (r : Result A E) (P Q : Type 0) → (P → Q) → OnOk r P → OnOk r Q
on_ok (Ok x) P Q f h = f h
on_ok (Err x) P Q f h = h
