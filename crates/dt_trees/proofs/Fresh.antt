-- A number above those of its group raises nothing.
--   g h groups · i m n numbers · t letter · ts letters
use Rattle.std.proofs.Common.{◌≡◌, ℕ, suc, ◌<◌, Bool, true, false, ◌&&◌, nat_le, List, [], ◌∷◌, map, refl, ap, ◌∙◌, arith, if◌then◌else◌}
use Rattle.dt_letters.specs.Letters.{Letter, leaf, node, Group, leaves, nodes, member}
use Rattle.dt_letters.specs.Meeting.{same_group}
use Rattle.dt_letters.specs.Least.{own_number, greatest_in, greatest}
use Rattle.dt_letters.specs.Growth.{raise, raised}
use Rattle.dt_letters.specs.Listing.{Grew, again, anew}

step_fresh : (b : Bool) (n i : ℕ) → (if b then i else 0) < n → (if b && nat_le n i then suc i else i) ≡ i
step_fresh true n i h = grind (arith, h)
step_fresh false n i h = refl

raise-fresh : (g h : Group) (n i : ℕ) → own_number g h i < n → raise g n h i ≡ i
raise-fresh g h n i p = step_fresh (same_group g h) n i p

raised-fresh : (g : Group) (n : ℕ) (t : Letter) → greatest_in g t < n → raised g n t ≡ t
raised-fresh g n (leaf s k i) p = ap (leaf s k) (raise-fresh g (leaves s k) n i p)
raised-fresh g n (node l r k i) p =
    ap (λ (z : Letter). node z (raised g n r) k (raise g n (nodes l r k) i)) (raised-fresh g n l (omega (arith, p)))
    ∙ ap (λ (z : Letter). node l z k (raise g n (nodes l r k) i)) (raised-fresh g n r (omega (arith, p)))
    ∙ ap (node l r k) (raise-fresh g (nodes l r k) n i (omega (arith, p)))

all_raised-fresh : (g : Group) (n : ℕ) (ts : List Letter) → greatest g ts < n → map (raised g n) ts ≡ ts
all_raised-fresh g n [] p = refl
all_raised-fresh g n (t ∷ ts) p =
    ap (λ (z : Letter). z ∷ map (raised g n) ts) (raised-fresh g n t (omega (arith, p)))
    ∙ ap (λ (zs : List Letter). t ∷ zs) (all_raised-fresh g n ts (omega (arith, p)))

pub anew-fresh : (g : Group) (n : ℕ) (ts : List Letter) → greatest g ts < n → anew g ts n ≡ again g ts n
anew-fresh g n ts p =
    let at : List Letter → Grew = λ xs. record { list = xs; tree = member g n } in
    ap at (all_raised-fresh g n ts p)
