-- Nothing grows by types below the level.
--   e exponents · level · n depth · k p q types · ts letters
use Rattle.std.proofs.Common.{◌≡◌, ℕ, zero, suc, ◌-◌, ◌<◌, nat_le, Bool, true, false, pos, List, [], ◌∷◌, ◌++◌, refl, ap, ◌∙◌, arith, inl, inr, if◌then◌else◌}
use Rattle.dt_letters.specs.declared.side.Side.TheVariants as side
use Rattle.dt_letters.specs.Letters.{Letter, leaves}
use Rattle.dt_letters.specs.Allowed.{Exponents}
use Rattle.dt_letters.specs.Listing.{Grew, each, grown, is_zero, joined, places, upto, IsIn}
use Rattle.dt_letters.proofs.Once.{in-upto-range}
use Rattle.dt_trees.specs.Ways.{rights_of, pair_ways}

each-none : {A B : Type 0} (f : A → List B) (xs : List A) → ((x : A) → IsIn x xs → f x ≡ [])
    → each f xs ≡ []
each-none f [] h = refl
each-none f (x ∷ xs) h =
    ap (λ z. z ++ each f xs) (h x (inl refl)) ∙ each-none f xs (λ y p. h y (inr p))

choice-none : (b : Bool) (xs : List Grew) → xs ≡ [] → (if b then [] else xs) ≡ []
choice-none true xs h = refl
choice-none false xs h = h

leaves-none : (b : Bool) (xs ys : List Grew) → b ≡ false → ys ≡ [] → (if b then xs else []) ++ ys ≡ []
leaves-none true xs ys h e = absurd (grind (arith, h))
leaves-none false xs ys h e = e

module _ (e : Exponents) (level : ℕ) where
  pub grown-low : (n : ℕ) (ts : List Letter) (k : ℕ) → k < level → grown e level n ts k ≡ []
  grown-low zero ts k h = refl
  grown-low (suc n) ts k h =
      leaves-none (nat_le level k) (places (leaves side.X k) (pos 0) ts ++ places (leaves side.Y k) (pos 0) ts)
      (each (λ p. each (λ q. if is_zero (e q p k) then []
      else each (λ left. each (λ right. joined e k (e q p k) right.tree right.list)
      (grown e level n (left.tree ∷ left.list) q)) (grown e level n ts p)) (upto (p - 1))) (upto (k - 1)))
      (grind (arith, h))
      (each-none (λ p. each (λ q. if is_zero (e q p k) then []
      else each (λ left. each (λ right. joined e k (e q p k) right.tree right.list)
      (grown e level n (left.tree ∷ left.list) q)) (grown e level n ts p)) (upto (p - 1))) (upto (k - 1))
      (λ p a. let r = in-upto-range p (k - 1) a in
      each-none (λ q. if is_zero (e q p k) then []
      else each (λ left. each (λ right. joined e k (e q p k) right.tree right.list)
      (grown e level n (left.tree ∷ left.list) q)) (grown e level n ts p)) (upto (p - 1))
      (λ q b. choice-none (is_zero (e q p k))
      (each (λ left. each (λ right. joined e k (e q p k) right.tree right.list)
      (grown e level n (left.tree ∷ left.list) q)) (grown e level n ts p))
      (ap (each (λ left. each (λ right. joined e k (e q p k) right.tree right.list)
      (grown e level n (left.tree ∷ left.list) q))) (grown-low n ts p (omega (arith, r.1, h)))))))

  pub pair-low : (ts : List Letter) (k p q : ℕ) → q < level → pair_ways e level ts k p q ≡ []
  pair-low ts k p q h =
      choice-none (is_zero (e q p k)) (each (rights_of e level q k (e q p k)) (grown e level p ts p))
      (each-none (rights_of e level q k (e q p k)) (grown e level p ts p)
      (λ left _. ap (each (λ right. joined e k (e q p k) right.tree right.list))
      (grown-low q (left.tree ∷ left.list) q h)))
