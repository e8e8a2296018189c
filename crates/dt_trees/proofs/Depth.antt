-- The depth of the list of ways doesn't count from the type on.
--   e exponents · level · n m depths · k p q types · ts letters · w way
use Rattle.std.proofs.Common.{◌≡◌, ℕ, zero, suc, ◌-◌, ◌≤◌, nat_le, Bool, true, false, pos, List, [], ◌∷◌, ◌++◌, refl, sym, ap, ◌∙◌, arith, if◌then◌else◌}
use Rattle.dt_letters.specs.declared.side.Side.TheVariants as side
use Rattle.dt_letters.specs.Letters.{Letter, leaves}
use Rattle.dt_letters.specs.Allowed.{Exponents}
use Rattle.dt_letters.specs.Listing.{Grew, each, grown, is_zero, joined, places, upto}
use Rattle.dt_letters.proofs.Once.{in-upto-range}
use Rattle.dt_trees.specs.Ways.{leaf_ways, rights_of, pair_ways}
use Rattle.dt_trees.proofs.Each.{each-same}

module _ (e : Exponents) (level : ℕ) where
  -- the ways of one depth, as they are defined
  abbrev rights_at : ℕ → ℕ → ℕ → ℕ → Grew → List Grew
  rights_at n p q k left =
      each (λ right. joined e k (e q p k) right.tree right.list)
      (grown e level n (left.tree ∷ left.list) q)

  abbrev pair_at : ℕ → List Letter → ℕ → ℕ → ℕ → List Grew
  pair_at n ts k p q =
      if is_zero (e q p k) then [] else each (rights_at n p q k) (grown e level n ts p)

  abbrev nodes_at : ℕ → List Letter → ℕ → List Grew
  nodes_at n ts k = each (λ p. each (λ q. pair_at n ts k p q) (upto (p - 1))) (upto (k - 1))

  abbrev AgreeAt : ℕ → ℕ → ℕ → Type 0
  AgreeAt n m k = (ts : List Letter) → grown e level n ts k ≡ grown e level m ts k

  choice : {A : Type 0} (b : Bool) (x y z : A) → y ≡ z → (if b then x else y) ≡ (if b then x else z)
  choice true x y z h = refl
  choice false x y z h = h

  rights-same : (n m p q k : ℕ) → AgreeAt n m q → (left : Grew)
      → rights_at n p q k left ≡ rights_at m p q k left
  rights-same n m p q k h left =
      ap (each (λ (right : Grew). joined e k (e q p k) right.tree right.list))
      (h (left.tree ∷ left.list))

  pair-same : (n m : ℕ) (ts : List Letter) (k p q : ℕ) → AgreeAt n m p → AgreeAt n m q
      → pair_at n ts k p q ≡ pair_at m ts k p q
  pair-same n m ts k p q hp hq =
      choice (is_zero (e q p k)) [] (each (rights_at n p q k) (grown e level n ts p))
      (each (rights_at m p q k) (grown e level m ts p))
      (ap (each (rights_at n p q k)) (hp ts)
      ∙ each-same (rights_at n p q k) (rights_at m p q k) (grown e level m ts p)
      (λ left _. rights-same n m p q k hq left))

  nodes-same : (n m : ℕ) (ts : List Letter) (k : ℕ)
      → ((p : ℕ) → p ≤ k - 1 → AgreeAt n m p) → nodes_at n ts k ≡ nodes_at m ts k
  nodes-same n m ts k h =
      each-same (λ (p : ℕ). each (λ q. pair_at n ts k p q) (upto (p - 1)))
      (λ (p : ℕ). each (λ q. pair_at m ts k p q) (upto (p - 1))) (upto (k - 1))
      (λ p a. each-same (λ (q : ℕ). pair_at n ts k p q) (λ (q : ℕ). pair_at m ts k p q) (upto (p - 1))
      (λ q b. let r = in-upto-range p (k - 1) a in let s = in-upto-range q (p - 1) b in
      pair-same n m ts k p q (h p r.1) (h q (omega (arith, r.1, s.1)))))

  module _ (one : 1 ≤ level) where
    none_at_zero : (b : Bool) (xs : List Grew) → nat_le level 0 ≡ b → [] ≡ (if b then xs else []) ++ []
    none_at_zero true xs e = absurd (grind (arith, e, one))
    none_at_zero false xs e = refl

    grown-nothing : (m : ℕ) (ts : List Letter) → [] ≡ grown e level m ts 0
    grown-nothing zero ts = refl
    grown-nothing (suc m) ts =
        none_at_zero (nat_le level 0)
        (places (leaves side.X 0) (pos 0) ts ++ places (leaves side.Y 0) (pos 0) ts) refl

    pub grown-depth : (n m k : ℕ) → k ≤ n → k ≤ m → AgreeAt n m k
    grown-depth zero m zero a b ts = grown-nothing m ts
    grown-depth zero m (suc k) a b ts = absurd (omega (arith, a))
    grown-depth (suc n) zero zero a b ts = sym (grown-nothing (suc n) ts)
    grown-depth (suc n) zero (suc k) a b ts = absurd (omega (arith, b))
    grown-depth (suc n) (suc m) k a b ts =
        ap (λ (x : List Grew). leaf_ways level ts k ++ x)
        (nodes-same n m ts k (λ p h. grown-depth n m p (omega (arith, h, a)) (omega (arith, h, b))))

    nodes-pairs : (n : ℕ) (ts : List Letter) (k : ℕ) → k - 1 ≤ n
        → nodes_at n ts k ≡ each (λ p. each (λ q. pair_ways e level ts k p q) (upto (p - 1))) (upto (k - 1))
    nodes-pairs n ts k size =
        each-same (λ (p : ℕ). each (λ q. pair_at n ts k p q) (upto (p - 1)))
        (λ (p : ℕ). each (λ q. pair_ways e level ts k p q) (upto (p - 1))) (upto (k - 1))
        (λ p a. each-same (λ (q : ℕ). pair_at n ts k p q) (λ (q : ℕ). pair_ways e level ts k p q) (upto (p - 1))
        (λ q b. let r = in-upto-range p (k - 1) a in let s = in-upto-range q (p - 1) b in
        to_pair p q (omega (arith, r.1, size)) (omega (arith, r.1, s.1, size))))
      where
        to_pair : (p q : ℕ) → p ≤ n → q ≤ n → pair_at n ts k p q ≡ pair_ways e level ts k p q
        to_pair p q a b =
            choice (is_zero (e q p k)) [] (each (rights_at n p q k) (grown e level n ts p))
            (each (rights_of e level q k (e q p k)) (grown e level p ts p))
            (ap (each (rights_at n p q k)) (grown-depth n p p a (omega arith) ts)
            ∙ each-same (rights_at n p q k) (rights_of e level q k (e q p k)) (grown e level p ts p)
            (λ left _. ap (each (λ (right : Grew). joined e k (e q p k) right.tree right.list))
            (grown-depth n q q b (omega arith) (left.tree ∷ left.list))))

    -- the ways to grow by a type, in which each half has its own depth
    pub grown-ways : (ts : List Letter) (k : ℕ) → 1 ≤ k
        → grown e level k ts k
        ≡ leaf_ways level ts k ++ each (λ p. each (λ q. pair_ways e level ts k p q) (upto (p - 1))) (upto (k - 1))
    grown-ways ts zero least = absurd (omega (arith, least))
    grown-ways ts (suc n) least =
        ap (λ (x : List Grew). leaf_ways level ts (suc n) ++ x) (nodes-pairs n ts (suc n) (omega arith))
