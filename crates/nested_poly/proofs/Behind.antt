-- Nodes behind one another
use Rattle.std.proofs.Common.{◌≡◌, ℕ, suc, ◌+◌, ◌-◌, ◌*◌, ◌<◌, List, [], ◌∷◌, ◌++◌, length, take, drop, set, get_or, refl, sym, ap, ◌∙◌, subst, arith, length-append, append_assoc}
use Rattle.std.specs.Prelude.{unsigned_abs, All, Result, Ok, Err, OnOk}
use Rattle.std.proofs.lemmas.Grind.{common_steps}
use lib.IntN.{◌+ℤ◌, ◌*ℤ◌}
use Rattle.integer.specs.Binomial.{choose}
use Rattle.binom_poly.specs.declared.term.Term.{Term}
use Rattle.binom_poly.proofs.Times.{value-append}
use Rattle.binom_poly.specs.Polynomial.{value_of}
use Rattle.binom_poly.specs.Readings.{magnitude_of}
use Rattle.nested_poly.specs.declared.node.Node.{Node}
use Rattle.nested_poly.specs.declared.split.Split.{Split}
use Rattle.nested_poly.specs.declared.tail.Tail.{Tail}
use Rattle.nested_poly.specs.Nodes.{under, own_term, branch_terms, terms_of, terms_within, IsForest, IsForestWithin, IsNestOf}
use Rattle.nested_poly.specs.Tails.{tail_terms, HasPart, Nests}
use Rattle.nested_poly.specs.Splits.{split_terms, IsSplitOf}
use Rattle.nested_poly.proofs.Branching.{value_branch, magnitude_branch, magnitude-append, covered-append, covered_left, covered_right, covered-under, covered_below, covered_first, terms_first, forest_of_front}

-- ---- lists
set_behind : (xs ys : List Node) (x y : Node) → set (xs ++ x ∷ ys) (length xs) y ≡ xs ++ y ∷ ys
set_behind [] ys x y = refl
set_behind (z ∷ xs) ys x y = ap (λ zs. z ∷ zs) (set_behind xs ys x y)

take_front : (xs ys : List Node) → take (length xs) (xs ++ ys) ≡ xs
take_front xs ys = grind (arith, common_steps)

drop_front : (xs ys : List Node) → drop (length xs) (xs ++ ys) ≡ ys
drop_front xs ys = grind (arith, common_steps)

-- ---- no nodes
pub nests_none : (old : List Node) (ts : List Tail) → length ts ≡ 0 → Nests old old ts
unfolding terms_within IsForestWithin tail_terms
nests_none old [] l = record { added = []; behind = sym (append_none old); form = tt; nest = record { values = λ _. refl; magnitudes = λ _. refl; covers = λ _ h. h } }
  where
    append_none : (xs : List Node) → xs ++ [] ≡ xs
    append_none [] = refl
    append_none (x ∷ xs) = ap (λ zs. x ∷ zs) (append_none xs)
nests_none old (t ∷ ts) l = absurd (omega arith)

-- ---- a branch and what follows it
abbrev Whole : Node → List Node → List Node → List Node
Whole n bs os = n ∷ (bs ++ os)

whole_form : (n : Node) (bs os : List Node) → n.below ≡ length bs → IsForest bs → IsForest os → IsForest (Whole n bs os)
whole_form n bs os e h k = forest_of_front n (bs ++ os) record {
  within = let l = length-append bs os in omega arith;
  below = subst IsForest (sym (ap (λ i. take i (bs ++ os)) e ∙ take_front bs os)) h;
  next = subst IsForest (sym (ap (λ i. drop i (bs ++ os)) e ∙ drop_front bs os)) k;
}

whole_terms : (n : Node) (bs os : List Node) → n.below ≡ length bs → terms_of (Whole n bs os) ≡ branch_terms n (terms_of bs) ++ terms_of os
whole_terms n bs os e =
    terms_first n (bs ++ os)
    ∙ ap (λ ms. branch_terms n (terms_of ms) ++ terms_of (drop n.below (bs ++ os))) (ap (λ i. take i (bs ++ os)) e ∙ take_front bs os)
    ∙ ap (λ ms. branch_terms n (terms_of bs) ++ terms_of ms) (ap (λ i. drop i (bs ++ os)) e ∙ drop_front bs os)

nest_branch : (m : Node) (ts us os ps : List Term) → IsNestOf ts us → IsNestOf os ps → IsNestOf (branch_terms m ts ++ os) (branch_terms m us ++ ps)
nest_branch m ts us os ps h k = record {
  values = λ a.
      value-append a (branch_terms m ts) os ∙ ap (λ z. z +ℤ value_of a os) (value_branch a m ts ∙ ap (λ z. choose (a m.part.var) m.part.exp *ℤ (z +ℤ m.coefficient)) (h.values a) ∙ sym (value_branch a m us))
      ∙ ap (λ z. value_of a (branch_terms m us) +ℤ z) (k.values a) ∙ sym (value-append a (branch_terms m us) ps);
  magnitudes = λ a.
      magnitude-append a (branch_terms m ts) os
      ∙ ap (λ z. z + magnitude_of a os) (magnitude_branch a m ts ∙ ap (λ z. unsigned_abs (choose (a m.part.var) m.part.exp) * (z + unsigned_abs m.coefficient)) (h.magnitudes a) ∙ sym (magnitude_branch a m us))
      ∙ ap (λ z. magnitude_of a (branch_terms m us) + z) (k.magnitudes a) ∙ sym (magnitude-append a (branch_terms m us) ps);
  covers = λ rows c.
      let l = covered_left rows (branch_terms m us) ps c in
      covered-append rows (branch_terms m ts) os
      (covered-under rows m.part (own_term m ∷ ts) (covered_first rows m us l) (tt, h.covers rows (covered_below rows m.part (own_term m ∷ us) l).1))
      (k.covers rows (covered_right rows (branch_terms m us) ps c));
}

pub nest_trans : (ts us vs : List Term) → IsNestOf ts us → IsNestOf us vs → IsNestOf ts vs
nest_trans ts us vs h k = record {
  values = λ a. h.values a ∙ k.values a;
  magnitudes = λ a. h.magnitudes a ∙ k.magnitudes a;
  covers = λ rows c. h.covers rows (k.covers rows c);
}

same_branch : (n m : Node) (ts : List Term) → n.part ≡ m.part → n.coefficient ≡ m.coefficient → branch_terms n ts ≡ branch_terms m ts
same_branch n m ts e f = ap (λ p. under p (own_term n ∷ ts)) e ∙ ap (λ z. under m.part (record { monomial = []; coefficient = z } ∷ ts)) f

whole_nest : (n : Node) (bs os : List Node) (s : Split) (ts : List Tail) → n.below ≡ length bs → n.part ≡ s.part → n.coefficient ≡ s.coefficient
    → IsNestOf (terms_of bs) (tail_terms s.below.items) → IsNestOf (terms_of os) (tail_terms s.others.items) → IsSplitOf s ts → IsNestOf (terms_of (Whole n bs os)) (tail_terms ts)
whole_nest n bs os s ts e f g h k i =
    let m : Node = record { part = s.part; coefficient = s.coefficient; below = 0 } in
    subst (λ us. IsNestOf us (tail_terms ts)) (sym (whole_terms n bs os e ∙ ap (λ us. us ++ terms_of os) (same_branch n m (terms_of bs) f g)))
    (nest_trans (branch_terms m (terms_of bs) ++ terms_of os) (split_terms s) (tail_terms ts) (nest_branch m (terms_of bs) (tail_terms s.below.items) (terms_of os) (tail_terms s.others.items) h k) i.nest)

get_behind : (xs ys : List Node) (x d : Node) → get_or (xs ++ x ∷ ys) (length xs) d ≡ x
get_behind [] ys x d = refl
get_behind (z ∷ xs) ys x d = get_behind xs ys x d

pub nests_whole : (old pushed first second third : List Node) (s : Split) (ts us vs : List Tail) (n m k : Node) (place len : ℕ) → pushed ≡ old ++ m ∷ [] → place ≡ length old → Nests pushed first us → us ≡ s.below.items
    → k ≡ get_or first place k → len ≡ length first → n.part ≡ k.part → n.coefficient ≡ k.coefficient → n.below ≡ len - place - 1 → m.part ≡ s.part → m.coefficient ≡ s.coefficient
    → second ≡ set first place n → Nests second third vs → vs ≡ s.others.items → IsSplitOf s ts → Nests old third ts
nests_whole old pushed first second third s ts us vs n m k place len e f g gu h i a b c d x y z zu w =
    let bs = g.added in
    let os = z.added in
    let q : first ≡ old ++ (m ∷ bs) = g.behind ∙ ap (λ xs. xs ++ bs) e ∙ append_assoc old (m ∷ []) bs in
    let r : k ≡ m = h ∙ ap (λ xs. get_or xs place k) q ∙ ap (λ j. get_or (old ++ m ∷ bs) j k) f ∙ get_behind old bs m k in
    let t : second ≡ old ++ (n ∷ bs) = y ∙ ap (λ xs. set xs place n) q ∙ ap (λ j. set (old ++ m ∷ bs) j n) f ∙ set_behind old bs m n in
    let l : length first ≡ length (old ++ (m ∷ bs)) = ap length q in
    let o : length (old ++ (m ∷ bs)) ≡ length old + length (m ∷ bs) = length-append old (m ∷ bs) in
    let v : n.below ≡ length bs = omega arith in
    record {
      added = Whole n bs os;
      behind = z.behind ∙ ap (λ xs. xs ++ os) t ∙ append_assoc old (n ∷ bs) os;
      form = whole_form n bs os v g.form z.form;
      nest = whole_nest n bs os s ts v (a ∙ ap (λ (j : Node). j.part) r ∙ d) (b ∙ ap (λ (j : Node). j.coefficient) r ∙ x) (subst (λ xs. IsNestOf (terms_of bs) (tail_terms xs)) gu g.nest) (subst (λ xs. IsNestOf (terms_of os) (tail_terms xs)) zu z.nest) w;
    }

pub on_ok : {E P Q : Type 0} → (r : Result (Unit {0}) E) → (P → Q) → OnOk r P → OnOk r Q
on_ok (Ok x) f h = f h
on_ok (Err e) f h = tt

pub tails_behind : (ts us : List Tail) (t : Tail) → ts ≡ t ∷ us → All HasPart ts → All HasPart us
tails_behind ts us t e h i d l = subst (λ xs. HasPart (get_or xs (suc i) d)) e (h (suc i) d (subst (λ xs. suc i < length xs) (sym e) (omega arith)))

pub first_has_part : (ts us : List Tail) (t : Tail) → ts ≡ t ∷ us → All HasPart ts → HasPart t
first_has_part ts us t e h = subst (λ xs. HasPart (get_or xs 0 t)) e (h 0 t (subst (λ xs. 0 < length xs) (sym e) (omega arith)))
