-- Sums over the nodes of one level, and products
use Rattle.std.proofs.Common.{◌≡◌, ℕ, ◌+◌, ◌*◌, ◌^◌, ◌<◌, ◌≤◌, List, [], ◌∷◌, ◌++◌, length, take, drop, refl, sym, ap, ◌∙◌, subst, arith}
use Rattle.std.proofs.Math.Nat.{mul-le-mul_left}
use Rattle.std.specs.Prelude.{unsigned_abs}
use Rattle.std.proofs.lemmas.Int.{unsigned_abs-mul}
use lib.IntN.{ℤ, pos, ◌+ℤ◌, ◌*ℤ◌, +ℤ_idr, +ℤ_assoc, +ℤ_idl}
use Rattle.integer.specs.Binomial.{choose}
use Rattle.binom_poly.specs.Polynomial.{value_of}
use Rattle.binom_poly.specs.Reading.{Reading}
use Rattle.binom_poly.specs.Readings.{value_at, magnitude_of, IsCovered}
use Rattle.binom_poly.proofs.Times.{value-append}
use Rattle.nested_poly.specs.declared.node.Node.{Node}
use Rattle.nested_poly.specs.declared.weighed.Weighed.{Weighed}
use Rattle.nested_poly.specs.Nodes.{branch_terms, terms_within, terms_of, IsForest, IsWeighed}
use Rattle.nested_poly.proofs.Branching.{Front, forest_front, terms_first, covered_left, covered_right, magnitude-append, zero_branch, length-drop}

-- ---- sums over the nodes of one level
-- what the nodes before the rest have made
pub record SumSoFar (rows : List Reading) (ns rest : List Node) (value : ℤ) (magnitude : ℕ) : Type 0 where
  pub value_is : value_of (value_at rows) (terms_of ns) ≡ value +ℤ value_of (value_at rows) (terms_of rest)
  pub magnitude_is : magnitude_of (value_at rows) (terms_of ns) ≡ magnitude + magnitude_of (value_at rows) (terms_of rest)
  pub form : IsForest rest
  pub covered : IsCovered rows (terms_of rest)
  pub shorter : length rest ≤ length ns
  pub weighed : IsWeighed record { value = value; magnitude = magnitude }

pub sum_begins : (rows : List Reading) (ns : List Node) → IsForest ns → IsCovered rows (terms_of ns) → SumSoFar rows ns ns (pos 0) 0
sum_begins rows ns h k = record {
  value_is = sym (+ℤ_idl (value_of (value_at rows) (terms_of ns)));
  magnitude_is = omega arith;
  form = h;
  covered = k;
  shorter = omega arith;
  weighed = record { bounded = omega arith; within = omega arith };
}

-- the first of the rest, and what its branch asks for
pub record First (rows : List Reading) (n : Node) (below next : List Node) : Type 0 where
  pub form : IsForest below
  pub covered : IsCovered rows (branch_terms n (terms_of below))
  pub next_form : IsForest next
  pub next_covered : IsCovered rows (terms_of next)

pub rest_front : (rows : List Reading) (ns rest after : List Node) (n : Node) (v : ℤ) (m : ℕ) → rest ≡ n ∷ after → SumSoFar rows ns rest v m → Front n after
rest_front rows ns rest after n v m e h = forest_front n after (subst IsForest e h.form)

rest_terms : (rest after below next : List Node) (n : Node) → rest ≡ n ∷ after → below ≡ take n.below after → next ≡ drop n.below after → terms_of rest ≡ branch_terms n (terms_of below) ++ terms_of next
rest_terms rest after below next n e f g =
    ap terms_of e ∙ terms_first n after ∙ ap (λ ms. branch_terms n (terms_of ms) ++ terms_of (drop n.below after)) (sym f) ∙ ap (λ ms. branch_terms n (terms_of below) ++ terms_of ms) (sym g)

pub first_of_rest : (rows : List Reading) (ns rest after below next : List Node) (n : Node) (v : ℤ) (m : ℕ) → rest ≡ n ∷ after → below ≡ take n.below after → next ≡ drop n.below after → SumSoFar rows ns rest v m → First rows n below next
first_of_rest rows ns rest after below next n v m e f g h =
    let front = rest_front rows ns rest after n v m e h in
    let all = subst (IsCovered rows) (rest_terms rest after below next n e f g) h.covered in
    record {
      form = subst IsForest (sym f) front.below;
      covered = covered_left rows (branch_terms n (terms_of below)) (terms_of next) all;
      next_form = subst IsForest (sym g) front.next;
      next_covered = covered_right rows (branch_terms n (terms_of below)) (terms_of next) all;
    }

rest_value : (a : ℕ → ℤ) (rest after below next : List Node) (n : Node) → rest ≡ n ∷ after → below ≡ take n.below after → next ≡ drop n.below after
    → value_of a (terms_of rest) ≡ value_of a (branch_terms n (terms_of below)) +ℤ value_of a (terms_of next)
rest_value a rest after below next n e f g = ap (value_of a) (rest_terms rest after below next n e f g) ∙ value-append a (branch_terms n (terms_of below)) (terms_of next)

rest_magnitude : (a : ℕ → ℤ) (rest after below next : List Node) (n : Node) → rest ≡ n ∷ after → below ≡ take n.below after → next ≡ drop n.below after
    → magnitude_of a (terms_of rest) ≡ magnitude_of a (branch_terms n (terms_of below)) + magnitude_of a (terms_of next)
rest_magnitude a rest after below next n e f g = ap (magnitude_of a) (rest_terms rest after below next n e f g) ∙ magnitude-append a (branch_terms n (terms_of below)) (terms_of next)

pub sum_more : (rows : List Reading) (ns rest after below next : List Node) (n : Node) (w more sum : Weighed) → rest ≡ n ∷ after → below ≡ take n.below after → next ≡ drop n.below after → SumSoFar rows ns rest w.value w.magnitude
    → (more.value ≡ value_of (value_at rows) (branch_terms n (terms_of below))) × (more.magnitude ≡ magnitude_of (value_at rows) (branch_terms n (terms_of below))) × IsWeighed more
    → (sum.value ≡ w.value +ℤ more.value) × (sum.magnitude ≡ w.magnitude + more.magnitude) × IsWeighed sum
    → SumSoFar rows ns next sum.value sum.magnitude
sum_more rows ns rest after below next n w more sum e f g h b s =
    let first = first_of_rest rows ns rest after below next n w.value w.magnitude e f g h in
    let a = value_at rows in
    let m = rest_magnitude a rest after below next n e f g in
    let o : magnitude_of a (terms_of ns) ≡ w.magnitude + magnitude_of a (terms_of rest) = h.magnitude_is in
    let p : more.magnitude ≡ magnitude_of a (branch_terms n (terms_of below)) = b.1 in
    let q : sum.magnitude ≡ w.magnitude + more.magnitude = s.1 in
    let i : length next ≤ length after = subst (λ (ms : List Node). length ms ≤ length after) (sym g) (length-drop n.below after) in
    let j : length rest ≡ length (n ∷ after) = ap length e in
    let k : length rest ≤ length ns = h.shorter in
    record {
      value_is =
          h.value_is ∙ ap (λ z. w.value +ℤ z) (rest_value a rest after below next n e f g ∙ ap (λ z. z +ℤ value_of a (terms_of next)) (sym b.0))
          ∙ sym (+ℤ_assoc w.value more.value (value_of a (terms_of next))) ∙ ap (λ z. z +ℤ value_of a (terms_of next)) (sym s.0);
      magnitude_is = omega arith;
      form = first.next_form;
      covered = first.next_covered;
      shorter = omega arith;
      weighed = s.2;
    }

-- a factor that is 0 leaves the sum
pub sum_stays : (rows : List Reading) (ns rest after below next : List Node) (n : Node) (w : Weighed) (x : ℤ) → rest ≡ n ∷ after → below ≡ take n.below after → next ≡ drop n.below after → SumSoFar rows ns rest w.value w.magnitude
    → x ≡ choose (value_at rows n.part.var) n.part.exp → x ≡ pos 0 → SumSoFar rows ns next w.value w.magnitude
sum_stays rows ns rest after below next n w x e f g h d z =
    sum_more rows ns rest after below next n w (record { value = pos 0; magnitude = 0 }) w e f g h
    (zero_branch (value_at rows) n (terms_of below) x d z)
    (sym (+ℤ_idr w.value), omega arith, h.weighed)

pub sum_overflows : (rows : List Reading) (ns rest after below next : List Node) (n : Node) (w : Weighed) → rest ≡ n ∷ after → below ≡ take n.below after → next ≡ drop n.below after → SumSoFar rows ns rest w.value w.magnitude
    → 2 ^ 127 ≤ w.magnitude + magnitude_of (value_at rows) (branch_terms n (terms_of below)) → 2 ^ 127 ≤ magnitude_of (value_at rows) (terms_of ns)
sum_overflows rows ns rest after below next n w e f g h o =
    let m = rest_magnitude (value_at rows) rest after below next n e f g in
    let p : magnitude_of (value_at rows) (terms_of ns) ≡ w.magnitude + magnitude_of (value_at rows) (terms_of rest) = h.magnitude_is in
    omega arith

no_nodes : (ns : List Node) → length ns ≡ 0 → ns ≡ []
no_nodes [] h = refl
no_nodes (n ∷ ns) h = absurd (omega arith)

no_value : (a : ℕ → ℤ) → value_of a (terms_of []) ≡ pos 0
unfolding value_of terms_within
no_value a = refl

no_magnitude : (a : ℕ → ℤ) → magnitude_of a (terms_of []) ≡ 0
unfolding magnitude_of terms_within
no_magnitude a = refl

pub sum_ends : (rows : List Reading) (ns rest : List Node) (w : Weighed) → length rest ≡ 0 → SumSoFar rows ns rest w.value w.magnitude
    → (w.value ≡ value_of (value_at rows) (terms_of ns)) × (w.magnitude ≡ magnitude_of (value_at rows) (terms_of ns)) × IsWeighed w
sum_ends rows ns rest w l h =
    let a = value_at rows in
    let e = no_nodes rest l in
    let m : magnitude_of a (terms_of rest) ≡ 0 = ap (λ ms. magnitude_of a (terms_of ms)) e ∙ no_magnitude a in
    let p : magnitude_of a (terms_of ns) ≡ w.magnitude + magnitude_of a (terms_of rest) = h.magnitude_is in (
      sym (h.value_is ∙ ap (λ z. w.value +ℤ z) (ap (λ ms. value_of a (terms_of ms)) e ∙ no_value a) ∙ +ℤ_idr w.value),
      omega arith,
      h.weighed,
    )

-- ---- products
product_bounded : (x v w : ℤ) (n k m : ℕ) → v ≡ w → k ≡ unsigned_abs x → n ≡ k * m → unsigned_abs w ≤ m → (2 ^ 127 ≤ k * m → ⊥) → (unsigned_abs (x *ℤ v) ≤ n) × (n < 2 ^ 127)
product_bounded x v w n k m e f g b h =
    let q : unsigned_abs (x *ℤ v) ≡ unsigned_abs x * unsigned_abs v = unsigned_abs-mul x v in
    let s : unsigned_abs v ≤ m = subst (λ z. unsigned_abs z ≤ m) (sym e) b in
    let t : unsigned_abs x * unsigned_abs v ≤ unsigned_abs x * m = mul-le-mul_left (unsigned_abs x) s in
    let u : unsigned_abs x * m ≡ k * m = ap (λ i. i * m) (sym f) in
    let l : k * m < 2 ^ 127 = omega (arith, h) in
    (omega arith, omega arith)

pub product_within : (x v w : ℤ) (n k m : ℕ) → v ≡ w → k ≡ unsigned_abs x → n ≡ k * m → unsigned_abs w ≤ m → (2 ^ 127 ≤ k * m → ⊥) → unsigned_abs (x *ℤ v) < 2 ^ 127
product_within x v w n k m e f g b h = let p = product_bounded x v w n k m e f g b h in omega (arith, p.0, p.1)

pub product_weighs : (x y v w z : ℤ) (n k m : ℕ) → x ≡ y → v ≡ w → k ≡ unsigned_abs x → n ≡ k * m → unsigned_abs w ≤ m → (2 ^ 127 ≤ k * m → ⊥) → z ≡ x *ℤ v
    → (z ≡ y *ℤ w) × (n ≡ unsigned_abs y * m) × IsWeighed record { value = z; magnitude = n }
product_weighs x y v w z n k m d e f g b h i =
    let p = product_bounded x v w n k m e f g b h in (
      i ∙ ap (λ r. r *ℤ v) d ∙ ap (λ r. y *ℤ r) e,
      g ∙ ap (λ r. r * m) (f ∙ ap unsigned_abs d),
      record { bounded = subst (λ r. unsigned_abs r ≤ n) (sym i) p.0; within = p.1 },
    )
