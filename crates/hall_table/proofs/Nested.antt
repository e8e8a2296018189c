-- The trees of a table's polynomials
use Rattle.std.proofs.Common.{◌≡◌, ℕ, zero, suc, ◌+◌, ◌-◌, ◌^◌, ◌<◌, ◌≤◌, List, [], ◌∷◌, length, get_or, refl, sym, ap, ◌∙◌, subst, arith}
use Rattle.std.specs.Prelude.{All, Result, Ok, Err}
use lib.IntN.{ℤ}
use Rattle.binom_poly.specs.declared.term.Term.{Term}
use Rattle.binom_poly.specs.declared.fault.Wide.{Wide}
use Rattle.binom_poly.specs.Polynomial.{value_of}
use Rattle.binom_poly.specs.Reading.{Reading}
use Rattle.binom_poly.specs.Readings.{magnitude_of, IsCovered}
use Rattle.nil_num.specs.Outcome.{Unless}
use Rattle.nested_poly.specs.declared.weighed.Weighed.{Weighed}
use Rattle.nested_poly.specs.Counts.{weighed_at, IsSumOf}
use Rattle.nested_poly.specs.Nodes.{IsNestOf}
use Rattle.nested_poly.specs.Trees.{AreNests}
use Rattle.hall_table.specs.Summed.{AreSummed}
use Rattle.hall_table.specs.Tabled.{Tabled, IsTabled, last_of, poly_at}
use Rattle.hall_table.specs.Width.{HasRows}
use Rattle.hall_table.proofs.Covering.{covered, same_default}

pub nests_length : (ns ps : List (List Term)) → AreNests ns ps → length ns ≡ length ps
unfolding AreNests
nests_length [] [] h = refl
nests_length [] (p ∷ ps) h = absurd h
nests_length (n ∷ ns) [] h = absurd h
nests_length (n ∷ ns) (p ∷ ps) h = let l = nests_length ns ps h.1 in omega arith

nest_at : (ns ps : List (List Term)) (i : ℕ) → i < length ps → AreNests ns ps → IsNestOf (get_or ns i []) (get_or ps i [])
unfolding AreNests
nest_at [] [] i l h = absurd (omega arith)
nest_at [] (q ∷ qs) i l h = absurd h
nest_at (m ∷ ms) [] i l h = absurd h
nest_at (m ∷ ms) (q ∷ qs) zero l h = h.0
nest_at (m ∷ ms) (q ∷ qs) (suc i) l h = nest_at ms qs i (omega arith) h.1

pub unless_nest : (a : ℕ → ℤ) (n p : List Term) (r : Result ℤ Wide) → IsNestOf n p → Unless (2 ^ 127 ≤ magnitude_of a n) (value_of a n) r → Unless (2 ^ 127 ≤ magnitude_of a p) (value_of a p) r
unless_nest a n p (Ok v) h k = (k.0 ∙ h.values a, λ o. k.1 (subst (λ m. 2 ^ 127 ≤ m) (sym (h.magnitudes a)) o))
unless_nest a n p (Err e) h k = subst (λ m. 2 ^ 127 ≤ m) (h.magnitudes a) k

-- ---- the tree of an entry
pub place_within : (t s : Tabled) (ns : List (List Term)) (k : ℕ) → s ≡ t → IsTabled s → AreNests ns s.polys → t.level ≤ k → k ≤ last_of t → k - s.level < length ns
place_within t s ns k v h n low high =
    let nonempty : 0 < length s.polys = h.nonempty in
    let top : k ≤ last_of s = subst (λ (u : Tabled). k ≤ last_of u) (sym v) high in
    let bottom : s.level ≤ k = subst (λ (u : Tabled). u.level ≤ k) (sym v) low in
    let l = nests_length ns s.polys n in
    omega arith

pub nest_of_entry : (t s : Tabled) (ns : List (List Term)) (k : ℕ) → s ≡ t → IsTabled s → AreNests ns s.polys → t.level ≤ k → k ≤ last_of t → IsNestOf (get_or ns (k - s.level) []) (poly_at t k)
nest_of_entry t s ns k v h a low high =
    let w = place_within t s ns k v h a low high in
    let l = nests_length ns s.polys a in
    subst (λ (u : Tabled). IsNestOf (get_or ns (k - s.level) []) (poly_at u k)) v (nest_at ns s.polys (k - s.level) (omega arith) a)

pub nest_covered : (t s : Tabled) (rows : List Reading) (k : ℕ) (n : List Term) → s ≡ t → IsTabled s → HasRows t rows → t.level ≤ k → k ≤ last_of t → IsNestOf n (poly_at t k) → IsCovered rows n
nest_covered t s rows k n v h r low high i = i.covers rows (covered t rows k (subst IsTabled v h) r low high)

-- ---- all trees
pub nests_covered : (t s : Tabled) (ns : List (List Term)) (rows : List Reading) → s ≡ t → IsTabled s → AreNests ns s.polys → HasRows t rows → All (IsCovered rows) ns
nests_covered t s ns rows v h a r i d l =
    let m = nests_length ns s.polys a in
    let e : s.level ≡ t.level = ap (λ (u : Tabled). u.level) v in
    let f : length s.polys ≡ length t.polys = ap (λ (u : Tabled). length u.polys) v in
    let g : (s.level + i) - s.level ≡ i = omega arith in
    let n = nest_of_entry t s ns (s.level + i) v h a (omega arith) (omega arith) in
    subst (IsCovered rows) (ap (λ j. get_or ns j []) g ∙ sym (same_default ns i d l)) (nest_covered t s rows (s.level + i) (get_or ns ((s.level + i) - s.level) []) v h r (omega arith) (omega arith) n)

sum_of_nest : (a : ℕ → ℤ) (n p : List Term) (w : Weighed) → IsNestOf n p → IsSumOf a n w → IsSumOf a p w
sum_of_nest a n p w h s = record {
  past = λ o. subst (λ m. 2 ^ 127 ≤ m) (h.magnitudes a) (s.past o);
  value = λ f. s.value f ∙ h.values a;
  magnitude = λ f. s.magnitude f ∙ h.magnitudes a;
}

pub sums_of_nests : (t s : Tabled) (ns : List (List Term)) (a : ℕ → ℤ) (sums : List Weighed) → s ≡ t → IsTabled s → AreNests ns s.polys
    → ((k : ℕ) → k < length ns → IsSumOf a (get_or ns k []) (weighed_at sums k)) → AreSummed t a sums
sums_of_nests t s ns a sums v h n c k low high =
    subst (λ (l : ℕ). IsSumOf a (poly_at t k) (weighed_at sums (k - l))) (ap (λ (u : Tabled). u.level) v)
    (sum_of_nest a (get_or ns (k - s.level) []) (poly_at t k) (weighed_at sums (k - s.level)) (nest_of_entry t s ns k v h n low high) (c (k - s.level) (place_within t s ns k v h n low high)))
