-- A monomial that is apart from a pair of generators is 0 at their unit vectors; where all are, so
-- is the polynomial.
--   rels a presentation · t table · j < l and k m generators · v variable · a point · ms monomial
--   p q parts · i place
use Rattle.std.proofs.Common.{◌≡◌, ◌≢◌, ℕ, ◌+◌, ◌-◌, ◌^◌, ◌<◌, ◌≤◌, true, false, List, [], ◌∷◌, length, slice_index_or, refl, sym, ap, ◌∙◌, subst, arith, inl, inr}
use Rattle.std.specs.Prelude.{All, ◌⊎◌, nat_le, unsigned_abs}
use Rattle.std.proofs.lemmas.Bool.{cases_lt}
use Rattle.std.proofs.lemmas.Bool.Decides.{eqb_tells}
use Rattle.std.proofs.lemmas.List.{get_or_default}
use Rattle.std.proofs.lemmas.List.Elements.{All-head, All-tail}
use lib.IntN.{ℤ, pos, ◌*ℤ◌, *ℤ-zero}
use Rattle.nil_word.specs.Congruence.{Relations}
use Rattle.nil_word.specs.Exponents.{entry}
use Rattle.binom_poly.specs.declared.part.Part.{Part}
use Rattle.binom_poly.specs.declared.term.Term.{Term}
use Rattle.binom_poly.specs.Variable.{y_of}
use Rattle.binom_poly.specs.Monomial.{IsMonomial}
use Rattle.binom_poly.specs.Polynomial.{monomial_value}
use Rattle.binom_poly.specs.Reading.{Reading}
use Rattle.binom_poly.specs.Readings.{value_at, magnitude_of}
use Rattle.hall_law.specs.Table.{single}
use Rattle.hall_table.specs.Shape.{is_lower, AreLower}
use Rattle.hall_table.specs.Tabled.{Tabled, IsTabled, last_of, poly_at}
use Rattle.hall_table.specs.Order.{sum_overflows}
use Rattle.hall_table.proofs.Covering.{poly_lower}
use Rattle.hall_table.proofs.Entries.{is_lower-bounds_x, is_lower-bounds_y}
use Rattle.identity_check.specs.declared.identity.Identity.TheVariants.{Relation}
use Rattle.identity_check.specs.Sides.{entry_of_pair}
use Rattle.identity_check.specs.Pairs.{PutPair}
use Rattle.identity_check.specs.Meeting.{IsApart, AllTold}
use Rattle.identity_check.specs.Events.Event.{tries}
use Rattle.identity_check.proofs.Agreeing.{bounds_of, IsOf, form_at, all_terms, entry-single_same, entry-single_other}
use Rattle.identity_check.proofs.Halting.{NoneOf}
use Rattle.identity_check.proofs.PairEntries.{not_above}
use Rattle.identity_check.proofs.PutPairs.{pair_holds}
use Rattle.identity_check.proofs.Uncrossed.{value_none}
use Rattle.identity_check.proofs.Vanishing.{part_none, part_once, monomial_none, exponents_least, variables_ascend}

-- ---- which monomials are apart
abbrev no_part : Part
no_part = record { var = 0; exp = 0 }

-- the part at a place is that of neither generator
pub other_apart : (j l : ℕ) (ms : List Part) (i : ℕ) → i < length ms
    → (slice_index_or ms i no_part).var ≢ l → (slice_index_or ms i no_part).var ≢ y_of j
    → IsApart j l ms
other_apart j l ms i low x y = record {
  place = i;
  within = low;
  zero = λ d. subst (λ (p : Part). (1 < p.exp) ⊎ ((p.var ≢ l) × (p.var ≢ y_of j)))
      (sym (get_or_default ms i d no_part low)) (inr (x, y));
}

pub often_apart : (j l : ℕ) (ms : List Part) (i : ℕ) → i < length ms
    → 1 < (slice_index_or ms i no_part).exp → IsApart j l ms
often_apart j l ms i low e = record {
  place = i;
  within = low;
  zero = λ d. subst (λ (p : Part). (1 < p.exp) ⊎ ((p.var ≢ l) × (p.var ≢ y_of j)))
      (sym (get_or_default ms i d no_part low)) (inl e);
}

-- one part of another generator
pub one_apart : (j l k : ℕ) (ms : List Part) → l ≤ 48 → k ≤ 48 → 1 ≤ j → k ≢ j → k ≢ l → 0 < length ms
    → (1 < (slice_index_or ms 0 no_part).exp)
    ⊎ (((slice_index_or ms 0 no_part).var ≡ k) ⊎ ((slice_index_or ms 0 no_part).var ≡ y_of k))
    → IsApart j l ms
one_apart j l k ms sl sk low nj nl n (inl often) = often_apart j l ms 0 n often
one_apart j l k ms sl sk low nj nl n (inr (inl x)) =
    other_apart j l ms 0 n (λ c. nl (sym x ∙ c)) (λ c. omega (arith, x, c))
one_apart j l k ms sl sk low nj nl n (inr (inr y)) =
    other_apart j l ms 0 n (λ c. omega (arith, y, c)) (λ c. nj (omega (arith, y, c)))

-- two parts that aren't x_l and y_j
pub two_apart : (j l : ℕ) (ms : List Part) → IsMonomial ms → l < y_of j → 1 < length ms
    → ((slice_index_or ms 0 no_part).var ≡ l → (slice_index_or ms 1 no_part).var ≢ y_of j)
    → IsApart j l ms
two_apart j l ms f s n h =
    let a = (slice_index_or ms 0 no_part).var in
    let b = (slice_index_or ms 1 no_part).var in
    let up : a < b = variables_ascend 0 ms 0 1 no_part f (omega arith) n in
    elim (eqb_tells a l) [
      | inl x ↦
          let e : a ≡ l = x.1 in
          other_apart j l ms 1 n (λ c. omega (arith, up, c, e)) (h e)
      | inr x ↦
          elim (eqb_tells a (y_of j)) [
            | inl y ↦
                let e : a ≡ y_of j = y.1 in
                other_apart j l ms 1 n (λ c. omega (arith, up, c, e, s)) (λ c. omega (arith, up, c, e))
            | inr y ↦ other_apart j l ms 0 (omega (arith, n)) x.1 y.1
          ]
    ]

-- three parts are of three variables
pub three_apart : (j l : ℕ) (ms : List Part) → IsMonomial ms → l < y_of j → 2 < length ms
    → IsApart j l ms
three_apart j l ms f s n =
    let a = (slice_index_or ms 0 no_part).var in
    let b = (slice_index_or ms 1 no_part).var in
    let c = (slice_index_or ms 2 no_part).var in
    let up : a < b = variables_ascend 0 ms 0 1 no_part f (omega arith) (omega (arith, n)) in
    let more : b < c = variables_ascend 0 ms 1 2 no_part f (omega arith) n in
    elim (eqb_tells b (y_of j)) [
      | inl y ↦
          let e : b ≡ y_of j = y.1 in
          other_apart j l ms 2 n (λ d. omega (arith, more, d, e, s)) (λ d. omega (arith, more, d, e))
      | inr y ↦ two_apart j l ms f s (omega (arith, n)) (λ _. y.1)
    ]

-- ---- the point
record AtPair (t : Tabled) (j l : ℕ) (a : ℕ → ℤ) : Type 0 where
  pub small : (v : ℕ) → is_lower t.level (last_of t + 1) v ≡ true → (a v ≡ pos 0) ⊎ (a v ≡ pos 1)
  pub others : (v : ℕ) → is_lower t.level (last_of t + 1) v ≡ true → v ≢ l → v ≢ y_of j
      → a v ≡ pos 0

-- an entry of a unit vector
entry_small : (n l m : ℕ) → 1 ≤ l → l ≤ n → 1 ≤ m
    → (entry (single n l (pos 1)) m ≡ pos 0) ⊎ (entry (single n l (pos 1)) m ≡ pos 1)
entry_small n l m low high least = elim (eqb_tells m l) [
  | inl same ↦
      inr (ap (entry (single n l (pos 1))) same.1 ∙ entry-single_same n l (pos 1) low high)
  | inr other ↦ inl (entry-single_other n l m (pos 1) low least other.1)
]

at_pair : (t : Tabled) (j l : ℕ) (rows : List Reading) → IsTabled t → IsOf t j → IsOf t l
    → PutPair t rows j l → AtPair t j l (value_at rows)
at_pair t j l rows h oj ol put =
    let n = last_of t in
    let s = bounds_of t h in
    let least : 1 ≤ t.level = s.least in
    let last : last_of t ≤ 48 = s.last in
    let lj : t.level ≤ j = oj.low in
    let ll : t.level ≤ l = ol.low in
    let Small : ℤ → Type 0 = λ z. (z ≡ pos 0) ⊎ (z ≡ pos 1) in
    record {
      small = λ v f. elim (cases_lt v 64) [
        | inl x ↦
            let c = is_lower-bounds_x t.level (n + 1) v (omega arith) x f in
            subst Small (sym (put.x v c.0 (omega (arith, c.1))))
            (entry_small n l v (omega arith) ol.high (omega (arith, c.0)))
        | inr y ↦
            let c = is_lower-bounds_y t.level (n + 1) v (omega arith) y f in
            let m = v - 64 in
            let e : y_of m ≡ v = omega (arith, y) in
            subst (λ (w : ℕ). Small (value_at rows w)) e
            (subst Small (sym (put.y m c.0 (omega (arith, c.1))))
            (entry_small n j m (omega arith) oj.high (omega (arith, c.0))))
      ];
      others = λ v f nx ny. elim (cases_lt v 64) [
        | inl x ↦
            let c = is_lower-bounds_x t.level (n + 1) v (omega arith) x f in
            put.x v c.0 (omega (arith, c.1))
            ∙ entry-single_other n l v (pos 1) (omega arith) (omega (arith, c.0)) nx
        | inr y ↦
            let c = is_lower-bounds_y t.level (n + 1) v (omega arith) y f in
            let m = v - 64 in
            let e : y_of m ≡ v = omega (arith, y) in
            subst (λ (w : ℕ). value_at rows w ≡ pos 0) e
            (put.y m c.0 (omega (arith, c.1))
            ∙ entry-single_other n j m (pos 1) (omega arith) (omega (arith, c.0))
            (λ d. ny (sym e ∙ ap y_of d)))
      ];
    }

-- ---- values there
apart_none : (t : Tabled) (j l : ℕ) (a : ℕ → ℤ) (ms : List Part) → IsMonomial ms
    → AreLower t.level (last_of t + 1) ms → AtPair t j l a → IsApart j l ms
    → monomial_value a ms ≡ pos 0
apart_none t j l a ms f low at apart =
    let i = apart.place in
    let p = slice_index_or ms i no_part in
    let within : i < length ms = apart.within in
    let least : 1 ≤ p.exp = exponents_least 0 ms f i no_part within in
    let lower : is_lower t.level (last_of t + 1) p.var ≡ true = low i no_part within in
    monomial_none a ms i no_part within (elim (apart.zero no_part) [
      | inl often ↦ (elim (at.small p.var lower) [
        | inl z ↦ part_none (a p.var) p.exp z least
        | inr o ↦ part_once (a p.var) p.exp o often
      ])
      | inr other ↦ part_none (a p.var) p.exp (at.others p.var lower other.0 other.1) least
    ])

magnitude_none : (a : ℕ → ℤ) (p : List Term) → All (λ u. monomial_value a u.monomial ≡ pos 0) p
    → magnitude_of a p ≡ 0
unfolding magnitude_of
magnitude_none a [] h = refl
magnitude_none a (t ∷ ts) h =
    let P : Term → Type 0 = λ u. monomial_value a u.monomial ≡ pos 0 in
    let first : unsigned_abs (t.coefficient *ℤ monomial_value a t.monomial) ≡ 0 =
    ap unsigned_abs (ap (λ z. t.coefficient *ℤ z) (All-head P t ts h) ∙ *ℤ-zero t.coefficient) in
    let rest : magnitude_of a ts ≡ 0 = magnitude_none a ts (All-tail P t ts h) in
    omega (arith, first, rest)

pub none_met : (rels : Relations) (t : Tabled) (j l k : ℕ) (rows : List Reading) → IsTabled t
    → IsOf t j → IsOf t l → IsOf t k → j < l → PutPair t rows j l → AllTold rels t
    → (k ≢ j) × (k ≢ l) × (entry_of_pair rels j l k ≡ pos 0)
    → NoneOf rels t (tries (Relation j l k) ∷ [])
none_met rels t j l k rows h oj ol o below put told bare =
    let a = value_at rows in
    let p = poly_at t k in
    let least : 1 ≤ t.level = (bounds_of t h).least in
    let lj : t.level ≤ j = oj.low in
    let none : All (λ u. monomial_value a u.monomial ≡ pos 0) p = λ i d within.
    apart_none t j l a ((slice_index_or p i d).monomial) ((all_terms p (form_at t k h o) i d within).monomial)
    (poly_lower t k h o.low o.high i d within) (at_pair t j l rows h oj ol put)
    (told k o.low o.high i d within j l (omega arith) below ol.high bare.0 bare.1 bare.2) in
    let fits : sum_overflows a p ≡ false =
    ap (λ (n : ℕ). nat_le (2 ^ 127) n) (magnitude_none a p none)
    ∙ not_above (2 ^ 127) 0 (omega arith) in
    pair_holds rels t j l k rows (pos 0) (pos 0) h oj ol o put fits (sym (value_none a p none))
    (sym bare.2) refl
