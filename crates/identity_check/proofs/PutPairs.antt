-- The rows of a relation, and its two entries compared.
--   t table · j < l and k m generators · rows rows · r result
use Rattle.std.proofs.Common.{◌≡◌, ◌≢◌, ℕ, ◌<◌, ◌≤◌, Bool, true, false, List, [], ◌∷◌, sym, ap, ◌∙◌, subst, arith, rules, inl, inr}
use Rattle.std.specs.Prelude.{Result, Ok, Err, OnOk, OnErr}
use Rattle.std.specs.Result.{IsOk}
use Rattle.std.proofs.lemmas.Bool.{false≢true}
use Rattle.std.proofs.lemmas.Bool.Decides.{eqb_tells}
use lib.IntN.{ℤ, pos}
use Rattle.nil_word.specs.Exponents.{entry}
use Rattle.nil_word.specs.Congruence.{Relations}
use Rattle.binom_poly.specs.Reading.{Reading}
use Rattle.binom_poly.specs.Readings.{value_at, width_at, with_value}
use Rattle.binom_poly.specs.Variable.{y_of}
use Rattle.binom_poly.specs.Polynomial.{value_of}
use Rattle.binom_poly.specs.Collected.{constant_terms}
use Rattle.hall_table.specs.declared.wide_at.WideAt.{WideAt}
use Rattle.hall_table.specs.Tabled.{Tabled, IsTabled, last_of, poly_at}
use Rattle.hall_table.specs.Values.{point_of}
use Rattle.hall_table.specs.Order.{RefusesAt, sum_overflows, sum_at_overflows}
use Rattle.hall_table.proofs.Putting.{value-same, value-other}
use Rattle.identity_check.specs.declared.identity.Identity.TheVariants.{Relation}
use Rattle.identity_check.specs.declared.failure.Failure.{Failure}
use Rattle.identity_check.specs.Sides.{unit_vector, entry_of_unit, entry_of_pair, left_of, right_of}
use Rattle.identity_check.specs.Overflowing.{SidesOverflow}
use Rattle.identity_check.specs.Pairs.{PutPair, AreZero, AreZeroBut}
use Rattle.identity_check.specs.Events.Event.{tries}
use Rattle.identity_check.specs.Failures.{parts_of, FailsFirst, OverflowsFirst}
use Rattle.identity_check.proofs.Agreeing.{bounds_of, IsOf, AgreeOn, value-agree_on, point-x, point-y, entry-single_same, entry-single_other}
use Rattle.identity_check.proofs.Halting.{NoneOf, none_one, wide_one, failed_one, moved}
use Rattle.identity_check.proofs.PairEntries.{rows_fit, sum-agree_on}
use Rattle.identity_check.proofs.Constants.{constants_differ}

-- ---- what can't be refused
pub is_put : {A : Type 0} (r : Result A WideAt) (place : WideAt) (test : Bool) → test ≡ false
    → RefusesAt place test r → IsOk r
is_put (Ok x) place test e h = search rules
is_put (Err at) place test e h = absurd (false≢true (sym e ∙ h.1))

pub put_is : {A : Type 0} (r : Result A WideAt) (place : WideAt) (test : Bool) (P : Type 0)
    → test ≡ false → RefusesAt place test r → OnOk r P → P
put_is (Ok x) place test P e h p = p
put_is (Err at) place test P e h p = absurd (false≢true (sym e ∙ h.1))

-- ---- the values of the rows
pub pair_put : (t : Tabled) (j l : ℕ) (rows mid new : List Reading) → IsTabled t → IsOf t j → IsOf t l
    → ((v : ℕ) → value_at rows v ≡ pos 0) → 0 < width_at rows l → 0 < width_at mid (y_of j)
    → mid ≡ with_value rows l (pos 1) → new ≡ with_value mid (y_of j) (pos 1) → PutPair t new j l
pair_put t j l rows mid new h oj ol zeros wl wj e f =
    let b = bounds_of t h in
    let least : 1 ≤ t.level = b.least in
    let last : last_of t ≤ 48 = b.last in
    let lj : t.level ≤ j = oj.low in
    let ll : t.level ≤ l = ol.low in
    let hl : l ≤ last_of t = ol.high in
    record {
      x = λ m low high.
          value-other mid new (y_of j) m (pos 1) (λ d. omega arith) f
          ∙ elim (eqb_tells m l) [
            | inl same ↦
                subst (λ (k : ℕ). value_at mid k ≡ entry (unit_vector t l) k) (sym same.1)
                (value-same rows mid l (pos 1) wl e
                ∙ sym (entry-single_same (last_of t) l (pos 1) (omega arith) hl))
            | inr other ↦
                value-other rows mid l m (pos 1) other.1 e ∙ zeros m
                ∙ sym (entry-single_other (last_of t) l m (pos 1) (omega arith) (omega arith) other.1)
          ];
      y = λ m low high. elim (eqb_tells m j) [
        | inl same ↦
            subst (λ (k : ℕ). value_at new (y_of k) ≡ entry (unit_vector t j) k) (sym same.1)
            (value-same mid new (y_of j) (pos 1) wj f
            ∙ sym (entry-single_same (last_of t) j (pos 1) (omega arith) oj.high))
        | inr other ↦
            (let n : m ≢ j = other.1 in
            value-other mid new (y_of j) (y_of m) (pos 1) (λ d. n (omega arith)) f
            ∙ value-other rows mid l (y_of m) (pos 1) (λ d. omega arith) e ∙ zeros (y_of m)
            ∙ sym (entry-single_other (last_of t) j m (pos 1) (omega arith) (omega arith) n))
      ];
    }

pub others_put : (j l : ℕ) (rows mid new : List Reading) → ((v : ℕ) → value_at rows v ≡ pos 0)
    → mid ≡ with_value rows l (pos 1) → new ≡ with_value mid (y_of j) (pos 1) → AreZeroBut new j l
others_put j l rows mid new zeros e f = λ v x y.
    value-other mid new (y_of j) v (pos 1) y f ∙ value-other rows mid l v (pos 1) x e ∙ zeros v

pub zeros_cleared : (j l : ℕ) (rows mid new : List Reading) → AreZeroBut rows j l
    → 0 < width_at rows l → 0 < width_at mid (y_of j) → mid ≡ with_value rows l (pos 0)
    → new ≡ with_value mid (y_of j) (pos 0) → AreZero new
zeros_cleared j l rows mid new others wl wj e f = λ v. elim (eqb_tells v (y_of j)) [
  | inl same ↦
      subst (λ (u : ℕ). value_at new u ≡ pos 0) (sym same.1)
      (value-same mid new (y_of j) (pos 0) wj f)
  | inr y ↦
      value-other mid new (y_of j) v (pos 0) y.1 f ∙ elim (eqb_tells v l) [
        | inl same ↦
            subst (λ (u : ℕ). value_at mid u ≡ pos 0) (sym same.1)
            (value-same rows mid l (pos 0) wl e)
        | inr x ↦ value-other rows mid l v (pos 0) x.1 e ∙ others v x.1 y.1
      ]
]

-- put or refused, the value is 0
pub zero_set : {A E : Type 0} (r : Result A E) (rows new : List Reading) (v : ℕ)
    → OnOk r (new ≡ with_value rows v (pos 0)) → OnErr r (new ≡ with_value rows v (pos 0))
    → new ≡ with_value rows v (pos 0)
zero_set (Ok x) rows new v h g = h
zero_set (Err x) rows new v h g = g

-- ---- the two entries
agree_put : (t : Tabled) (j l : ℕ) (rows : List Reading) → IsTabled t → PutPair t rows j l
    → AgreeOn t (value_at rows) (point_of (unit_vector t l) (unit_vector t j))
agree_put t j l rows h p = record {
  x = λ m o. p.x m o.low o.high ∙ sym (point-x t (unit_vector t l) (unit_vector t j) m (bounds_of t h) o);
  y = λ m o. p.y m o.low o.high ∙ sym (point-y (unit_vector t l) (unit_vector t j) m);
}

pub unit_is : (t : Tabled) (j l k : ℕ) (rows : List Reading) (left : ℤ) → IsTabled t → IsOf t k
    → PutPair t rows j l → left ≡ value_of (value_at rows) (poly_at t k) → left ≡ entry_of_unit t j l k
unit_is t j l k rows left h o p e =
    e ∙ value-agree_on t k (value_at rows) (point_of (unit_vector t l) (unit_vector t j)) h o
    (agree_put t j l rows h p)

sum_is : (t : Tabled) (j l k : ℕ) (rows : List Reading) → IsTabled t → IsOf t k → PutPair t rows j l
    → sum_overflows (value_at rows) (poly_at t k)
    ≡ sum_at_overflows t (unit_vector t l) (unit_vector t j) k
sum_is t j l k rows h o p =
    sum-agree_on t k (value_at rows) (point_of (unit_vector t l) (unit_vector t j)) h o
    (agree_put t j l rows h p)

pub pair_wide : (rels : Relations) (t : Tabled) (j l k : ℕ) (rows : List Reading) → IsTabled t
    → IsOf t k → PutPair t rows j l → sum_overflows (value_at rows) (poly_at t k) ≡ true
    → OverflowsFirst rels t (tries (Relation j l k) ∷ []) (Relation j l k)
unfolding SidesOverflow
pair_wide rels t j l k rows h o p w =
    wide_one rels t (tries (Relation j l k)) (inr (sym (sum_is t j l k rows h o p) ∙ w))

pair_fits : (t : Tabled) (j l k : ℕ) (rows : List Reading) → IsTabled t → IsOf t j → IsOf t l → IsOf t k
    → PutPair t rows j l → sum_overflows (value_at rows) (poly_at t k) ≡ false
    → ¬ SidesOverflow t (Relation j l k)
unfolding SidesOverflow
pair_fits t j l k rows h oj ol o p w (inl a) = rows_fit t j l h oj ol a
pair_fits t j l k rows h oj ol o p w (inr b) = false≢true (sym w ∙ sum_is t j l k rows h o p ∙ b)

pub pair_holds : (rels : Relations) (t : Tabled) (j l k : ℕ) (rows : List Reading) (left right : ℤ)
    → IsTabled t → IsOf t j → IsOf t l → IsOf t k → PutPair t rows j l
    → sum_overflows (value_at rows) (poly_at t k) ≡ false
    → left ≡ value_of (value_at rows) (poly_at t k) → right ≡ entry_of_pair rels j l k → left ≡ right
    → NoneOf rels t (tries (Relation j l k) ∷ [])
unfolding left_of right_of
pair_holds rels t j l k rows left right h oj ol o p w e f g =
    none_one rels t (Relation j l k) (pair_fits t j l k rows h oj ol o p w)
    (ap constant_terms (sym (unit_is t j l k rows left h o p e) ∙ g ∙ f))

pub pair_fails : (rels : Relations) (t : Tabled) (j l k : ℕ) (rows : List Reading) (left right : ℤ)
    (f : Failure) → IsTabled t → IsOf t j → IsOf t l → IsOf t k → PutPair t rows j l
    → sum_overflows (value_at rows) (poly_at t k) ≡ false
    → left ≡ value_of (value_at rows) (poly_at t k) → right ≡ entry_of_pair rels j l k → left ≢ right
    → f.identity ≡ Relation j l k → f.point.items ≡ [] → f.left ≡ left → f.right ≡ right
    → FailsFirst rels t (tries (Relation j l k) ∷ []) f
unfolding left_of right_of
pair_fails rels t j l k rows left right f h oj ol o p w e g n id none x y =
    let u : left ≡ entry_of_unit t j l k = unit_is t j l k rows left h o p e in
    failed_one rels t (Relation j l k) f id (pair_fits t j l k rows h oj ol o p w)
    (moved (constant_terms (entry_of_unit t j l k)) (constant_terms (entry_of_pair rels j l k)) []
    (parts_of f.point.items) (entry_of_unit t j l k) f.left (entry_of_pair rels j l k) f.right
    (constants_differ (entry_of_unit t j l k) (entry_of_pair rels j l k)
    (λ d. n (u ∙ d ∙ sym g)))
    (ap parts_of none) (x ∙ u) (y ∙ g))
