-- In a table, where no written operation overflows, the identities of units and of last generators
-- don't stop.
--   rels a presentation · t table · j k m generators · c 1 or -1 · id identity · a point
--   x y vectors
use Rattle.std.proofs.Common.{◌≡◌, ℕ, suc, ◌-◌, ◌≤◌, Bool, true, false, List, sym, ap, ◌∙◌, subst, arith, inl, inr}
use Rattle.std.proofs.lemmas.Bool.{cases_lt}
use Rattle.std.proofs.lemmas.Bool.Decides.{eqb_tells}
use Rattle.std.proofs.lemmas.List.Elements.{All-append}
use lib.IntN.{ℤ, pos}
use Rattle.nil_word.specs.Words.{up, down, IsVector}
use Rattle.nil_word.specs.Congruence.{Relations}
use Rattle.nil_word.specs.Exponents.{entry}
use Rattle.hall_law.specs.Table.{zeros, added, single, IsZeroAbove, IsTable}
use Rattle.hall_law.proofs.Vectors.{at_of, entry-zeros}
use Rattle.binom_poly.specs.Variable.{y_of}
use Rattle.binom_poly.specs.Polynomial.{value_of}
use Rattle.binom_poly.proofs.Canonical.{value-var_terms}
use Rattle.poly_subst.specs.Renaming.{without, zeroed}
use Rattle.poly_subst.specs.Substitute.{replaced}
use Rattle.poly_subst.specs.Walk.{by_number}
use Rattle.hall_table.specs.Tabled.{Tabled, IsTabled, last_of, poly_at}
use Rattle.hall_table.specs.Values.{point_of, values}
use Rattle.identity_check.specs.declared.identity.Identity.{Identity}
use Rattle.identity_check.specs.declared.identity.Identity.TheVariants.{UnitRight, UnitLeft, Up, Down}
use Rattle.identity_check.specs.Sides.{xs, ys, cleared, last_step, last_added, left_of, right_of}
use Rattle.identity_check.specs.Overflowing.{LastStepOverflows, SidesOverflow}
use Rattle.identity_check.specs.Signs.{number_of}
use Rattle.identity_check.specs.Events.{Event, at_each, last_events, Stops}
use Rattle.identity_check.specs.Events.Event.{tries}
use Rattle.identity_check.specs.Points.{IsIdentityOf, IsMade, AreEqualAt}
use Rattle.identity_check.specs.Few.{NoneStops, right_events, left_events, all_last_events}
use Rattle.identity_check.proofs.Agreeing.{Bounds, bounds_of, IsOf, AgreeOn, value-without_at, point-x, point-y, entry-single_same, entry-single_other, entry_is}
use Rattle.identity_check.proofs.AnyPoint.{entries_of, vector-entries_of, entry-entries_of, entry-past}
use Rattle.identity_check.proofs.Apart.{sides_apart}
use Rattle.identity_check.proofs.ByNumber.{is_step, replaced_here, replaced_there}
use Rattle.identity_check.proofs.Holding.{zeroed_listed, zeroed_other, holds-numbers, holds-numbers_outside, holds-ys, holds-ys_x}
use Rattle.identity_check.proofs.MadeSteps.{unit_of}
use Rattle.identity_check.proofs.OrderConditions.{holds_above, holds_up_to, holds_other_y, holds_own_y, value-last_added}
use Rattle.identity_check.proofs.StepsFollow.{FitsAll, below_end}
use Rattle.identity_check.proofs.Walked.{of_each, of_flat}

not_stopped : (rels : Relations) (t : Tabled) (id : Identity) → IsTabled t → IsIdentityOf t id
    → IsMade t id → ¬ SidesOverflow t id → ((a : ℕ → ℤ) → AreEqualAt rels t id a)
    → ¬ Stops rels t (tries id)
not_stopped rels t id h o m n e (inl w) = n w
not_stopped rels t id h o m n e (inr d) =
    let s = sides_apart rels t id h o m d in s.1 (e s.0)

-- ---- units
abbrev UnitIn : Tabled → ℕ → Type 0
UnitIn t n = (x : List ℤ) → IsVector n t.level x
    → (values t x (zeros n) ≡ x) × (values t (zeros n) x ≡ x)

value_right : (t : Tabled) (k : ℕ) (a : ℕ → ℤ) → IsTabled t → IsOf t k → UnitIn t (last_of t)
    → value_of a (without (ys t) (poly_at t k)) ≡ a k
value_right t k a h o u =
    let b = bounds_of t h in
    let n = last_of t in
    let last : n ≤ 48 = b.last in
    let x = entries_of t a in
    let agree : AgreeOn t (zeroed (ys t) a) (point_of x (zeros n)) = record {
      x = λ m q. zeroed_other (ys t) a m
          (holds-ys_x t.level (suc n - t.level) m (omega (arith, q.high)))
          ∙ sym (point-x t x (zeros n) m b q ∙ entry-entries_of t a m b q);
      y = λ m q. zeroed_listed (ys t) a (y_of m)
          (holds-ys t.level (suc n - t.level) m q.low (omega (arith, q.low, q.high)))
          ∙ sym (point-y x (zeros n) m ∙ entry-zeros n m);
    } in
    value-without_at t k (ys t) a (point_of x (zeros n)) h o agree
    ∙ sym (entry_is t x (zeros n) k h o)
    ∙ ap (λ (v : List ℤ). entry v k) ((u x (vector-entries_of t a b)).0)
    ∙ entry-entries_of t a k b o

value_left : (t : Tabled) (k : ℕ) (a : ℕ → ℤ) → IsTabled t → IsOf t k → UnitIn t (last_of t)
    → value_of a (without (xs t) (poly_at t k)) ≡ a (y_of k)
value_left t k a h o u =
    let b = bounds_of t h in
    let n = last_of t in
    let last : n ≤ 48 = b.last in
    let y = entries_of t (λ m. a (y_of m)) in
    let agree : AgreeOn t (zeroed (xs t) a) (point_of (zeros n) y) = record {
      x = λ m q. zeroed_listed (xs t) a m
          (holds-numbers t.level (suc n - t.level) m q.low (omega (arith, q.low, q.high)))
          ∙ sym (point-x t (zeros n) y m b q ∙ entry-zeros n m);
      y = λ m q. zeroed_other (xs t) a (y_of m)
          (holds-numbers_outside t.level (suc n - t.level) (y_of m) (λ i low high e. omega arith))
          ∙ sym (point-y (zeros n) y m ∙ entry-entries_of t (λ i. a (y_of i)) m b q);
    } in
    value-without_at t k (xs t) a (point_of (zeros n) y) h o agree
    ∙ sym (entry_is t (zeros n) y k h o)
    ∙ ap (λ (v : List ℤ). entry v k) ((u y (vector-entries_of t (λ m. a (y_of m)) b)).1)
    ∙ entry-entries_of t (λ m. a (y_of m)) k b o

units_of_table : (rels : Relations) (t : Tabled) → last_of t ≡ rels.count
    → IsTable rels t.level (values t) → UnitIn t (last_of t)
units_of_table rels t e m = subst (UnitIn t) (sym e) (λ x hx. m.multiplies.unit x hx)

pub rights_follow : (rels : Relations) (t : Tabled) → IsTabled t → last_of t ≡ rels.count
    → IsTable rels t.level (values t) → NoneStops rels t (right_events t)
unfolding left_of right_of SidesOverflow IsIdentityOf IsMade
rights_follow rels t h e m =
    let u = units_of_table rels t e m in
    of_each t (λ d. ¬ Stops rels t d) (λ k. tries (UnitRight k)) (bounds_of t h)
    (λ k o. not_stopped rels t (UnitRight k) h (o.low, o.high) (λ w. w) (λ w. w)
    (λ a. value_right t k a h o u ∙ sym (value-var_terms a k)))

pub lefts_follow : (rels : Relations) (t : Tabled) → IsTabled t → last_of t ≡ rels.count
    → IsTable rels t.level (values t) → NoneStops rels t (left_events t)
unfolding left_of right_of SidesOverflow IsIdentityOf IsMade
lefts_follow rels t h e m =
    let u = units_of_table rels t e m in
    of_each t (λ d. ¬ Stops rels t d) (λ k. tries (UnitLeft k)) (bounds_of t h)
    (λ k o. not_stopped rels t (UnitLeft k) h (o.low, o.high) (λ w. w) (λ w. w)
    (λ a. value_left t k a h o u ∙ sym (value-var_terms a (y_of k))))

-- ---- last generators
abbrev OrderIn : Tabled → ℕ → ℕ → ℤ → Type 0
OrderIn t n j c = (x : List ℤ) → IsVector n t.level x → IsZeroAbove j x
    → values t x (single n j c) ≡ added x j c

order_of_table : (rels : Relations) (t : Tabled) (j : ℕ) (sign : Bool) → last_of t ≡ rels.count
    → IsTable rels t.level (values t) → IsOf t j → OrderIn t (last_of t) j (number_of sign)
order_of_table rels t j true e m o =
    subst (λ (n : ℕ). OrderIn t n j (pos 1)) (sym e)
    (λ x hx z. m.multiplies.order (up j) x (o.low, omega (arith, o.high, e)) hx z)
order_of_table rels t j false e m o =
    subst (λ (n : ℕ). OrderIn t n j (number_of false)) (sym e)
    (λ x hx z. m.multiplies.order (down j) x (o.low, omega (arith, o.high, e)) hx z)

-- the point at which a last generator is multiplied on
last_point : Tabled → ℕ → ℤ → (ℕ → ℤ) → ℕ → ℤ
last_point t j c a = zeroed (cleared t j) (replaced (by_number (y_of j) c) a)

last_point-x : (t : Tabled) (j k : ℕ) (c : ℤ) (a : ℕ → ℤ) → Bounds t → IsOf t k → k ≤ j
    → last_point t j c a k ≡ a k
unfolding last_point
last_point-x t j k c a b o l =
    let last : last_of t ≤ 48 = b.last in
    zeroed_other (cleared t j) (replaced (by_number (y_of j) c) a) k (holds_up_to t j k b o l)
    ∙ replaced_there (y_of j) k c a (λ d. omega (arith, o.high))

agree_last : (t : Tabled) (j : ℕ) (c : ℤ) (a : ℕ → ℤ) → Bounds t → IsOf t j
    → AgreeOn t (last_point t j c a)
    (point_of (entries_of t (last_point t j c a)) (single (last_of t) j c))
unfolding last_point
agree_last t j c a b o =
    let n = last_of t in
    let p = last_point t j c a in
    let x = entries_of t p in
    let y = single n j c in
    let r = replaced (by_number (y_of j) c) a in
    let least : 1 ≤ t.level = b.least in
    let low : t.level ≤ j = o.low in
    record {
      x = λ m q. sym (point-x t x y m b q ∙ entry-entries_of t p m b q);
      y = λ m q. elim (eqb_tells m j) [
        | inl same ↦
            subst (λ (k : ℕ). zeroed (cleared t j) r (y_of k) ≡ point_of x y (y_of k)) (sym same.1)
            (zeroed_other (cleared t j) r (y_of j) (holds_own_y t j b)
            ∙ replaced_here (y_of j) c a
            ∙ sym (point-y x y j ∙ entry-single_same n j c (omega arith) o.high))
        | inr other ↦
            zeroed_listed (cleared t j) r (y_of m) (holds_other_y t j m b q other.1)
            ∙ sym (point-y x y m ∙ entry-single_other n j m c (omega arith) (omega (arith, q.low)) other.1)
      ];
    }

zero_above : (t : Tabled) (j : ℕ) (c : ℤ) (a : ℕ → ℤ) → Bounds t → IsOf t j
    → IsZeroAbove j (entries_of t (last_point t j c a))
unfolding last_point
zero_above t j c a b o m l =
    let n = last_of t in
    let p = last_point t j c a in
    elim (cases_lt n m) [
      | inl past ↦ entry-past n t.level (entries_of t p) m (vector-entries_of t p b) past
      | inr within ↦
          (let q : IsOf t m = record { low = omega (arith, o.low); high = within } in
          entry-entries_of t p m b q
          ∙ zeroed_listed (cleared t j) (replaced (by_number (y_of j) c) a) m (holds_above t j m q l))
    ]

value_last : (t : Tabled) (j k : ℕ) (sign : Bool) (a : ℕ → ℤ) → IsTabled t → IsOf t j → IsOf t k
    → ¬ LastStepOverflows t j (number_of sign) k → OrderIn t (last_of t) j (number_of sign)
    → value_of a (last_step t j (number_of sign) k) ≡ value_of a (last_added j (number_of sign) k)
unfolding last_point
value_last t j k sign a h o q n s =
    let b = bounds_of t h in
    let c = number_of sign in
    let p = last_point t j c a in
    let x = entries_of t p in
    let y = single (last_of t) j c in
    let hx = vector-entries_of t p b in
    let least : 1 ≤ t.level = b.least in
    (is_step t k (cleared t j) (y_of j) c h q (unit_of sign) n).value a (point_of x y)
    (agree_last t j c a b o)
    ∙ sym (entry_is t x y k h q)
    ∙ ap (λ (v : List ℤ). entry v k) (s x hx (zero_above t j c a b o))
    ∙ sym (value-last_added j k c a x (omega (arith, o.low)) (omega (arith, q.low))
    (omega (arith, (at_of (last_of t) t.level x hx).size, o.high))
    (λ l. sym (entry-entries_of t p k b q ∙ last_point-x t j k c a b q l))
    (zero_above t j c a b o))

pub lasts_follow : (rels : Relations) (t : Tabled) → IsTabled t → last_of t ≡ rels.count
    → FitsAll t.level t.polys → IsTable rels t.level (values t)
    → NoneStops rels t (all_last_events t)
unfolding left_of right_of SidesOverflow IsIdentityOf IsMade
lasts_follow rels t h e n m =
    let b = bounds_of t h in
    let fits : (j k : ℕ) (sign : Bool) → IsOf t k → ¬ LastStepOverflows t j (number_of sign) k =
    λ j k sign q.
    (n (cleared t j) (y_of j) (number_of sign) (unit_of sign).small).step k q.low (below_end t k b q) in
    of_flat t (λ d. ¬ Stops rels t d) (last_events (xs t)) b
    (λ j o.
    All-append (λ (d : Event). ¬ Stops rels t d) (at_each (xs t) (λ k. tries (Up j k)))
    (at_each (xs t) (λ k. tries (Down j k)))
    (of_each t (λ d. ¬ Stops rels t d) (λ k. tries (Up j k)) b
    (λ k q. not_stopped rels t (Up j k) h ((o.low, o.high), (q.low, q.high)) (fits j k true q)
    (fits j k true q)
    (λ a. value_last t j k true a h o q (fits j k true q) (order_of_table rels t j true e m o))))
    (of_each t (λ d. ¬ Stops rels t d) (λ k. tries (Down j k)) b
    (λ k q. not_stopped rels t (Down j k) h ((o.low, o.high), (q.low, q.high)) (fits j k false q)
    (fits j k false q)
    (λ a. value_last t j k false a h o q (fits j k false q) (order_of_table rels t j false e m o)))))
