-- What holds of each event of a walk, identity by identity.
--   P what holds of an event · t table, of generators from level to n · j < l and k generators
--   ts us terms
use Rattle.std.proofs.Common.{◌≡◌, ◌≢◌, ℕ, zero, suc, ◌+◌, ◌-◌, ◌<◌, ◌≤◌, Bool, true, List, [], ◌∷◌, ◌++◌, map, refl, sym, ap, ◌∙◌, subst, arith, inl, inr}
use Rattle.std.specs.Prelude.{All, ◌&&◌}
use Rattle.std.specs.List.{flat_map}
use Rattle.std.specs.Bool.{Decides}
use Rattle.std.specs.Ordering.{int_eq}
use Rattle.std.specs.Cmp.{signed_Decides, first_so, second_so}
use Rattle.std.specs.Cmp.Lexicographic.{pointwise, pointwise_decides}
use Rattle.std.proofs.lemmas.Bool.{cases_Bool, false≢true}
use Rattle.std.proofs.lemmas.Bool.Decides.{eqb_tells}
use Rattle.std.proofs.lemmas.List.Elements.{All-nil, All-head, All-tail, All-cons, All-append}
use lib.IntN.{ℤ}
use Rattle.nil_word.specs.Congruence.{Relations}
use Rattle.nil_word.specs.Exponents.{numbers}
use Rattle.binom_poly.specs.declared.part.Part.{Part}
use Rattle.binom_poly.specs.declared.term.Term.{Term}
use Rattle.binom_poly.specs.Monomial.{same_parts, same_parts_is}
use Rattle.hall_table.specs.Tabled.{Tabled, last_of}
use Rattle.identity_check.specs.declared.identity.Identity.{Identity}
use Rattle.identity_check.specs.declared.identity.Identity.TheVariants.{UnitRight, UnitLeft, Up, Down, StepUp, StepDown, Relation}
use Rattle.identity_check.specs.Sides.{xs, left_of, right_of}
use Rattle.identity_check.specs.Events.{Event, at_each, last_events, signed_events, step_events, relation_events, events, Stops}
use Rattle.identity_check.specs.Events.Event.{makes, tries}
use Rattle.identity_check.proofs.Agreeing.{Bounds, IsOf}

-- ---- lists
pub all_left : {X : Type 0} (P : X → Type 0) (xs ys : List X) → All P (xs ++ ys) → All P xs
all_left P [] ys h = All-nil P
all_left P (x ∷ xs) ys h =
    All-cons P x xs (All-head P x (xs ++ ys) h) (all_left P xs ys (All-tail P x (xs ++ ys) h))

pub all_right : {X : Type 0} (P : X → Type 0) (xs ys : List X) → All P (xs ++ ys) → All P ys
all_right P [] ys h = h
all_right P (x ∷ xs) ys h = all_right P xs ys (All-tail P x (xs ++ ys) h)

pub all_each : (P : Event → Type 0) (e : ℕ → Event) (low d m : ℕ)
    → All P (at_each (numbers low d) e) → low ≤ m → m < low + d → P (e m)
all_each P e low zero m h l u = absurd (omega arith)
all_each P e low (suc d) m h l u =
    elim (eqb_tells low m) [
      | inl same ↦ subst (λ (k : ℕ). P (e k)) same.1 (All-head P (e low) (map e (numbers (suc low) d)) h)
      | inr other ↦
          (let n : low ≢ m = other.1 in
          all_each P e (suc low) d m (All-tail P (e low) (map e (numbers (suc low) d)) h)
          (omega arith) (omega arith))
    ]

pub all_flat : (P : Event → Type 0) (f : ℕ → List Event) (low d m : ℕ)
    → All P (flat_map f (numbers low d)) → low ≤ m → m < low + d → All P (f m)
all_flat P f low zero m h l u = absurd (omega arith)
all_flat P f low (suc d) m h l u =
    elim (eqb_tells low m) [
      | inl same ↦
          subst (λ (k : ℕ). All P (f k)) same.1
          (all_left P (f low) (flat_map f (numbers (suc low) d)) h)
      | inr other ↦
          (let n : low ≢ m = other.1 in
          all_flat P f (suc low) d m (all_right P (f low) (flat_map f (numbers (suc low) d)) h)
          (omega arith) (omega arith))
    ]

each_all : (P : Event → Type 0) (e : ℕ → Event) (low d : ℕ)
    → ((m : ℕ) → low ≤ m → m < low + d → P (e m)) → All P (at_each (numbers low d) e)
each_all P e low zero h = All-nil P
each_all P e low (suc d) h =
    All-cons P (e low) (map e (numbers (suc low) d)) (h low (omega arith) (omega arith))
    (each_all P e (suc low) d (λ m l u. h m (omega arith) (omega arith)))

flat_all : (P : Event → Type 0) (f : ℕ → List Event) (low d : ℕ)
    → ((m : ℕ) → low ≤ m → m < low + d → All P (f m)) → All P (flat_map f (numbers low d))
flat_all P f low zero h = All-nil P
flat_all P f low (suc d) h =
    All-append P (f low) (flat_map f (numbers (suc low) d)) (h low (omega arith) (omega arith))
    (flat_all P f (suc low) d (λ m l u. h m (omega arith) (omega arith)))

-- ---- the generators of a table
pub each_of : (t : Tabled) (P : Event → Type 0) (e : ℕ → Event) (k : ℕ)
    → All P (at_each (xs t) e) → IsOf t k → P (e k)
each_of t P e k a o =
    all_each P e t.level (suc (last_of t) - t.level) k a o.low (omega (arith, o.low, o.high))

pub flat_of : (t : Tabled) (P : Event → Type 0) (f : ℕ → List Event) (j : ℕ)
    → All P (flat_map f (xs t)) → IsOf t j → All P (f j)
flat_of t P f j a o =
    all_flat P f t.level (suc (last_of t) - t.level) j a o.low (omega (arith, o.low, o.high))

of_range : (t : Tabled) (m : ℕ) → Bounds t → t.level ≤ m
    → m < t.level + (suc (last_of t) - t.level) → IsOf t m
of_range t m b l u = record { low = l; high = omega (arith, b.most) }

pub of_each : (t : Tabled) (P : Event → Type 0) (e : ℕ → Event) → Bounds t
    → ((k : ℕ) → IsOf t k → P (e k)) → All P (at_each (xs t) e)
of_each t P e b h =
    each_all P e t.level (suc (last_of t) - t.level) (λ m l u. h m (of_range t m b l u))

pub of_flat : (t : Tabled) (P : Event → Type 0) (f : ℕ → List Event) → Bounds t
    → ((j : ℕ) → IsOf t j → All P (f j)) → All P (flat_map f (xs t))
of_flat t P f b h =
    flat_all P f t.level (suc (last_of t) - t.level) (λ m l u. h m (of_range t m b l u))

-- ---- the walk
pub record OfWalk (P : Event → Type 0) (t : Tabled) : Type 0 where
  pub unit_right : (k : ℕ) → IsOf t k → P (tries (UnitRight k))
  pub unit_left : (k : ℕ) → IsOf t k → P (tries (UnitLeft k))
  pub up : (j k : ℕ) → IsOf t j → IsOf t k → P (tries (Up j k))
  pub down : (j k : ℕ) → IsOf t j → IsOf t k → P (tries (Down j k))
  pub makes_up : (j k : ℕ) → IsOf t j → IsOf t k → P (makes (StepUp j k))
  pub step_up : (j k : ℕ) → IsOf t j → IsOf t k → P (tries (StepUp j k))
  pub makes_down : (j k : ℕ) → IsOf t j → IsOf t k → P (makes (StepDown j k))
  pub step_down : (j k : ℕ) → IsOf t j → IsOf t k → P (tries (StepDown j k))
  pub relation : (j l k : ℕ) → IsOf t j → j < l → l ≤ last_of t → IsOf t k
      → P (tries (Relation j l k))

pub of_walk : (P : Event → Type 0) (t : Tabled) → All P (events t.level (last_of t)) → OfWalk P t
of_walk P t h =
    let n = last_of t in
    let ks = xs t in
    let rights = at_each ks (λ k. tries (UnitRight k)) in
    let lefts = at_each ks (λ k. tries (UnitLeft k)) in
    let lasts = flat_map (last_events ks) ks in
    let steps = flat_map (step_events ks) ks in
    let relations = flat_map (relation_events ks n) ks in
    let one = all_right P rights (lefts ++ (lasts ++ (steps ++ relations))) h in
    let two = all_right P lefts (lasts ++ (steps ++ relations)) one in
    let three = all_right P lasts (steps ++ relations) two in
    let last : (j : ℕ) → IsOf t j → All P (last_events ks j) =
    λ j o. flat_of t P (last_events ks) j (all_left P lasts (steps ++ relations) two) o in
    let step : (j : ℕ) → IsOf t j → All P (step_events ks j) =
    λ j o. flat_of t P (step_events ks) j (all_left P steps relations three) o in
    let ups : (j : ℕ) → IsOf t j → All P (signed_events StepUp ks j) =
    λ j o. all_left P (signed_events StepUp ks j) (signed_events StepDown ks j) (step j o) in
    let downs : (j : ℕ) → IsOf t j → All P (signed_events StepDown ks j) =
    λ j o. all_right P (signed_events StepUp ks j) (signed_events StepDown ks j) (step j o) in
    record {
      unit_right = λ k o. each_of t P (λ m. tries (UnitRight m)) k
          (all_left P rights (lefts ++ (lasts ++ (steps ++ relations))) h) o;
      unit_left = λ k o. each_of t P (λ m. tries (UnitLeft m)) k
          (all_left P lefts (lasts ++ (steps ++ relations)) one) o;
      up = λ j k a b. each_of t P (λ m. tries (Up j m)) k
          (all_left P (at_each ks (λ m. tries (Up j m))) (at_each ks (λ m. tries (Down j m))) (last j a)) b;
      down = λ j k a b. each_of t P (λ m. tries (Down j m)) k
          (all_right P (at_each ks (λ m. tries (Up j m))) (at_each ks (λ m. tries (Down j m))) (last j a)) b;
      makes_up = λ j k a b. each_of t P (λ m. makes (StepUp j m)) k
          (all_left P (at_each ks (λ m. makes (StepUp j m))) (at_each ks (λ m. tries (StepUp j m))) (ups j a)) b;
      step_up = λ j k a b. each_of t P (λ m. tries (StepUp j m)) k
          (all_right P (at_each ks (λ m. makes (StepUp j m))) (at_each ks (λ m. tries (StepUp j m))) (ups j a)) b;
      makes_down = λ j k a b. each_of t P (λ m. makes (StepDown j m)) k
          (all_left P (at_each ks (λ m. makes (StepDown j m))) (at_each ks (λ m. tries (StepDown j m))) (downs j a)) b;
      step_down = λ j k a b. each_of t P (λ m. tries (StepDown j m)) k
          (all_right P (at_each ks (λ m. makes (StepDown j m))) (at_each ks (λ m. tries (StepDown j m))) (downs j a)) b;
      relation = λ j l k a below high b.
          each_of t P (λ m. tries (Relation j l m)) k
          (all_flat P (λ i. at_each ks (λ m. tries (Relation j i m))) (suc j) (suc n - suc j) l
          (flat_of t P (relation_events ks n) j (all_right P steps relations three) a)
          below (omega arith)) b;
    }

-- ---- sides that aren't different are equal
same_term_test : Term → Term → Bool
same_term_test t u = same_parts t.monomial u.monomial && int_eq t.coefficient u.coefficient

term_decides : (t u : Term) → Decides (same_term_test t u) (t ≡ u)
unfolding same_term_test
term_decides t u = (
  (λ h. ap (λ (m : List Part). let r : Term = record { monomial = m; coefficient = t.coefficient } in r)
      ((same_parts_is t.monomial u.monomial).0
      (first_so (same_parts t.monomial u.monomial) (int_eq t.coefficient u.coefficient) h))
      ∙ ap (λ (z : ℤ). let r : Term = record { monomial = u.monomial; coefficient = z } in r)
      ((signed_Decides t.coefficient u.coefficient).0
      (second_so (same_parts t.monomial u.monomial) (int_eq t.coefficient u.coefficient) h))),
  (λ e. subst (λ (r : Term). same_term_test t r ≡ true) e
      (λ i. (same_parts_is t.monomial t.monomial).1 refl i
      && (signed_Decides t.coefficient t.coefficient).1 refl i)),
)

pub not_different : (ts us : List Term) → ¬ (ts ≢ us) → ts ≡ us
not_different ts us n =
    let d : Decides (pointwise same_term_test ts us) (ts ≡ us) =
    pointwise_decides term_decides ts us in
    elim (cases_Bool (pointwise same_term_test ts us)) [
      | inl e ↦ d.0 e
      | inr e ↦ absurd (n (λ q. false≢true (sym e ∙ d.1 q)))
    ]

pub sides_equal : (rels : Relations) (t : Tabled) (id : Identity) → ¬ Stops rels t (tries id)
    → left_of t id ≡ right_of rels t id
sides_equal rels t id n = not_different (left_of t id) (right_of rels t id) (λ f. n (inr f))
