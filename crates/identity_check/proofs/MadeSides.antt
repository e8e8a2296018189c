-- The sides that were made, and what it says where one of them overflows.
--   t table · j k generators · up a generator, or its inverse · c number · id identity · h halt
--   vs variables · p q polynomials · list what is put in
use Rattle.std.proofs.Common.{◌≡◌, ℕ, ◌≤◌, Bool, true, false, cond, List, [], ◌∷◌, refl, sym, ap, ◌∙◌, subst, arith, inl, inr}
use Rattle.std.specs.Prelude.{Result, Ok, Err}
use Rattle.nil_num.specs.Outcome.{Gives, Unless}
use Rattle.nil_word.specs.Congruence.{Relations}
use Rattle.binom_poly.specs.declared.term.Term.{Term}
use Rattle.binom_poly.specs.declared.fault.PolyFault.{PolyFault}
use Rattle.binom_poly.specs.Fault.{wide_of}
use Rattle.binom_poly.specs.Monomial.{same_parts}
use Rattle.binom_poly.specs.Weight.{weight}
use Rattle.binom_poly.specs.Collected.{constant_terms, var_terms, sum_of, SumOverflows}
use Rattle.poly_subst.specs.declared.assign.Assign.{Assign}
use Rattle.poly_subst.specs.Renaming.{without}
use Rattle.poly_subst.specs.Substitute.{substituted, SubstituteOverflows}
use Rattle.hall_table.specs.Tabled.{Tabled}
use Rattle.identity_check.specs.declared.identity.Identity.{Identity}
use Rattle.identity_check.specs.declared.halt.Halt.{Halt}
use Rattle.identity_check.specs.declared.halt.Halt.TheVariants.{Failed, Wide, Memory}
use Rattle.identity_check.specs.Sides.{last_step, last_added, left_of, right_of, left_step, right_step}
use Rattle.identity_check.specs.Overflowing.{LastStepOverflows, StepOverflows, StepSidesOverflow, SidesOverflow, MakingOverflows}
use Rattle.identity_check.specs.Signs.{number_of, last_id, step_id}
use Rattle.identity_check.specs.Events.{Overflows}
use Rattle.identity_check.specs.Events.Event.{makes, tries}
use Rattle.identity_check.specs.Halts.{IsHalt, WalksIn, Compares, IsWideFor, Makes, HandsOn}
use Rattle.identity_check.proofs.OrderConditions.{last_added_here}
use Rattle.identity_check.proofs.Halting.{compared, wide_one}

-- ---- entry k of x with a number added
few : (b : Bool) → cond b 1 0 ≤ 1
few true = omega arith
few false = omega arith

pub small_sum : (k : ℕ) (up : Bool) → ¬ SumOverflows (var_terms k) (constant_terms (number_of up))
unfolding weight
small_sum k true (inl (inl (inl h))) = absurd (omega arith)
small_sum k true (inl (inl (inr h))) = h
small_sum k true (inl (inr (inl h))) = h
small_sum k true (inl (inr (inr h))) = h
small_sum k true (inr h) =
    let a = few (same_parts h.0 (record { var = k; exp = 1 } ∷ [])) in
    let b = few (same_parts h.0 []) in
    absurd (omega (arith, h.1, a, b))
small_sum k false (inl (inl (inl h))) = absurd (omega arith)
small_sum k false (inl (inl (inr h))) = h
small_sum k false (inl (inr (inl h))) = h
small_sum k false (inl (inr (inr h))) = h
small_sum k false (inr h) =
    let a = few (same_parts h.0 (record { var = k; exp = 1 } ∷ [])) in
    let b = few (same_parts h.0 []) in
    absurd (omega (arith, h.1, a, b))

pub own_made : (id : Identity) (j k : ℕ) (up : Bool) (x n : List Term)
    (r : Result (List Term) PolyFault) (s : Result (List Term) Halt) → x ≡ var_terms k
    → n ≡ constant_terms (number_of up) → j ≤ k → k ≡ j
    → Gives wide_of r (Unless (SumOverflows x n) (sum_of x n)) → HandsOn id r s
    → Makes id ⊥ (last_added j (number_of up) k) s
own_made id j k up x n r (Ok q) ex en l e g h =
    let made : Result (List Term) PolyFault = Ok q in
    let u : Gives wide_of made (Unless (SumOverflows x n) (sum_of x n)) =
    subst (λ (o : Result (List Term) PolyFault). Gives wide_of o (Unless (SumOverflows x n) (sum_of x n))) h g in (
      u.0 ∙ ap (λ (y : List Term). sum_of y n) ex ∙ ap (sum_of (var_terms k)) en
          ∙ sym (last_added_here j k (number_of up) l e),
      λ z. z,
    )
own_made id j k up x n r (Err (Failed f)) ex en l e g h = h
own_made id j k up x n r (Err (Wide i)) ex en l e g h = (
  h.0,
  small_sum k up
      (subst (λ (y : List Term). SumOverflows y (constant_terms (number_of up))) ex
      (subst (SumOverflows x) en
      (subst (λ (o : Result (List Term) PolyFault). Gives wide_of o (Unless (SumOverflows x n) (sum_of x n))) h.1 g))),
)
own_made id j k up x n r (Err Memory) ex en l e g h = tt

-- ---- what is made of equal things
pub kept_overflows : (vs ws : List ℕ) (p q : List Term) (list more : List Assign) → vs ≡ ws → p ≡ q
    → list ≡ more → SubstituteOverflows (without vs p) list → SubstituteOverflows (without ws q) more
kept_overflows vs ws p q list more e f g h =
    subst (λ (us : List ℕ). SubstituteOverflows (without us q) more) e
    (subst (λ (r : List Term). SubstituteOverflows (without vs r) more) f
    (subst (SubstituteOverflows (without vs p)) g h))

pub kept_same : (vs ws : List ℕ) (p q : List Term) (list more : List Assign) → vs ≡ ws → p ≡ q
    → list ≡ more → substituted (without vs p) list ≡ substituted (without ws q) more
kept_same vs ws p q list more e f g =
    ap (λ (us : List ℕ). substituted (without us p) list) e
    ∙ ap (λ (r : List Term). substituted (without ws r) list) f
    ∙ ap (substituted (without ws q)) g

-- ---- identities by sign
pub last_wide : (t : Tabled) (j k : ℕ) (up : Bool) → LastStepOverflows t j (number_of up) k
    → SidesOverflow t (last_id up j k)
unfolding SidesOverflow
last_wide t j k true h = h
last_wide t j k false h = h

pub last_fits : (t : Tabled) (j k : ℕ) (up : Bool) → ¬ LastStepOverflows t j (number_of up) k
    → ¬ SidesOverflow t (last_id up j k)
unfolding SidesOverflow
last_fits t j k true n = n
last_fits t j k false n = n

pub last_left : (t : Tabled) (j k : ℕ) (up : Bool) → last_step t j (number_of up) k ≡ left_of t (last_id up j k)
unfolding left_of
last_left t j k true = refl
last_left t j k false = refl

pub last_right : (rels : Relations) (t : Tabled) (j k : ℕ) (up : Bool)
    → last_added j (number_of up) k ≡ right_of rels t (last_id up j k)
unfolding right_of
last_right rels t j k true = refl
last_right rels t j k false = refl

pub step_wide : (t : Tabled) (j k : ℕ) (up : Bool) → StepSidesOverflow t j (number_of up) k
    → SidesOverflow t (step_id up j k)
unfolding SidesOverflow
step_wide t j k true h = h
step_wide t j k false h = h

pub step_fits : (t : Tabled) (j k : ℕ) (up : Bool) → ¬ StepSidesOverflow t j (number_of up) k
    → ¬ SidesOverflow t (step_id up j k)
unfolding SidesOverflow
step_fits t j k true n = n
step_fits t j k false n = n

pub step_left : (t : Tabled) (j k : ℕ) (up : Bool) → left_step t j (number_of up) k ≡ left_of t (step_id up j k)
unfolding left_of
step_left t j k true = refl
step_left t j k false = refl

pub step_right : (rels : Relations) (t : Tabled) (j k : ℕ) (up : Bool)
    → right_step t j (number_of up) k ≡ right_of rels t (step_id up j k)
unfolding right_of
step_right rels t j k true = refl
step_right rels t j k false = refl

pub made_wide : (t : Tabled) (j k : ℕ) (up : Bool) → StepOverflows t j (number_of up) k
    → Overflows t (makes (step_id up j k))
unfolding MakingOverflows
made_wide t j k true h = h
made_wide t j k false h = h

pub made_fits : (t : Tabled) (j k : ℕ) (up : Bool) → ¬ StepOverflows t j (number_of up) k
    → ¬ Overflows t (makes (step_id up j k))
unfolding MakingOverflows
made_fits t j k true n = n
made_fits t j k false n = n

-- ---- what stops an event
pub wide_tries : (rels : Relations) (t : Tabled) (id i : Identity) (O : Type 0) (h : Halt) → id ≡ i
    → (O → SidesOverflow t i) → IsWideFor id O h → IsHalt rels t (tries i ∷ []) h
wide_tries rels t id i O (Failed f) e o w = absurd w
wide_tries rels t id i O (Wide n) e o w =
    subst (λ (m : Identity). IsHalt rels t (tries i ∷ []) (Wide m)) (sym (w.0 ∙ e))
    (wide_one rels t (tries i) (o w.1))
wide_tries rels t id i O Memory e o w = tt

pub wide_makes : (rels : Relations) (t : Tabled) (id i : Identity) (O : Type 0) (h : Halt) → id ≡ i
    → (O → Overflows t (makes i)) → IsWideFor id O h → IsHalt rels t (makes i ∷ []) h
wide_makes rels t id i O (Failed f) e o w = absurd w
wide_makes rels t id i O (Wide n) e o w =
    subst (λ (m : Identity). IsHalt rels t (makes i ∷ []) (Wide m)) (sym (w.0 ∙ e))
    (wide_one rels t (makes i) (o w.1))
wide_makes rels t id i O Memory e o w = tt

pub compared_as : (rels : Relations) (t : Tabled) (id i : Identity) (p q : List Term)
    (r : Result (Unit {0}) Halt) → id ≡ i → p ≡ left_of t i → q ≡ right_of rels t i
    → ¬ SidesOverflow t i → Compares id p q r → WalksIn rels t (tries i ∷ []) r
compared_as rels t id i p q r e l m n h =
    compared rels t i p q r l m n (subst (λ (k : Identity). Compares k p q r) e h)
