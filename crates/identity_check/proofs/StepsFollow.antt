-- In a table, where no written operation overflows, none of the step identities stops.
--   rels a presentation · t table · j k m generators · c 1 or -1 · id identities by a generator
--   a point · x y vectors
use Rattle.std.proofs.Common.{◌≡◌, ℕ, ◌+◌, ◌<◌, ◌≤◌, List, ◌++◌, length, sym, ap, ◌∙◌, subst, arith, inl, inr}
use Rattle.std.specs.Prelude.{unsigned_abs}
use Rattle.std.proofs.lemmas.List.Elements.{All-append}
use lib.IntN.{ℤ, pos, negsuc}
use Rattle.nil_word.specs.Words.{up, down, IsVector}
use Rattle.nil_word.specs.Congruence.{Relations}
use Rattle.nil_word.specs.Exponents.{entry}
use Rattle.hall_law.specs.Table.{single, IsTable}
use Rattle.binom_poly.specs.declared.term.Term.{Term}
use Rattle.binom_poly.specs.Variable.{y_of}
use Rattle.binom_poly.proofs.Unique.{unique_form}
use Rattle.poly_subst.specs.Family.{poly_from}
use Rattle.poly_subst.specs.Walk.{NoneOverflows}
use Rattle.hall_table.specs.Tabled.{Tabled, IsTabled, last_of, poly_at}
use Rattle.hall_table.specs.Values.{values}
use Rattle.hall_table.specs.Order.{generators}
use Rattle.identity_check.specs.declared.identity.Identity.{Identity}
use Rattle.identity_check.specs.declared.identity.Identity.TheVariants.{StepUp, StepDown}
use Rattle.identity_check.specs.Sides.{xs, other_ys, left_step, right_step, left_of, right_of}
use Rattle.identity_check.specs.Overflowing.{StepOverflows, StepSidesOverflow, MakingOverflows, SidesOverflow}
use Rattle.identity_check.specs.Events.{Event, at_each, signed_events, step_events, Stops}
use Rattle.identity_check.specs.Events.Event.{makes, tries}
use Rattle.identity_check.specs.Few.{NoneStops, all_step_events}
use Rattle.identity_check.proofs.Agreeing.{Bounds, bounds_of, IsOf}
use Rattle.identity_check.proofs.AnyPoint.{entries_of, vector-entries_of, agree_entries}
use Rattle.identity_check.proofs.ByNumber.{IsUnit, unit_up, unit_down}
use Rattle.identity_check.proofs.StepConditions.{StepsAlike, steps_made, substituted-left, substituted-right, value-left_step, value-right_step}
use Rattle.identity_check.proofs.Walked.{of_each, of_flat}

-- ---- in a table the steps are alike
abbrev StepAt : Tabled → ℕ → ℤ → Type 0
StepAt t j c = (x y : List ℤ) → IsVector (last_of t) t.level x → IsVector (last_of t) t.level y
    → values t x (values t y (single (last_of t) j c))
    ≡ values t (values t x y) (single (last_of t) j c)

abbrev StepIn : Tabled → ℕ → ℕ → ℤ → Type 0
StepIn t n j c = (x y : List ℤ) → IsVector n t.level x → IsVector n t.level y
    → values t x (values t y (single n j c)) ≡ values t (values t x y) (single n j c)

abbrev FitsSteps : Tabled → ℕ → ℤ → Type 0
FitsSteps t j c = NoneOverflows t.level (generators t) (poly_at t) (other_ys t j) (y_of j) c

pub below_end : (t : Tabled) (k : ℕ) → Bounds t → IsOf t k → k < t.level + generators t
below_end t k b o = omega (arith, b.end, o.high)

steps_alike : (t : Tabled) (j : ℕ) (c : ℤ) → IsTabled t → IsOf t j → IsUnit c → FitsSteps t j c
    → StepAt t j c → StepsAlike t j c
steps_alike t j c h o u n e =
    let b = bounds_of t h in
    let made : (m : ℕ) → IsOf t m → ¬ StepOverflows t j c m =
    λ m q. n.step m q.low (below_end t m b q) in
    let s = steps_made t j c h u made in
    let fits : (k : ℕ) → IsOf t k → ¬ StepSidesOverflow t j c k =
    λ k q w. elim w [
      | inl l ↦ n.left k q.low (below_end t k b q) l
      | inr r ↦ n.right k q.low (below_end t k b q) r
    ] in
    record {
      makes = made;
      fits = fits;
      same = λ k q. unique_form (left_step t j c k) (right_step t j c k)
          ((substituted-left t j c k h s q (fits k q)).form)
          ((substituted-right t j c k h s q (fits k q)).form)
          (λ a.
          let x = entries_of t a in
          let y = entries_of t (λ i. a (y_of i)) in
          let g = agree_entries t a b in
          value-left_step t j c k a x y h o s q (fits k q) g
          ∙ ap (λ (v : List ℤ). entry v k)
          (e x y (vector-entries_of t a b) (vector-entries_of t (λ i. a (y_of i)) b))
          ∙ sym (value-right_step t j c k a x y h o s q (fits k q) g));
    }

-- ---- events
signed_follow : (rels : Relations) (t : Tabled) (id : ℕ → Identity) → Bounds t
    → ((k : ℕ) → IsOf t k → ¬ MakingOverflows t (id k))
    → ((k : ℕ) → IsOf t k → ¬ SidesOverflow t (id k))
    → ((k : ℕ) → IsOf t k → left_of t (id k) ≡ right_of rels t (id k))
    → NoneStops rels t (at_each (xs t) (λ k. makes (id k)) ++ at_each (xs t) (λ k. tries (id k)))
signed_follow rels t id b made fits same =
    All-append (λ (e : Event). ¬ Stops rels t e) (at_each (xs t) (λ k. makes (id k)))
    (at_each (xs t) (λ k. tries (id k)))
    (of_each t (λ e. ¬ Stops rels t e) (λ k. makes (id k)) b
    (λ k o w. elim w [ inl m ↦ made k o m | inr f ↦ f ]))
    (of_each t (λ e. ¬ Stops rels t e) (λ k. tries (id k)) b
    (λ k o w. elim w [ inl s ↦ fits k o s | inr f ↦ f (same k o) ]))

ups_follow : (rels : Relations) (t : Tabled) (j : ℕ) → Bounds t → StepsAlike t j (pos 1)
    → NoneStops rels t (signed_events StepUp (xs t) j)
unfolding MakingOverflows SidesOverflow left_of right_of
ups_follow rels t j b s = signed_follow rels t (StepUp j) b s.makes s.fits s.same

downs_follow : (rels : Relations) (t : Tabled) (j : ℕ) → Bounds t → StepsAlike t j (negsuc 0)
    → NoneStops rels t (signed_events StepDown (xs t) j)
unfolding MakingOverflows SidesOverflow left_of right_of
downs_follow rels t j b s = signed_follow rels t (StepDown j) b s.makes s.fits s.same

-- ---- sizes
abbrev pub FitsAll : ℕ → List (List Term) → Type 0
FitsAll level ps = (vs : List ℕ) (v : ℕ) (c : ℤ) → unsigned_abs c ≤ 1
    → NoneOverflows level (length ps) (poly_from level ps) vs v c

pub fits_all : (t : Tabled) (level : ℕ) (ps : List (List Term)) → level ≡ t.level → ps ≡ t.polys
    → FitsAll level ps → FitsAll t.level t.polys
fits_all t level ps e f h =
    subst (λ (l : ℕ). FitsAll l t.polys) e (subst (FitsAll level) f h)

steps_of_table : (rels : Relations) (t : Tabled) (j : ℕ) → last_of t ≡ rels.count
    → IsTable rels t.level (values t) → IsOf t j → StepAt t j (pos 1) × StepAt t j (negsuc 0)
steps_of_table rels t j e m o =
    let both : (StepIn t (last_of t) j (pos 1)) × (StepIn t (last_of t) j (negsuc 0)) =
    subst (λ (n : ℕ). (StepIn t n j (pos 1)) × (StepIn t n j (negsuc 0))) (sym e) (
      λ x y hx hy. m.multiplies.step (up j) x y (o.low, omega (arith, o.high, e)) hx hy,
      λ x y hx hy. m.multiplies.step (down j) x y (o.low, omega (arith, o.high, e)) hx hy,
    ) in
    both

pub steps_follow : (rels : Relations) (t : Tabled) → IsTabled t → last_of t ≡ rels.count
    → FitsAll t.level t.polys → IsTable rels t.level (values t) → NoneStops rels t (all_step_events t)
steps_follow rels t h e n m =
    let b = bounds_of t h in
    of_flat t (λ d. ¬ Stops rels t d) (step_events (xs t)) b
    (λ j o.
    let s = steps_of_table rels t j e m o in
    All-append (λ (d : Event). ¬ Stops rels t d) (signed_events StepUp (xs t) j)
    (signed_events StepDown (xs t) j)
    (ups_follow rels t j b (steps_alike t j (pos 1) h o unit_up
    (n (other_ys t j) (y_of j) (pos 1) unit_up.small) s.0))
    (downs_follow rels t j b (steps_alike t j (negsuc 0) h o unit_down
    (n (other_ys t j) (y_of j) (negsuc 0) unit_down.small) s.1)))
