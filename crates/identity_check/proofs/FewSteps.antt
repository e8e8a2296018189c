-- Terms that cross, few of the step identities and the relations make a multiplication table; and in
-- a table whose sizes fit none of the identities stops.
--   rels a presentation · t table · j < l and k m generators, ms a list of them
use Rattle.std.proofs.Common.{◌≡◌, ℕ, suc, ◌-◌, ◌<◌, ◌≤◌, List, ◌++◌, length, Contains, subst, arith, inl, inr}
use Rattle.std.proofs.lemmas.List.Elements.{All-append, All-contains}
use lib.IntN.{pos}
use Rattle.nil_word.specs.Congruence.{Relations, IsAbove}
use Rattle.nil_pres.specs.Presented.{Presented}
use Rattle.nil_pres.specs.Relations.{relations_of}
use Rattle.hall_law.specs.Table.{added, single, exponents, IsPresentation, IsTable}
use Rattle.hall_law.specs.Nucleus.{IsCandidate, DoesStep, KeepsRelations}
use Rattle.hall_law.proofs.Passing.{added_steps}
use Rattle.hall_law.proofs.Drawing.{drawn_steps, steps_to_table}
use Rattle.hall_table.specs.Tabled.{Tabled, IsTabled, last_of}
use Rattle.hall_table.specs.Values.{values}
use Rattle.identity_check.specs.declared.identity.Identity.TheVariants.{StepUp, Relation}
use Rattle.identity_check.specs.Sides.{xs}
use Rattle.identity_check.specs.Events.{Event, at_each, relation_events, Stops, HaveEqualSides}
use Rattle.identity_check.specs.Events.Event.{makes, tries}
use Rattle.identity_check.specs.Crossing.{AllCross}
use Rattle.identity_check.specs.Drawing.{AreEnough}
use Rattle.identity_check.specs.Few.{NoneStops, right_events, left_events, all_last_events, all_step_events, all_relation_events, Steps, AllStep}
use Rattle.identity_check.proofs.Agreeing.{IsOf}
use Rattle.identity_check.proofs.Accepted.{step_up, pair_multiplies}
use Rattle.identity_check.proofs.AddedOn.{adds_on}
use Rattle.identity_check.proofs.StepsFollow.{FitsAll, steps_follow}
use Rattle.identity_check.proofs.LastFollow.{rights_follow, lefts_follow, lasts_follow}
use Rattle.identity_check.proofs.Uncrossed.{crossing_candidate}
use Rattle.identity_check.proofs.Walked.{all_left, all_right, all_flat, each_of, flat_of}

-- ---- few identities make a table
pair_holds : (rels : Relations) (t : Tabled) (j l k : ℕ)
    → NoneStops rels t (all_relation_events t) → IsOf t j → j < l → l ≤ last_of t → IsOf t k
    → ¬ Stops rels t (tries (Relation j l k))
pair_holds rels t j l k none o below high q =
    let P : Event → Type 0 = λ e. ¬ Stops rels t e in
    each_of t P (λ m. tries (Relation j l m)) k
    (all_flat P (λ i. at_each (xs t) (λ m. tries (Relation j i m))) (suc j)
    (suc (last_of t) - suc j) l
    (flat_of t P (relation_events (xs t) (last_of t)) j none o) below (omega arith)) q

pairs_multiply : (rels : Relations) (t : Tabled) → IsAbove rels → IsTabled t
    → last_of t ≡ rels.count → NoneStops rels t (all_relation_events t)
    → KeepsRelations rels t.level (values t)
pairs_multiply rels t a h e none =
    let f = values t in
    subst (λ (n : ℕ). (j l : ℕ) → t.level ≤ j → j < l → l ≤ rels.count
    → f (single n l (pos 1)) (single n j (pos 1))
    ≡ added (added (exponents rels.count (rels.right j l)) l (pos 1)) j (pos 1)) e
    (λ j l low below high.
    pair_multiplies rels t j l a h e
    (λ k q. pair_holds rels t j l k none record { low = low; high = omega arith } below (omega arith) q)
    low below high)

few_make_table : (rels : Relations) (t : Tabled) (ms : List ℕ) → IsTabled t
    → last_of t ≡ rels.count → AllCross t → KeepsRelations rels t.level (values t)
    → ((m : ℕ) → IsOf t m → Contains ms m → DoesStep (last_of t) t.level (values t) m)
    → AreEnough rels t.level ms → IsTable rels t.level (values t)
few_make_table rels t ms h e crossing keeps steps enough =
    let f = values t in
    let c : IsCandidate rels.count t.level f =
    subst (λ (n : ℕ). IsCandidate n t.level f) e (crossing_candidate t h crossing) in
    let given : (m : ℕ) → t.level ≤ m → m ≤ rels.count → Contains ms m
    → DoesStep rels.count t.level f m =
    subst (λ (n : ℕ). (m : ℕ) → t.level ≤ m → m ≤ n → Contains ms m → DoesStep n t.level f m) e
    (λ m low high i. steps m record { low = low; high = high } i) in
    steps_to_table rels t.level f c keeps
    (λ m low high. drawn_steps rels t.level f c keeps (Contains ms) given m (enough m low high) low high)

does_step : (rels : Relations) (t : Tabled) (j : ℕ) → IsTabled t
    → IsCandidate (last_of t) t.level (values t) → IsOf t j → Steps rels t j
    → DoesStep (last_of t) t.level (values t) j
does_step rels t j h c o (inl added) = added_steps c j (adds_on t j h o added)
does_step rels t j h c o (inr none) =
    let P : Event → Type 0 = λ e. ¬ Stops rels t e in
    let made = at_each (xs t) (λ m. makes (StepUp j m)) in
    let tried = at_each (xs t) (λ m. tries (StepUp j m)) in
    step_up rels t j h o
    (λ k q. each_of t P (λ m. makes (StepUp j m)) k (all_left P made tried none) q)
    (λ k q. each_of t P (λ m. tries (StepUp j m)) k (all_right P made tried none) q)

-- ---- in a table none of the identities stops
none_stops : (rels : Relations) (t : Tabled) → IsTabled t → last_of t ≡ rels.count
    → FitsAll t.level t.polys → IsTable rels t.level (values t)
    → NoneStops rels t (all_relation_events t) → HaveEqualSides rels t
none_stops rels t h e n m pairs =
    let P : Event → Type 0 = λ d. ¬ Stops rels t d in
    let rights = right_events t in
    let lefts = left_events t in
    let lasts = all_last_events t in
    let steps = all_step_events t in
    let relations = all_relation_events t in
    All-append P rights (lefts ++ (lasts ++ (steps ++ relations))) (rights_follow rels t h e m)
    (All-append P lefts (lasts ++ (steps ++ relations)) (lefts_follow rels t h e m)
    (All-append P lasts (steps ++ relations) (lasts_follow rels t h e n m)
    (All-append P steps relations (steps_follow rels t h e n m) pairs)))

-- ---- what was tried
pub record WereTried (pres : Presented) (t : Tabled) (ms : List ℕ) : Type 0 where
  pub fits : FitsAll t.level t.polys
  pub crossing : AllCross t
  pub enough : AreEnough (relations_of pres) t.level ms
  pub steps : AllStep (relations_of pres) t ms

pub few_follow : (pres : Presented) (t : Tabled) (ms : List ℕ) → IsPresentation (relations_of pres)
    → IsTabled t → last_of t ≡ length pres.names → WereTried pres t ms
    → NoneStops (relations_of pres) t (all_relation_events t) → HaveEqualSides (relations_of pres) t
few_follow pres t ms p h e w pairs =
    let rels = relations_of pres in
    none_stops rels t h e w.fits
    (few_make_table rels t ms h e w.crossing (pairs_multiply rels t p.above h e pairs)
    (λ m o i. does_step rels t m h (crossing_candidate t h w.crossing) o
    (All-contains (Steps rels t) ms m w.steps i)) w.enough) pairs
