-- What few of the step identities show of a table.
--   NoneStops rels t es      none of the events stops
--   right_events t           the events of a right unit
--   left_events t            those of a left unit
--   all_last_events t        those of the generators that come last, and of their inverses
--   all_step_events t        those of the generators that are multiplied on, and of their inverses
--   all_relation_events t    those of the relations
--   Steps rels t j           j is added on, or none of the events stops in which it is multiplied on
--   AllStep rels t ms        each of the generators ms does
-- rels a presentation · t table · es events · j generator, ms a list of them
use Rattle.std.specs.Prelude.{◌⊎◌, ℕ, List, All}
use Rattle.std.specs.List.{flat_map}
use Rattle.nil_word.specs.Congruence.{Relations}
use Rattle.hall_table.specs.Tabled.{Tabled, last_of}
use Rattle.identity_check.specs.declared.identity.Identity.TheVariants.{UnitRight, UnitLeft, StepUp}
use Rattle.identity_check.specs.Sides.{xs}
use Rattle.identity_check.specs.Events.{Event, at_each, last_events, signed_events, step_events, relation_events, Stops}
use Rattle.identity_check.specs.Events.Event.{tries}
use Rattle.identity_check.specs.Adding.{IsAddedOn}

abbrev pub NoneStops : Relations → Tabled → List Event → Type 0
NoneStops rels t es = All (λ e. ¬ Stops rels t e) es

abbrev pub right_events : Tabled → List Event
right_events t = at_each (xs t) (λ k. tries (UnitRight k))

abbrev pub left_events : Tabled → List Event
left_events t = at_each (xs t) (λ k. tries (UnitLeft k))

abbrev pub all_last_events : Tabled → List Event
all_last_events t = flat_map (last_events (xs t)) (xs t)

abbrev pub all_step_events : Tabled → List Event
all_step_events t = flat_map (step_events (xs t)) (xs t)

abbrev pub all_relation_events : Tabled → List Event
all_relation_events t = flat_map (relation_events (xs t) (last_of t)) (xs t)

abbrev pub Steps : Relations → Tabled → ℕ → Type 0
Steps rels t j = IsAddedOn t j ⊎ NoneStops rels t (signed_events StepUp (xs t) j)

abbrev pub AllStep : Relations → Tabled → List ℕ → Type 0
AllStep rels t ms = All (Steps rels t) ms
