-- The walk over the identities of a table, as a list of events in their written order.
--   Event               what stops a walk, if anything does: one of the next two
--   makes id            the polynomial f_k of a step, with y_j replaced by 1 or -1, is made
--   tries id            the two sides of an identity are made, and compared
--   at_each ks e        e k for each k of ks
--   last_events ks j    generator j comes last, and then its inverse does
--   signed_events id ks j   what is made for the identities id j k, and then each of them
--   step_events ks j    generator j is multiplied on, and then its inverse is
--   relation_events ks n j     the relations of j and each later generator up to n
--   events level n      all events of a table from the level to n
--   Overflows t e       one of the event's written operations overflows
--   Fails rels t e      the event compares two different sides
--   Stops rels t e      one of the two
--   IsFirst P es e      e is the first of the events es with P
--   HaveEqualSides rels t      no event of a table stops: each identity holds, and none is wide
-- rels a presentation · t table · j < l and k generators, ks a list of them · e event · id identity
use Rattle.std.specs.Prelude.{◌≡◌, ◌≢◌, ℕ, suc, List, ◌∷◌, ◌++◌, map, All, ◌⊎◌}
use Rattle.std.specs.List.{flat_map}
use Rattle.nil_word.specs.Congruence.{Relations}
use Rattle.hall_table.specs.Tabled.{Tabled, last_of}
use Rattle.identity_check.specs.declared.identity.Identity.{Identity}
use Rattle.identity_check.specs.declared.identity.Identity.TheVariants.{UnitRight, UnitLeft, Up, Down, StepUp, StepDown, Relation}
use Rattle.identity_check.specs.Sides.{from_to, left_of, right_of}
use Rattle.identity_check.specs.Overflowing.{MakingOverflows, SidesOverflow}

pub data Event : Type 0 where
  makes : Identity → Event
  tries : Identity → Event

abbrev pub at_each : List ℕ → (ℕ → Event) → List Event
at_each ks e = map e ks

abbrev pub last_events : List ℕ → ℕ → List Event
last_events ks j = at_each ks (λ k. tries (Up j k)) ++ at_each ks (λ k. tries (Down j k))

abbrev pub signed_events : (ℕ → ℕ → Identity) → List ℕ → ℕ → List Event
signed_events id ks j = at_each ks (λ k. makes (id j k)) ++ at_each ks (λ k. tries (id j k))

abbrev pub step_events : List ℕ → ℕ → List Event
step_events ks j = signed_events StepUp ks j ++ signed_events StepDown ks j

abbrev pub relation_events : List ℕ → ℕ → ℕ → List Event
relation_events ks n j =
    flat_map (λ l. at_each ks (λ k. tries (Relation j l k))) (from_to (suc j) n)

abbrev pub events : ℕ → ℕ → List Event
events level n =
    let ks = from_to level n in
    at_each ks (λ k. tries (UnitRight k))
    ++ (at_each ks (λ k. tries (UnitLeft k))
    ++ (flat_map (last_events ks) ks
    ++ (flat_map (step_events ks) ks
    ++ flat_map (relation_events ks n) ks)))

abbrev pub Overflows : Tabled → Event → Type 0
Overflows t (makes id) = MakingOverflows t id
Overflows t (tries id) = SidesOverflow t id

abbrev pub Fails : Relations → Tabled → Event → Type 0
Fails rels t (makes id) = ⊥
Fails rels t (tries id) = left_of t id ≢ right_of rels t id

abbrev pub Stops : Relations → Tabled → Event → Type 0
Stops rels t e = Overflows t e ⊎ Fails rels t e

pub record IsFirst (P : Event → Type 0) (es : List Event) (e : Event) : Type 0 where
  pub before : List Event
  pub after : List Event
  pub listed : es ≡ before ++ e ∷ after
  pub holds : P e
  pub none_before : All (λ d. ¬ P d) before

abbrev pub HaveEqualSides : Relations → Tabled → Type 0
HaveEqualSides rels t = All (λ e. ¬ Stops rels t e) (events t.level (last_of t))
