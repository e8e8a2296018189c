-- Which event of a walk stops first, and how.
--   parts_of point             the parts of the monomial whose exponents are a point's values
--   point_of parts             the point whose values are the exponents of these parts
--   identity_of e              the identity that an event names
--   FailsFirst rels t es f     of the events es the first that stops compares two different sides:
--                              the failure f has the least monomial at which they differ
--   OverflowsFirst rels t es id     it names id, and one of its written operations overflows
-- rels a presentation · t table · es events · f failure · id identity
use Rattle.std.specs.Prelude.{◌≡◌, List, map}
use Rattle.nil_word.specs.Congruence.{Relations}
use Rattle.binom_poly.specs.declared.part.Part.{Part}
use Rattle.binom_poly.specs.Difference.{IsFirstDifference}
use Rattle.hall_table.specs.Tabled.{Tabled}
use Rattle.identity_check.specs.declared.identity.Identity.{Identity}
use Rattle.identity_check.specs.declared.failure.At.{At}
use Rattle.identity_check.specs.declared.failure.Failure.{Failure}
use Rattle.identity_check.specs.Sides.{left_of, right_of}
use Rattle.identity_check.specs.Overflowing.{SidesOverflow}
use Rattle.identity_check.specs.Events.{Event, Overflows, Stops, IsFirst}
use Rattle.identity_check.specs.Events.Event.{makes, tries}

abbrev pub parts_of : List At → List Part
parts_of point = map (λ at. record { var = at.var; exp = at.value }) point

abbrev pub point_of : List Part → List At
point_of parts = map (λ part. record { var = part.var; value = part.exp }) parts

abbrev pub identity_of : Event → Identity
identity_of (makes id) = id
identity_of (tries id) = id

pub record FailsFirst (rels : Relations) (t : Tabled) (es : List Event) (f : Failure) : Type 0 where
  pub first : IsFirst (Stops rels t) es (tries f.identity)
  pub fits : ¬ SidesOverflow t f.identity
  pub differs : IsFirstDifference (left_of t f.identity) (right_of rels t f.identity)
      (parts_of f.point.items) f.left f.right

pub record OverflowsFirst (rels : Relations) (t : Tabled) (es : List Event) (id : Identity)
    : Type 0 where
  pub event : Event
  pub names : identity_of event ≡ id
  pub first : IsFirst (Stops rels t) es event
  pub overflows : Overflows t event
