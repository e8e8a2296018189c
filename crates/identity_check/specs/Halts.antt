-- What the calls say that walk over a stretch of the events.
--   IsHalt rels t es h      h is how the first of the events es that stops does; want of memory
--                           says nothing
--   WalksIn rels t es r     r is Ok where none of them stops, and else such a halt
--   Walks t es r            so it is for every presentation: no event is about its relations
--   IsDifference id p q h   h is how p and q differ, as the sides of an identity
--   Compares id p q r       r is Ok where p and q are equal, and else how they differ
--   IsWideFor id O h        h names id as wide, where O holds; want of memory says nothing
--   Makes id O p r          r is p where O doesn't hold, and else names id as wide
--   HandsOn id r s          s is r, where a fault that is wide names id
-- rels a presentation · t table · es events · h halt · r result · id identity · p q polynomials
-- O that an operation overflows
use Rattle.std.specs.Prelude.{◌≡◌, List, All, Result, Ok, Err, MatchResult}
use Rattle.nil_word.specs.Congruence.{Relations}
use Rattle.binom_poly.specs.declared.term.Term.{Term}
use Rattle.binom_poly.specs.declared.fault.PolyFault.{PolyFault}
use Rattle.binom_poly.specs.declared.fault.PolyFault.TheVariants as fault
use Rattle.binom_poly.specs.Difference.{IsFirstDifference}
use Rattle.hall_table.specs.Tabled.{Tabled}
use Rattle.identity_check.specs.declared.identity.Identity.{Identity}
use Rattle.identity_check.specs.declared.halt.Halt.{Halt}
use Rattle.identity_check.specs.declared.halt.Halt.TheVariants.{Failed, Wide, Memory}
use Rattle.identity_check.specs.Events.{Event, Stops}
use Rattle.identity_check.specs.Failures.{parts_of, FailsFirst, OverflowsFirst}

abbrev pub IsHalt : Relations → Tabled → List Event → Halt → Type 0
IsHalt rels t es (Failed f) = FailsFirst rels t es f
IsHalt rels t es (Wide id) = OverflowsFirst rels t es id
IsHalt rels t es Memory = Unit {0}

abbrev pub WalksIn : {A : Type 0} → Relations → Tabled → List Event → Result A Halt → Type 0
WalksIn rels t es r = MatchResult r (λ _. All (λ e. ¬ Stops rels t e) es) (IsHalt rels t es)

abbrev pub Walks : {A : Type 0} → Tabled → List Event → Result A Halt → Type 0
Walks t es r = (rels : Relations) → WalksIn rels t es r

abbrev pub IsDifference : Identity → List Term → List Term → Halt → Type 0
IsDifference id p q (Failed f) =
    (f.identity ≡ id) × IsFirstDifference p q (parts_of f.point.items) f.left f.right
IsDifference id p q (Wide _) = ⊥
IsDifference id p q Memory = Unit {0}

abbrev pub Compares : Identity → List Term → List Term → Result (Unit {0}) Halt → Type 0
Compares id p q r = MatchResult r (λ _. p ≡ q) (IsDifference id p q)

abbrev pub IsWideFor : Identity → Type 0 → Halt → Type 0
IsWideFor id O (Failed f) = ⊥
IsWideFor id O (Wide i) = (i ≡ id) × O
IsWideFor id O Memory = Unit {0}

abbrev pub Makes : Identity → Type 0 → List Term → Result (List Term) Halt → Type 0
Makes id O p r = MatchResult r (λ q. (q ≡ p) × ¬ O) (IsWideFor id O)

abbrev pub HandsOn : Identity → Result (List Term) PolyFault → Result (List Term) Halt → Type 0
HandsOn id r s = MatchResult s (λ q. r ≡ Ok q) (IsWideFor id (r ≡ Err fault.Wide))
