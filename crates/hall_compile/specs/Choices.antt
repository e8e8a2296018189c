-- How the table of a level is chosen, once its overlaps agree.
--   IsSummed c i t              the sum plan overflows nowhere, and t is the table that it makes: it
--                               is of the level, and its values are those of the sums, whatever
--                               makes the powers and images; so it multiplies in the presentation
--   IsChosen c i os by t list   the table is that of the first proposal that is accepted, or where
--                               none is, of the sum plan; the list tells of all that were asked and
--                               not taken
--   SumOverflows c i os at      no proposal is accepted, and the sum plan overflows first at this
--                               place
-- c a presentation with a table above level i · i level · t table · os proposals · by an origin
use Rattle.std.specs.Prelude.{◌≡◌, ℕ, ℤ, List, length}
use Rattle.nil_word.specs.Words.{IsVector}
use Rattle.nil_pres.specs.Relations.{relations_of, between}
use Rattle.hall_law.specs.Plan.{Powers, Images, AreImages, summed}
use Rattle.hall_law.specs.Table.{IsTable}
use Rattle.hall_table.specs.Agreement.{IsPowerOf}
use Rattle.hall_table.specs.Multiplies.{Paired}
use Rattle.hall_table.specs.Tabled.{Tabled, IsTabled}
use Rattle.hall_table.specs.Values.{values}
use Rattle.sum_compiler.specs.declared.sum_place.SumPlace.{SumPlace}
use Rattle.sum_compiler.specs.Calls.{NoneOverflows, IsFirstAt}
use Rattle.sum_compiler.specs.Plan.{plan}
use Rattle.hall_compile.specs.declared.asked.Asked.{Asked}
use Rattle.hall_compile.specs.declared.origin.Origin.{Origin}
use Rattle.hall_compile.specs.declared.origin.Origin.TheVariants.{Base, Proposer, Sum}
use Rattle.hall_compile.specs.Proposals.{Proposal, IsOf, AreAsked, IsTaken}

pub record IsSummed (c : Paired) (i : ℕ) (t : Tabled) : Type 0 where
  pub fits : NoneOverflows (plan c.table (between c.pres i) i)
  pub form : IsTabled t
  pub place : IsOf c.pres i t
  pub sums : (Q : Powers) → IsPowerOf c Q → (A : Images)
      → AreImages (relations_of c.pres) (between c.pres) i (values c.table) Q A
      → (x y : List ℤ) → IsVector (length c.pres.names) i x → IsVector (length c.pres.names) i y
      → values t x y ≡ summed (length c.pres.names) i (values c.table) Q A x y
  pub multiplies : IsTable (relations_of c.pres) i (values t)

abbrev pub IsChosen : Paired → ℕ → List Proposal → Origin → Tabled → List Asked → Type 0
IsChosen c i os Base t list = ⊥
IsChosen c i os (Proposer label) t list = IsTaken c.pres i os label t list
IsChosen c i os Sum t list = AreAsked c.pres i os list × IsSummed c i t

pub record SumOverflows (c : Paired) (i : ℕ) (os : List Proposal) (at : SumPlace) : Type 0 where
  pub list : List Asked
  pub asked : AreAsked c.pres i os list
  pub first : IsFirstAt (plan c.table (between c.pres i) i) at
