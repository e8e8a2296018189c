use Rattle.nil_pres.specs.Presented.{IsPresented}
use Rattle.nil_pres.specs.Relations.{relations_of}
use Rattle.hall_law.specs.Elements.{PowersAre}
use Rattle.hall_law.specs.Uniqueness.{Associates, SolvesOnce}
use Rattle.hall_table.specs.Multiplies.{Paired, IsChecked}
use Rattle.hall_table.specs.Tabled.{IsTabled}
use Rattle.hall_table.specs.Values.{values}
use Rattle.group_eval.proofs.ByValues.{Theory, multiplied_by, solved_by, inverted_by, divided_by, powered_by, commuted_by, conjugated_by}
use Rattle.group_eval.proofs.Elements.{law_at}
use Rattle.group_eval.proofs.laws.by_values.Goals as goal

pub returns : goal.returns
returns g =
    let theory : (c : Paired) → IsPresented c.pres → IsTabled c.table → IsChecked c → Theory c =
    λ c lawful tabled checked.
    let presents = g.relations.ensures.presentation c.pres lawful in
    record {
      tabled = tabled;
      checked = checked;
      presents = presents;
      shape = g.shaped.ensures c.table tabled;
      consistent = g.uniqueness.ensures.consistent (relations_of c.pres) c.table.level
          (values c.table) presents checked.multiplies;
      associates = law_at Associates g.uniqueness.ensures.associative c presents checked;
      once = law_at SolvesOnce g.uniqueness.ensures.solution c presents checked;
      powers = law_at PowersAre g.elements-2.ensures.powers c presents checked;
    } in
    record {
      products = λ c l t h. multiplied_by c (theory c l t h);
      solutions = λ c l t h. solved_by c (theory c l t h);
      inverses = λ c l t h. inverted_by c (theory c l t h);
      quotients = λ c l t h. divided_by c (theory c l t h);
      powers = λ c l t h. powered_by c (theory c l t h) (g.elements.ensures.powers c l t h);
      commutators = λ c l t h. commuted_by c (theory c l t h);
      conjugates = λ c l t h. conjugated_by c (theory c l t h);
    }
