use Rattle.std.proofs.Common.{◌≡◌, ℕ, ◌+◌, ◌≤◌}
use Rattle.nil_pres.specs.Presented.{IsPresented}
use Rattle.nil_pres.specs.Relations.{relations_of}
use Rattle.hall_table.specs.Multiplies.{Paired, IsChecked}
use Rattle.hall_table.specs.Tabled.{IsTabled}
use Rattle.hall_table.specs.Values.{values}
use Rattle.overlap_test.proofs.Meaning.{Grounds, agreement, difference}
use Rattle.overlap_test.proofs.Verdicts.{is_verdict}
use Rattle.overlap_test.proofs.laws.verdicts.Goals as goal

pub returns : goal.returns
returns g =
    let grounds : (c : Paired) (i : ℕ) → IsPresented c.pres → IsTabled c.table → IsChecked c → 1 ≤ i
    → c.table.level ≡ i + 1 → Grounds c i = λ c i lawful tabled checked least level.
    record {
      presents = g.relations.ensures.presentation c.pres lawful;
      factored = g.relations.ensures.factored c.pres lawful;
      checked = checked;
      least = least;
      level = level;
      products = g.by_values.ensures.products c lawful tabled checked;
      powers = g.by_values.ensures.powers c lawful tabled checked;
    } in
    record {
      one = λ c i lawful tabled checked least level. is_verdict c i;
      agree = λ c i lawful tabled checked least level.
          agreement c i (grounds c i lawful tabled checked least level);
      differ = λ c i lawful tabled checked least level.
          difference c i (grounds c i lawful tabled checked least level) g.overlaps.ensures.first
          g.overlaps.ensures.second
          (g.powers_exist.ensures.powers (relations_of c.pres) c.table.level (values c.table)
          (g.relations.ensures.presentation c.pres lawful) checked.multiplies);
    }
