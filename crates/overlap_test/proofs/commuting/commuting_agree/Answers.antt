use Rattle.overlap_test.proofs.CommutingWays.{both_agree}
use Rattle.overlap_test.proofs.commuting.commuting_agree.Goals as goal

pub returns : goal.returns
returns g = λ c i lawful tabled checked least level j k low between high commute.
    both_agree c i j k record {
      lawful = lawful;
      presents = g.relations.ensures.presentation c.pres lawful;
      tabled = tabled;
      checked = checked;
      least = least;
      level = level;
      low = low;
      between = between;
      high = high;
      commute = commute;
    }
