use Rattle.load_tally.proofs.RightTallies.{IsTally-checked}
use Rattle.load_tally.proofs.laws.right_tallies.Goals as goal

pub returns : goal.returns
returns c = λ d lines presented tabled checked level.
    IsTally-checked c.replies.ensures d (c.readings.ensures.reads d.pres.names)
    (c.readings.ensures.shaped d.pres.names) lines presented tabled checked level
