use Rattle.group_eval.proofs.Appended.{appended_is}
use Rattle.group_eval.proofs.laws.last_syllables.Goals as goal

pub returns : goal.returns
returns c = λ d lawful tabled checked.
    appended_is d tabled (c.relations.ensures.presentation d.pres lawful) checked
