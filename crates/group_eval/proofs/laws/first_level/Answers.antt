use Rattle.group_eval.proofs.Levels.{from_one}
use Rattle.group_eval.proofs.laws.first_level.Goals as goal

pub returns : goal.returns
returns c = λ n e h. from_one n e h
