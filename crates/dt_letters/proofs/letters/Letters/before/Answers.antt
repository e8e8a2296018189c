-- How letters compare decides which is before.
use Rattle.std.proofs.Common.{◌∙◌, ap}
use Rattle.std.specs.Ordering.{is_lt}
use Rattle.dt_letters.specs.Arena.{letter_in}
use Rattle.dt_letters.proofs.Comparing.{before_compare}
use Rattle.dt_letters.proofs.Rules.{before_decided}
use Rattle.dt_letters.proofs.letters.Letters.before.Goals as goal

pub returns-clause-rule : goal.returns-clause-rule
returns-clause-rule c =
    let a = letter_in c.args.self.now c.args.a in
    let b = letter_in c.args.self.now c.args.b in
    before_decided a b c.is_lt.result
    (c.is_lt.ensures ∙ ap is_lt c.compare.ensures ∙ before_compare a b)
