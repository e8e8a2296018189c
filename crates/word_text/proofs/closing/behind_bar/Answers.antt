use Rattle.word_text.proofs.Inside.{next_part-inside}
use Rattle.word_text.specs.Machine.{after_bar}
use Rattle.word_text.proofs.closing.behind_bar.Goals as goal

pub returns-then-not-is_empty : goal.returns-then-not-is_empty
returns-then-not-is_empty c = next_part-inside c.args.frames.now (after_bar c.args.head.now c.args.expr) c.is_empty.result c.if-not-is_empty.true c.is_empty.ensures
