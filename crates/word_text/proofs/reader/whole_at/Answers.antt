use Rattle.word_text.proofs.Inside.{whole_at-inside}
use Rattle.word_text.proofs.reader.whole_at.Goals as goal

pub returns-then-not-is_empty : goal.returns-then-not-is_empty
returns-then-not-is_empty c = whole_at-inside c.args.frames.now c.args.now c.is_empty.result c.if-not-is_empty.true c.is_empty.ensures
