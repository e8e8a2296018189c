use Rattle.collect_text.proofs.RightReplies.{IsCollected-reply}
use Rattle.collect_text.proofs.laws.collected_replies.Goals as goal

pub returns : goal.returns
returns c = λ p line lawful.
    IsCollected-reply p lawful (c.readings.ensures.reads p.names) (c.readings.ensures.fails p.names)
    (c.readings.ensures.shaped p.names) line
