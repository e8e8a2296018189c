use Rattle.query_replies.proofs.RightReplies.{IsReply-checked}
use Rattle.query_replies.proofs.laws.right_replies.Goals as goal

pub returns : goal.returns
returns c = λ d line presented tabled checked level.
    IsReply-checked c.replies.ensures d (c.readings.ensures.reads d.pres.names)
    (c.readings.ensures.fails d.pres.names) (c.readings.ensures.shaped d.pres.names) line presented
    tabled checked level
