use Rattle.nil_pres.specs.Relations.{relations_of}
use Rattle.query_replies.proofs.EqualReplies.{equal-replies}
use Rattle.query_replies.proofs.laws.equal_replies.Goals as goal

pub returns : goal.returns
returns c = λ d line line' text text' e f q n r q' n' r'.
    equal-replies d (c.readings.ensures.reads d.pres.names) (c.readings.ensures.fails d.pres.names)
    (c.congruence.ensures.symmetric (relations_of d.pres) 1)
    (c.congruence.ensures.transitive (relations_of d.pres) 1)
    line line' text text' e f q n r q' n' r'
