use Rattle.query_session.specs.Statuses.{ended, stopped}
use Rattle.query_session.proofs.refusing.refuse.Goals as goal

pub returns-in-Memory-clause-ended : goal.returns-in-Memory-clause-ended
returns-in-Memory-clause-ended g c = λ no. absurd (no c.in-Memory.is)

pub returns-in-Ok-clause-ended : goal.returns-in-Ok-clause-ended
returns-in-Ok-clause-ended g c = λ no. ended c.in-Ok.ensures.ok

pub returns-in-Err-clause-ended : goal.returns-in-Err-clause-ended
returns-in-Err-clause-ended g c =
    λ no. rw c.status_of.ensures.status (stopped c.in-Err.stop c.in-Err.ensures.err)
