use Rattle.query_session.specs.Statuses.{ended, stopped}
use Rattle.query_session.proofs.writing.write.Goals as goal

pub returns-in-Ok-clause-written : goal.returns-in-Ok-clause-written
returns-in-Ok-clause-written g c = ended c.in-Ok.ensures.ok

pub returns-in-Err-clause-written : goal.returns-in-Err-clause-written
returns-in-Err-clause-written g c =
    rw c.status_of.ensures.status (stopped c.in-Err.stop c.in-Err.ensures.err)
