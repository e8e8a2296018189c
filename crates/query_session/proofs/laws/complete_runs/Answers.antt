use Rattle.query_session.proofs.Completed.{ends-smoothly}
use Rattle.query_session.proofs.laws.complete_runs.Goals as goal

pub returns : goal.returns
returns c = λ os limit a f p status old new run smooth other.
    ends-smoothly c.files.ensures.one c.files.ensures.none c.texts.ensures.one c.texts.ensures.none
    os limit a f p status old new run smooth other
