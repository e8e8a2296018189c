use Rattle.nil_pres.specs.Relations.{relations_of}
use Rattle.identity_check.proofs.Accepted.{accepted}
use Rattle.identity_check.proofs.laws.accepted.Goals as goal

-- condition by condition
pub returns : goal.returns
returns c = λ pres t lawful h e s.
    accepted (relations_of pres) t ((c.relations.ensures.presentation pres lawful).above) h e s
