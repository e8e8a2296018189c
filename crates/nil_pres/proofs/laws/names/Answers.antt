-- By the lemma of Finding.
use Rattle.nil_pres.proofs.Finding.{position-own}
use Rattle.nil_pres.proofs.laws.names.Goals as goal

pub returns : goal.returns
returns c = position-own
