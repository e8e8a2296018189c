use Rattle.integer.proofs.Binomial.{choose_none, absorb_one, pascal_one, choose_past, choose_ways}
use Rattle.integer.proofs.binomial_laws.binomials.Goals as goal

pub returns : goal.returns
returns c = record { first = choose_none; next = absorb_one; pascal = pascal_one; past = choose_past; natural = choose_ways }
