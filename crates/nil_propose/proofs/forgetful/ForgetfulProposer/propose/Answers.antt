use Rattle.std.proofs.Common.{ap, ◌∙◌}
use Rattle.nil_propose.specs.Listing.{first_offer}
use Rattle.nil_propose.proofs.forgetful.ForgetfulProposer.propose.Goals as goal

pub returns-clause-same : goal.returns-clause-same
returns-clause-same c = λ p l.
    c.propose.ensures.same p l ∙ ap (λ s. first_offer s.inner.offers l) c.self.view_is
