use Rattle.std.proofs.Common.{sym, subst, ◌∙◌}
use Rattle.binom_poly.specs.Sums.{Holds}
use Rattle.binom_poly.proofs.Accumulating.{held_fits, held_collected}
use Rattle.binom_poly.proofs.accumulator.Accumulator.into_poly.Goals as goal

pub returns-in_err-terms-clause-fits : goal.returns-in_err-terms-clause-fits
returns-in_err-terms-clause-fits c = λ cs h. held_fits c.args.self cs h

pub returns-clause-fits : goal.returns-clause-fits
returns-clause-fits c = λ cs h. held_fits c.args.self cs h

pub returns-clause-collected : goal.returns-clause-collected
returns-clause-collected c = λ cs h.
    c.of.ensures
    ∙ held_collected c.self.inside.sums cs c.in_ok-terms.terms.items (subst (λ es. Holds es cs) (sym c.self.view_is) h)
    c.in_ok-terms.ensures.form c.in_ok-terms.ensures.value
