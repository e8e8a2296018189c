use Rattle.std.proofs.Common.{rules, sym, subst, arith}
use Rattle.binom_poly.specs.Monomial.{IsMonomial}
use Rattle.binom_poly.specs.Polynomial.{IsTerm, IsPolynomial}
use Rattle.binom_poly.specs.Exponents.{greatest}
use Rattle.binom_poly.proofs.Sorting.{polynomial_terms}
use Rattle.binom_poly.proofs.Greatest.{raised_more, greatest-small}
use Rattle.binom_poly.proofs.exponents.raise_to_all.Goals as goal

pub loop-term-init : goal.loop-term-init
unfolding greatest
loop-term-init c = record { places = c.requires; raised = λ v. omega arith }

pub raise_to-requires-clause-form : goal.raise_to-requires-clause-form
raise_to-requires-clause-form c =
    let form : IsPolynomial c.terms-term-items.result.now =
    subst IsPolynomial (sym c.terms-term-items.ensures.terms) c.terms-term-items.ensures.form in
    subst IsMonomial (sym c.parts.ensures)
    (subst IsTerm (sym c.term-item.is)
    (polynomial_terms c.terms-term-items.result.now form c.loop-term.term-index c.term-item.result c.loop-term-test.true)).monomial

pub loop-term-preserved : goal.loop-term-preserved
loop-term-preserved c = record {
  places = search rules;
  raised = λ v. raised_more v _ _ _ c.terms-term-items.result.now c.loop-term.term-index c.term-item.result c.parts.result.now c.loop-term-test.true c.term-item.is c.parts.ensures (c.loop-term.invariant.raised v) (c.raise_to.ensures v);
}

pub returns-clause-small : goal.returns-clause-small
returns-clause-small c = λ v. greatest-small v c.args.p.now c.terms-term-items.ensures.form
