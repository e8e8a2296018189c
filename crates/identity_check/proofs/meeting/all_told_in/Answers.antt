use Rattle.std.proofs.Common.{◌≢◌, ◌∙◌, length, slice_index_or, sym, ap, subst, arith, inl, inr}
use Rattle.std.proofs.lemmas.Bool.Decides.{eqb_tells}
use Rattle.std.proofs.lemmas.List.{get_or_default}
use Rattle.nil_pres.specs.Relations.{relations_of}
use Rattle.binom_poly.specs.Monomial.{IsMonomial}
use Rattle.identity_check.specs.Meeting.{IsTold}
use Rattle.identity_check.proofs.Agreeing.{all_terms}
use Rattle.identity_check.proofs.meeting.all_told_in.Goals as goal

pub is_told-requires-clause-form : goal.is_told-requires-clause-form
is_told-requires-clause-form c =
    subst IsMonomial (ap (λ u. u.monomial) (sym c.term-item.is) ∙ sym c.parts.ensures)
    ((all_terms c.args.terms.now c.requires.form c.loop-term.term-index
    c.term-item.result c.loop-term-test.true).monomial)

pub loop-term-preserved : goal.loop-term-preserved
loop-term-preserved c =
    let ts = c.args.terms.now in
    let pres = c.args.pres.now in
    λ i d l. elim (eqb_tells i c.loop-term.term-index) [
      | inl same ↦
          subst (λ u. IsTold (relations_of pres) (length pres.names) c.args.k u.monomial)
          (sym (ap (λ p. slice_index_or ts p d) same.1
          ∙ get_or_default ts c.loop-term.term-index d c.term-item.result c.loop-term-test.true
          ∙ sym c.term-item.is))
          (subst (λ ms. IsTold (relations_of pres) (length pres.names) c.args.k ms) c.parts.ensures
          (c.is_told.ensures c.if-not-is_told.false))
      | inr other ↦
          let n : i ≢ c.loop-term.term-index = other.1 in c.loop-term.invariant i d (omega arith)
    ]

pub returns : goal.returns
returns c = λ true i d l. c.loop-term.invariant i d (omega arith)
