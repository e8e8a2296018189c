use Rattle.std.proofs.Common.{◌≢◌, ◌∙◌, slice_index_or, sym, ap, subst, arith, inl, inr}
use Rattle.std.proofs.lemmas.Bool.Decides.{eqb_tells}
use Rattle.std.proofs.lemmas.List.{get_or_default}
use Rattle.identity_check.specs.Crossing.{Crosses}
use Rattle.identity_check.proofs.crossing.all_cross_in.Goals as goal

pub loop-term-preserved : goal.loop-term-preserved
loop-term-preserved c =
    let ts = c.args.terms.now in
    λ i d l. elim (eqb_tells i c.loop-term.term-index) [
      | inl same ↦
          subst (λ u. Crosses c.args.k u.monomial)
          (sym (ap (λ p. slice_index_or ts p d) same.1
          ∙ get_or_default ts c.loop-term.term-index d c.term-item.result c.loop-term-test.true
          ∙ sym c.term-item.is))
          (subst (λ ms. Crosses c.args.k ms) c.parts.ensures (c.crosses.ensures c.if-not-crosses.false))
      | inr other ↦
          let n : i ≢ c.loop-term.term-index = other.1 in c.loop-term.invariant i d (omega arith)
    ]

pub returns : goal.returns
returns c = λ true i d l. c.loop-term.invariant i d (omega arith)
