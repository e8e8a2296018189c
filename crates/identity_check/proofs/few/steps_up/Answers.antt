use Rattle.std.proofs.Common.{◌≢◌, ◌∙◌, slice_index_or, sym, ap, subst, arith, inl, inr}
use Rattle.std.proofs.lemmas.Bool.Decides.{eqb_tells}
use Rattle.std.proofs.lemmas.List.{get_or_default}
use Rattle.identity_check.specs.Few.{Steps}
use Rattle.identity_check.proofs.few.steps_up.Goals as goal

pub loop-j-preserved : goal.loop-j-preserved
loop-j-preserved c =
    let t = c.args.table.now in
    let ms = c.args.walked.now in
    record {
      kept = c.in_ok-step_up.ensures.kept ∙ c.loop-j.invariant.kept;
      walked = λ rels i d l. elim (eqb_tells i c.loop-j.j-index) [
        | inl same ↦
            subst (λ m. Steps rels t m)
            (sym (ap (λ p. slice_index_or ms p d) same.1
            ∙ get_or_default ms c.loop-j.j-index d 0 c.loop-j-test.true))
            (c.in_ok-step_up.ensures.steps rels)
        | inr other ↦
            let n : i ≢ c.loop-j.j-index = other.1 in c.loop-j.invariant.walked rels i d (omega arith)
      ];
    }

pub returns : goal.returns
returns c = λ rels i d l. c.loop-j.invariant.walked rels i d (omega arith)
