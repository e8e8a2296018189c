use Rattle.std.proofs.Common.{◌+◌, ◌++◌, ap, sym, ◌∙◌, arith, append_assoc, drop}
use Rattle.line_tokens.specs.Tokens.{tokens_from}
use Rattle.line_tokens.proofs.Cuts.{cut_token}
use Rattle.line_tokens.proofs.cutting.cut.Goals as goal

pub cutting-preserved : goal.cutting-preserved
cutting-preserved g c = (
  ap (λ x. x ++ tokens_from (g.V.Vocabulary.word c.args.vocabulary.now) 0 ((c.cutting.at + (c.token_of-kind.result.1 + 1)) + 1) (drop (c.cutting.at + (c.token_of-kind.result.1 + 1)) c.args.line.now)) c.in_ok-push.ensures.items
      ∙ append_assoc c.cutting.found.items _ _
      ∙ ap (λ x. c.cutting.found.items ++ x) (sym (cut_token (g.V.Vocabulary.word c.args.vocabulary.now) c.cutting.at c.args.line.now _ c.split_at.ensures.back c.cutting-test.true (sym c.blank.ensures ∙ c.if-blank.false)
      c.token_of-kind.result.0 c.token_of-kind.result.1 c.token_of-kind.ensures.token c.token_of-kind.ensures.width))
      ∙ c.cutting.invariant.0,
  omega (arith, c.token_of-kind.ensures.within, c.split_at.ensures.back_len),
)
