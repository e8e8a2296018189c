use Rattle.std.proofs.Common.{◌≡◌, [], ◌∷◌, subst}
use Rattle.query_replies.specs.Memoized.{AreOf}
use Rattle.query_replies.specs.MoreLines.{AreOf-more}
use Rattle.query_replies.proofs.EndsAtLine.{EndsAtLine-text}
use Rattle.query_replies.proofs.memoized.MemoizedCalculatorReplier.reply_to.Goals as goal

pub returns-in-Some-clause-at_line : goal.returns-in-Some-clause-at_line
returns-in-Some-clause-at_line c =
    EndsAtLine-text c.recall_or_answer.result c.self.inside.calculator c.args.line.now
    c.recall_or_answer.ensures.text

pub returns-in-Some-clause-recalls : goal.returns-in-Some-clause-recalls
returns-in-Some-clause-recalls c = λ lines whole e are.
    let same : c.args.self.now.pairs ≡ c.self.inside.answers = cc in
    c.recall_or_answer.ensures.recalls lines whole e (subst (AreOf lines) same are)

pub returns-in-None-clause-at_line : goal.returns-in-None-clause-at_line
returns-in-None-clause-at_line c =
    EndsAtLine-text c.reply_to.result c.self.inside.calculator c.args.line.now
    c.reply_to.ensures.text

pub returns-in-None-clause-recalls : goal.returns-in-None-clause-recalls
returns-in-None-clause-recalls c = λ lines whole e are.
    let same : c.args.self.now.pairs ≡ c.self.inside.answers = cc in
    AreOf-more lines (whole ∷ []) c.self.inside.answers (subst (AreOf lines) same are)
