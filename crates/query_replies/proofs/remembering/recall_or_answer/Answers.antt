use Rattle.std.proofs.Common.{◌≡◌, [], ◌∷◌, ◌++◌, sym, ◌∙◌}
use Rattle.std.proofs.lemmas.Result.{IfOk-weaker}
use Rattle.query_replies.specs.Replies.{reply}
use Rattle.query_replies.specs.Memoized.{AsksOneOf, IsComputed}
use Rattle.query_replies.specs.MoreLines.{AreOf-more}
use Rattle.query_replies.proofs.Keeping.{reply-asked, kept_for-asked, AllKept-found, AllKept-kept, AsksOneOf-last}
use Rattle.query_replies.proofs.remembering.recall_or_answer.Goals as goal

pub returns-in-Some-clause-computed : goal.returns-in-Some-clause-computed
returns-in-Some-clause-computed c =
    AllKept-found (IsComputed c.args.calculator.now) c.args.asked.now c.args.answers.now
    c.find.new.self c.find.ensures.pairs c.requires.computed

pub returns-in-Some-clause-text : goal.returns-in-Some-clause-text
returns-in-Some-clause-text c =
    let found = rw c.in-Some.is at c.reply.ensures in
    let given = kept_for-asked c.args.calculator.now c.args.line.now c.args.asked.now
    c.in-Some.reply.now c.find.new.self c.requires.asks (returns-in-Some-clause-computed c)
    (sym found) in
    IfOk-weaker c.from_str.result _ _ (λ text h. h ∙ given) c.from_str.ensures.ok

pub returns-in-Some-clause-recalls : goal.returns-in-Some-clause-recalls
returns-in-Some-clause-recalls c = λ lines whole e are.
    AreOf-more lines (whole ∷ []) c.find.new.self
    (AllKept-found (λ asked t. AsksOneOf lines asked) c.args.asked.now c.args.answers.now
    c.find.new.self c.find.ensures.pairs are)

pub returns-in_err-reply-clause-computed : goal.returns-in_err-reply-clause-computed
returns-in_err-reply-clause-computed c =
    AllKept-found (IsComputed c.args.calculator.now) c.args.asked.now c.args.answers.now
    c.find.new.self c.find.ensures.pairs c.requires.computed

pub returns-in_err-reply-clause-recalls : goal.returns-in_err-reply-clause-recalls
returns-in_err-reply-clause-recalls c = λ lines whole e are.
    AreOf-more lines (whole ∷ []) c.find.new.self
    (AllKept-found (λ asked t. AsksOneOf lines asked) c.args.asked.now c.args.answers.now
    c.find.new.self c.find.ensures.pairs are)

pub returns-clause-computed : goal.returns-clause-computed
returns-clause-computed c =
    let given : c.deref.result.now ≡ reply c.args.calculator.now c.args.line.now =
    c.deref.ensures ∙ c.in_ok-reply.ensures.text in
    AllKept-kept (IsComputed c.args.calculator.now) c.args.asked.now c.deref.result.now
    c.find.new.self c.keep-kept.new.answers c.keep-kept.ensures
    (given ∙ reply-asked c.args.calculator.now c.args.line.now c.args.asked.now c.requires.asks)
    (AllKept-found (IsComputed c.args.calculator.now) c.args.asked.now c.args.answers.now
    c.find.new.self c.find.ensures.pairs c.requires.computed)

pub returns-clause-recalls : goal.returns-clause-recalls
returns-clause-recalls c = λ lines whole e are.
    AllKept-kept (λ asked t. AsksOneOf (lines ++ whole ∷ []) asked) c.args.asked.now
    c.deref.result.now c.find.new.self c.keep-kept.new.answers c.keep-kept.ensures
    (AsksOneOf-last lines c.args.line.now whole c.args.asked.now e c.requires.asks)
    (AreOf-more lines (whole ∷ []) c.find.new.self
    (AllKept-found (λ asked t. AsksOneOf lines asked) c.args.asked.now c.args.answers.now
    c.find.new.self c.find.ensures.pairs are))
