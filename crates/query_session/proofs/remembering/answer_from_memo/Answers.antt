use Rattle.std.proofs.Common.{◌≡◌, [], inr, Err, IsErrOf, refl, sym, ◌∙◌, ap, subst}
use Rattle.reply_memo.proofs.KeptPairs.{AllKept-nil}
use Rattle.session_io.specs.declared.stop.Stop.TheVariants as stop
use Rattle.session_io.specs.Answers.{by_reply}
use Rattle.session_io.proofs.ReadSoFar.{IsAnswered-untaken}
use Rattle.query_replies.specs.Memoized.{Memoized, AreOf, AsksOneOf}
use Rattle.query_replies.specs.Replies.{reply}
use Rattle.query_replies.proofs.Keeping.{IsRecalled-kept}
use Rattle.query_session.proofs.Filling.{IfOk-is, IsRecalled-nothing}
use Rattle.query_session.proofs.Sessions.{EndsAs-Ok}
use Rattle.query_session.proofs.remembering.answer_from_memo.Goals as goal

pub returns-in_default-clause-ended : goal.returns-in_default-clause-ended
returns-in_default-clause-ended g c =
    let q = c.args.queries.now in
    EndsAs-Ok reply c.args.opened c.in-Ok.calculator c.args.limit _ _ _ _ c.in-Ok.is (record {
      outcome = Err stop.Memory;
      is = refl;
      answered =
          IsAnswered-untaken (reply c.in-Ok.calculator) c.args.limit (g.S.Source.left q)
          (g.S.Source.faults q) (g.S.Source.given q) (g.K.Sink.written c.args.out.now);
    })

pub returns-in_default-clause-kept : goal.returns-in_default-clause-kept
returns-in_default-clause-kept g c =
    IfOk-is _ c.args.opened c.in-Ok.calculator c.in-Ok.is
    (IsRecalled-nothing (by_reply (reply c.in-Ok.calculator)) c.args.limit _ c.args.memo.now
    (record { left = refl; faults = refl; given = refl }) c.requires.empty)

pub returns-in-Ok-new-clause-cause : goal.returns-in-Ok-new-clause-cause
returns-in-Ok-new-clause-cause g c = λ w.
    inr (c.answer_source-outcome.ensures.cause
    (subst (λ r. IsErrOf r stop.Failed) (sym (c.status_of.ensures.cause w)) refl))

pub returns-in-Ok-new-clause-kept : goal.returns-in-Ok-new-clause-kept
returns-in-Ok-new-clause-kept g c =
    let after = c.answer_source-outcome.new.replier in
    let same : reply after.by ≡ reply c.in-Ok.calculator =
    c.answer_source-outcome.ensures.same ∙ ap (λ (m : Memoized). reply m.by) c.new-replier.ensures in
    let none : c.new-replier.result.pairs ≡ [] =
    ap (λ (m : Memoized). m.pairs) c.new-replier.ensures in
    IfOk-is _ c.args.opened c.in-Ok.calculator c.in-Ok.is
    (IsRecalled-kept c.in-Ok.calculator after.by after.pairs c.into_answers.result c.args.limit _
    c.into_answers.ensures.pairs same c.into_answers.ensures.computed
    (c.answer_source-outcome.ensures.recalls
    (subst (AreOf []) (sym none) (AllKept-nil (λ asked t. AsksOneOf [] asked)))))
