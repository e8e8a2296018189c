use Rattle.std.proofs.Common.{[]}
use Rattle.hall_table.specs.Multiplies.{Paired}
use Rattle.query_replies.specs.Replies.{reply}
use Rattle.query_replies.specs.Right.{IsReply}
use Rattle.query_session.specs.Compiling.{IsRefused}
use Rattle.query_session.specs.Run.{IsOpened}
use Rattle.query_session.proofs.CompileOpened.{compile_plain, IsReply-opened}
use Rattle.query_session.proofs.Filling.{IsMemoOver-result}
use Rattle.query_session.proofs.Sessions.{IsRunOver-result, write_fault-result}
use Rattle.query_session.proofs.run.run.Goals as goal

pub returns-clause-run : goal.returns-clause-run
returns-clause-run g c =
    λ words.
    IsRunOver-result Paired (IsOpened _ c.args.pres.now) IsReply (IsRefused _ c.args.pres.now)
    c.args.limit _ _ _ _ (compile_plain _ c.args.pres.now _) reply
    (λ d h line. IsReply-opened c.right_replies.ensures _ c.args.pres.now _ d h line)
    _ c.open-opened.result (c.open-opened.ensures.opened words)
    (c.open-opened.ensures.refused words)
    c.answer_from_memo.ensures.ended

pub returns-clause-cause : goal.returns-clause-cause
returns-clause-cause g c =
    λ w.
    write_fault-result Paired (IsRefused _ c.args.pres.now) _ (compile_plain _ c.args.pres.now _) _
    c.open-opened.result (c.open-opened.ensures.refused []) (c.answer_from_memo.ensures.cause w)

pub returns-clause-memo : goal.returns-clause-memo
returns-clause-memo g c =
    λ words.
    IsMemoOver-result (IsOpened _ c.args.pres.now) c.args.limit _ _
    c.answer_from_memo.new.memo
    (λ d h line. IsReply-opened c.right_replies.ensures _ c.args.pres.now _ d h line)
    c.open-opened.result (c.open-opened.ensures.opened words)
    c.answer_from_memo.ensures.kept c.answer_from_memo.ensures.unused
