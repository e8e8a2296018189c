use Rattle.std.proofs.Common.{[]}
use Rattle.hall_table.specs.Multiplies.{Paired}
use Rattle.query_replies.specs.Replies.{reply}
use Rattle.query_replies.specs.Right.{IsReply}
use Rattle.query_session.specs.RunTable.{IsOpened, IsRefused}
use Rattle.query_session.proofs.TableOpened.{run_table_plain}
use Rattle.query_session.proofs.Filling.{IsMemoOver-result}
use Rattle.query_session.proofs.Sessions.{IsRunOver-result, write_fault-result}
use Rattle.query_session.proofs.run_table.run_table.Goals as goal

pub returns-clause-run : goal.returns-clause-run
returns-clause-run g c =
    λ words.
    IsRunOver-result Paired (IsOpened c.args.pres.now c.args.table.now) IsReply
    (IsRefused c.args.pres.now c.args.table.now) c.args.limit _ _ _ _
    (run_table_plain c.args.pres.now c.args.table.now _) reply
    (λ d h line. c.right_replies.ensures d line h.is.is_file.lawful
    h.is.accepted.says.says.table h.is.accepted.multiplies h.is.accepted.says.says.level)
    _ c.open-opened.result (c.open-opened.ensures.opened words)
    (c.open-opened.ensures.refused words)
    c.answer_from_memo.ensures.ended

pub returns-clause-cause : goal.returns-clause-cause
returns-clause-cause g c =
    λ w.
    write_fault-result Paired (IsRefused c.args.pres.now c.args.table.now) _
    (run_table_plain c.args.pres.now c.args.table.now _) _
    c.open-opened.result (c.open-opened.ensures.refused []) (c.answer_from_memo.ensures.cause w)

pub returns-clause-memo : goal.returns-clause-memo
returns-clause-memo g c =
    λ words.
    IsMemoOver-result (IsOpened c.args.pres.now c.args.table.now) c.args.limit _ _
    c.answer_from_memo.new.memo
    (λ d h line. c.right_replies.ensures d line h.is.is_file.lawful
    h.is.accepted.says.says.table h.is.accepted.multiplies h.is.accepted.says.says.level)
    c.open-opened.result (c.open-opened.ensures.opened words)
    c.answer_from_memo.ensures.kept c.answer_from_memo.ensures.unused
