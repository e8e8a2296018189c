use Rattle.std.proofs.Common.{[]}
use Rattle.nil_pres.specs.Presented.{Presented}
use Rattle.collect_text.specs.Replies.{reply}
use Rattle.collect_text.specs.Right.{IsCollected}
use Rattle.query_session.specs.Presentations.{IsFileRefused}
use Rattle.query_session.specs.Collect.{IsPresentation}
use Rattle.query_session.proofs.Plain.{file_plain}
use Rattle.query_session.proofs.Sessions.{IsRunOver-result, write_fault-result}
use Rattle.query_session.proofs.collect.collect.Goals as goal

pub returns-clause-run : goal.returns-clause-run
returns-clause-run g c =
    λ words.
    IsRunOver-result Presented (IsPresentation c.args.pres.now) IsCollected
    (IsFileRefused c.args.pres.now) c.args.limit _ _ _ _ (file_plain c.args.pres.now _) reply
    (λ p h line. c.collected_replies.ensures p line h.is.is_file.lawful)
    _ c.open-opened.result (c.open-opened.ensures.opened words) (c.open-opened.ensures.refused words)
    c.answer_by.ensures.ended

pub returns-clause-cause : goal.returns-clause-cause
returns-clause-cause g c =
    λ w.
    write_fault-result Presented (IsFileRefused c.args.pres.now) _ (file_plain c.args.pres.now _) _
    c.open-opened.result (c.open-opened.ensures.refused []) (c.answer_by.ensures.cause w)
