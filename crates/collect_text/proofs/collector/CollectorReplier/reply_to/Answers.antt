use Rattle.std.proofs.Common.{◌≡◌, string_bytes, sym, subst}
use Rattle.std.proofs.lemmas.Result.{IfOk-weaker}
use Rattle.session_io.specs.Lines.{EndsAtLine}
use Rattle.collect_text.specs.Replies.{reply}
use Rattle.collect_text.proofs.Texts.{EndsAtLine-reply}
use Rattle.collect_text.proofs.collector.CollectorReplier.reply_to.Goals as goal

pub returns-clause-at_line : goal.returns-clause-at_line
returns-clause-at_line c =
    IfOk-weaker c.reply_to.result
    (λ text. string_bytes text ≡ reply c.self.inside.pres c.args.line.now)
    (λ text. EndsAtLine (string_bytes text))
    (λ text h. subst EndsAtLine (sym h) (EndsAtLine-reply c.self.inside.pres c.args.line.now))
    c.reply_to.ensures
