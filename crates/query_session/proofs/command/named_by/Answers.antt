use Rattle.query_session.proofs.Naming.{named_by-none}
use Rattle.query_session.proofs.command.named_by.Goals as goal

pub returns-in_default : goal.returns-in_default
returns-in_default c =
    named_by-none c.args.word.now _ c.in_default.not-run c.in_default.not-check
    c.in_default.not-compile c.in_default.not-trees c.in_default.not-collect
    c.in_default.not-example c.in_default.not-load
