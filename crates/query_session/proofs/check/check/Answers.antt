use Rattle.std.proofs.Common.{[], refl}
use Rattle.query_session.specs.Compiling.{IsRefused}
use Rattle.query_session.specs.Check.{IsVerdict}
use Rattle.query_session.proofs.CompileOpened.{compile_plain}
use Rattle.query_session.proofs.Sessions.{write_fault-result}
use Rattle.query_session.proofs.TextSessions.{IsTextRun-result}
use Rattle.query_session.proofs.check.check.Goals as goal

pub returns-clause-run : goal.returns-clause-run
returns-clause-run g c =
    λ limit words left faults given.
    IsTextRun-result (IsVerdict _ c.args.pres.now) (IsRefused _ c.args.pres.now) limit _ _ _ _
    (compile_plain _ c.args.pres.now _) _ c.verdict-verdict.result
    (c.verdict-verdict.ensures.opened words) (c.verdict-verdict.ensures.refused words)
    (record { left = refl; faults = refl; given = refl }) c.write_by.ensures.written
    (c.write_by.ensures.refused left faults given)

pub returns-clause-cause : goal.returns-clause-cause
returns-clause-cause g c =
    λ w.
    write_fault-result _ (IsRefused _ c.args.pres.now) _ (compile_plain _ c.args.pres.now _) _
    c.verdict-verdict.result (c.verdict-verdict.ensures.refused []) (c.write_by.ensures.cause w)
