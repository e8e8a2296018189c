use Rattle.std.proofs.Common.{[], refl}
use Rattle.query_session.specs.Compiling.{IsRefused}
use Rattle.query_session.specs.Compile.{IsTableOf}
use Rattle.query_session.proofs.CompileOpened.{compile_plain}
use Rattle.query_session.proofs.Sessions.{write_fault-result}
use Rattle.query_session.proofs.TextSessions.{IsTextRun-result}
use Rattle.query_session.proofs.compile.compile.Goals as goal

pub returns-clause-run : goal.returns-clause-run
returns-clause-run g c =
    λ limit words left faults given.
    IsTextRun-result (IsTableOf _ c.args.pres.now) (IsRefused _ c.args.pres.now) limit _ _ _ _
    (compile_plain _ c.args.pres.now _) _ c.table_of-table.result
    (c.table_of-table.ensures.opened words) (c.table_of-table.ensures.refused words)
    (record { left = refl; faults = refl; given = refl }) c.write_by.ensures.written
    (c.write_by.ensures.refused left faults given)

pub returns-clause-cause : goal.returns-clause-cause
returns-clause-cause g c =
    λ w.
    write_fault-result _ (IsRefused _ c.args.pres.now) _ (compile_plain _ c.args.pres.now _) _
    c.table_of-table.result (c.table_of-table.ensures.refused []) (c.write_by.ensures.cause w)
