use Rattle.std.proofs.Common.{[], None, refl}
use Rattle.session_io.specs.Asked.{Asked, asked}
use Rattle.query_session.specs.Load.{IsLoaded, IsRefused}
use Rattle.query_session.proofs.LoadOpened.{load_plain}
use Rattle.query_session.proofs.Sessions.{write_fault-result}
use Rattle.query_session.proofs.TextSessions.{IsTextRun-result}
use Rattle.query_session.proofs.load.load.Goals as goal

pub returns-clause-run : goal.returns-clause-run
returns-clause-run g c =
    λ limit a left faults given.
    IsTextRun-result (IsLoaded _ c.args.rows c.args.count c.args.seed)
    (IsRefused _ c.args.rows c.args.count c.args.seed) limit a _ _ _
    (load_plain _ c.args.rows c.args.count c.args.seed a) _ c.text_of-text.result
    (c.text_of-text.ensures.opened a) (c.text_of-text.ensures.refused a)
    (record { left = refl; faults = refl; given = refl }) c.write_by.ensures.written
    (c.write_by.ensures.refused left faults given)

pub returns-clause-cause : goal.returns-clause-cause
returns-clause-cause g c =
    λ w.
    let a : Asked = asked [] (λ n. None) (λ n. 0) (λ n. 0) (λ n l. 0) (λ n l. 0) in
    write_fault-result _ (IsRefused _ c.args.rows c.args.count c.args.seed) a
    (load_plain _ c.args.rows c.args.count c.args.seed a) _ c.text_of-text.result
    (c.text_of-text.ensures.refused a) (c.write_by.ensures.cause w)
