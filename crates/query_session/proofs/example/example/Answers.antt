use Rattle.std.proofs.Common.{[], None, refl}
use Rattle.session_io.specs.Asked.{Asked, asked}
use Rattle.query_session.specs.Sizes.{IsSizeRefused}
use Rattle.query_session.specs.Example.{fault_of, IsExample}
use Rattle.query_session.proofs.Examples.{size_plain}
use Rattle.query_session.proofs.Sessions.{write_fault-result}
use Rattle.query_session.proofs.TextSessions.{IsTextRun-result}
use Rattle.query_session.proofs.example.example.Goals as goal

pub returns-clause-run : goal.returns-clause-run
returns-clause-run g c =
    λ limit a left faults given.
    IsTextRun-result (IsExample c.args.kind c.args.size)
    (IsSizeRefused (fault_of c.args.kind c.args.size)) limit a _ _ _
    (size_plain (fault_of c.args.kind c.args.size) a) _ c.text_of-text.result
    (c.text_of-text.ensures.opened a) (c.text_of-text.ensures.refused a) (record { left = refl; faults = refl; given = refl })
    c.write_by.ensures.written (c.write_by.ensures.refused left faults given)

pub returns-clause-cause : goal.returns-clause-cause
returns-clause-cause g c =
    λ w.
    let a : Asked = asked [] (λ n. None) (λ n. 0) (λ n. 0) (λ n l. 0) (λ n l. 0) in
    write_fault-result _ (IsSizeRefused (fault_of c.args.kind c.args.size)) a
    (size_plain (fault_of c.args.kind c.args.size) a) _ c.text_of-text.result
    (c.text_of-text.ensures.refused a) (c.write_by.ensures.cause w)
