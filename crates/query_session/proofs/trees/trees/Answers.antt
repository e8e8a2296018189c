use Rattle.std.proofs.Common.{[], refl}
use Rattle.query_session.specs.Trees.{AreTrees, IsRefused}
use Rattle.query_session.proofs.TreesOpened.{trees_plain}
use Rattle.query_session.proofs.Sessions.{write_fault-result}
use Rattle.query_session.proofs.TextSessions.{IsTextRun-result}
use Rattle.query_session.proofs.trees.trees.Goals as goal

pub returns-clause-run : goal.returns-clause-run
returns-clause-run g c =
    λ limit words left faults given.
    IsTextRun-result (AreTrees c.args.pres.now c.args.name.now)
    (IsRefused c.args.pres.now c.args.name.now) limit _ _ _ _
    (trees_plain c.args.pres.now c.args.name.now _) _ c.text_of-text.result
    (c.text_of-text.ensures.opened words) (c.text_of-text.ensures.refused words)
    (record { left = refl; faults = refl; given = refl }) c.write_by.ensures.written
    (c.write_by.ensures.refused left faults given)

pub returns-clause-cause : goal.returns-clause-cause
returns-clause-cause g c =
    λ w.
    write_fault-result _ (IsRefused c.args.pres.now c.args.name.now) _
    (trees_plain c.args.pres.now c.args.name.now _) _ c.text_of-text.result
    (c.text_of-text.ensures.refused []) (c.write_by.ensures.cause w)
