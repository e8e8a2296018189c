use Rattle.std.proofs.Common.{inr}
use Rattle.query_session.proofs.CompileOpened.{IsUncompiled-inconsistent, IsUncompiled-wide}
use Rattle.query_session.proofs.compiling.compiled.Goals as goal

pub returns-in_ok-text-in-Inconsistent-clause-refused : goal.returns-in_ok-text-in-Inconsistent-clause-refused
returns-in_ok-text-in-Inconsistent-clause-refused g c =
    inr (
      IsUncompiled-inconsistent _ c.args.pres.now c.in_ok-compiled.field-0 c.in-Inconsistent.overlap
          c.in-Inconsistent.is c.in_ok-compiled.ensures.outcome c.in_ok-compiled.ensures.decided,
      c.in_ok-text-in-Inconsistent.ensures,
    )

pub returns-in_ok-text-in-Wide-clause-refused : goal.returns-in_ok-text-in-Wide-clause-refused
returns-in_ok-text-in-Wide-clause-refused g c =
    inr (
      IsUncompiled-wide _ c.args.pres.now c.in_ok-compiled.field-0 c.in-Wide.place c.in-Wide.is
          c.in_ok-compiled.ensures.outcome,
      c.in_ok-text-in-Wide.ensures,
    )
