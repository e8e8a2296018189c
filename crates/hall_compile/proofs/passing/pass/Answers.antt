use Rattle.hall_compile.proofs.Passages.{differs}
use Rattle.hall_compile.proofs.passing.pass.Goals as goal

pub returns-in-Differ-clause-passes : goal.returns-in-Differ-clause-passes
returns-in-Differ-clause-passes g c =
    differs c.args.above.now c.args.i c.args.asked.now.items c.in-Differ.overlap
    c.in_ok-test_level.field-0 c.in-Differ.is c.in_ok-test_level.ensures.verdict
