use Rattle.hall_compile.proofs.Outcomes.{alike}
use Rattle.hall_compile.proofs.laws.outcomes.Goals as goal

-- the first that stops, and the table of level 1, are the presentation's alone
pub returns : goal.returns
returns c = λ p os others r s h a b nr ns.
    alike p h c.accepted.ensures c.last.ensures.table c.one_table.ensures os others r s a b nr ns
