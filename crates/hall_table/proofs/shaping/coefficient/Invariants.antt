use Rattle.std.proofs.Common.{◌≡◌, drop}
use Rattle.hall_table.specs.Shape.{coefficient_of}
use Rattle.hall_table.proofs.shaping.coefficient.Given as goal

abbrev pub invariant-loop-term : goal.invariant-loop-term
invariant-loop-term l = coefficient_of l.variable l.terms ≡ coefficient_of l.variable (drop l.term-index l.terms)
