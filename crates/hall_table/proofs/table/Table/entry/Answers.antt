use Rattle.std.proofs.Common.{rules, FitsSigned, arith}
use Rattle.std.specs.Int.{w128}
use Rattle.std.proofs.lemmas.Int.{to_z-of_z}
use Rattle.binom_poly.specs.Readings.{value_at}
use Rattle.hall_table.specs.Tabled.{poly_at}
use Rattle.hall_table.proofs.Putting.{entry_within}
use Rattle.hall_table.proofs.table.Table.entry.Goals as goal

pub returns-in-Ok-clause-within : goal.returns-in-Ok-clause-within
returns-in-Ok-clause-within c =
    let g : FitsSigned w128 c.in-Ok.value = search rules in
    entry_within (value_at c.args.rows.now) (poly_at c.args.self.now c.args.k) _ c.in-Ok.value (to_z-of_z w128 c.in-Ok.value g) c.in-Ok.ensures.0
    (omega (arith, c.in-Ok.ensures.1))
