-- By the powers that were made.
use Rattle.std.proofs.Common.{◌≡◌, subst}
use Rattle.std.specs.Prelude.{IfOk}
use Rattle.nil_num.specs.Outcome.{Gives}
use Rattle.hall_table.specs.Tabled.{Tabled, IsTabled}
use Rattle.sum_compiler.specs.Calls.{MakesIn, place_of}
use Rattle.sum_compiler.specs.Powers.{powers, power_plan}
use Rattle.sum_compiler.proofs.Walking.{stops}
use Rattle.sum_compiler.proofs.PowersAre.{powers_answered}
use Rattle.sum_compiler.proofs.powers.power_table.Goals as goal

pub returns-clause-powers : goal.returns-clause-powers
returns-clause-powers c =
    let e = c.table-table.ensures.table in
    powers_answered (λ polys. polys.items) c.args.above.now c.powers.result
    (subst IsTabled e c.level.ensures.form) c.table-table.ensures.multiplies
    (subst (λ (t : Tabled). IfOk c.powers.result (λ polys. polys.items ≡ powers t)) e c.powers.ensures.entries)
    (subst (λ (t : Tabled). Gives place_of c.powers.result (MakesIn (power_plan t))) e c.powers.ensures.makes)

pub returns-clause-stops : goal.returns-clause-stops
returns-clause-stops c =
    let e = c.table-table.ensures.table in
    stops c.powers.result (power_plan c.args.above.now.table)
    (subst (λ (t : Tabled). Gives place_of c.powers.result (MakesIn (power_plan t))) e c.powers.ensures.makes)
