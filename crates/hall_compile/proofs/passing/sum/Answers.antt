use Rattle.std.proofs.Common.{sym, ◌∙◌, subst}
use Rattle.hall_table.specs.Multiplies.{Paired}
use Rattle.hall_table.specs.Tabled.{IsTabled}
use Rattle.hall_compile.specs.declared.level.Level.TheVariants.{Chosen}
use Rattle.hall_compile.specs.declared.origin.Origin.TheVariants.{Sum}
use Rattle.hall_compile.specs.Passing.{SumsUp}
use Rattle.hall_compile.proofs.Passages.{sums}
use Rattle.hall_compile.proofs.passing.sum.Goals as goal

pub returns-in_ok-pres-in-Ok : goal.returns-in_ok-pres-in-Ok
returns-in_ok-pres-in-Ok c =
    let table = c.in-Ok.ensures in
    subst (λ (d : Paired). SumsUp c.args.above.now c.args.i (Chosen Sum d)) (sym c.new.ensures) (
      c.in_ok-pres-in-Ok.ensures ∙ sym c.requires.pres,
      sums c.args.above.now c.args.pres.now c.args.i c.in-Ok.table c.requires.pres table.stops
          (subst IsTabled c.table.view_is c.table.invariant.0) table.level table.last table.values
          table.multiplies,
    )
