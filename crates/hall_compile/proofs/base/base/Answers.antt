use Rattle.std.proofs.Common.{◌≡◌, ap, sym, ◌∙◌, subst, length}
use Rattle.nil_pres.specs.Presented.{Presented}
use Rattle.nil_pres.specs.Relations.{relations_of}
use Rattle.hall_law.specs.Table.{IsTable}
use Rattle.hall_table.specs.Tabled.{Tabled}
use Rattle.hall_table.specs.Values.{values}
use Rattle.hall_compile.specs.Levels.{base_table}
use Rattle.hall_compile.proofs.BaseValues.{IsTable-base_table}
use Rattle.hall_compile.proofs.base.base.Goals as goal

pub new-requires-clause-multiplies : goal.new-requires-clause-multiplies
new-requires-clause-multiplies c =
    let p = c.args.pres.now in
    let table : c.in_ok-table.table ≡ base_table (length p.names) =
    c.in_ok-table.ensures ∙ ap base_table c.count.ensures.count in
    subst (λ (q : Presented). IsTable (relations_of q) c.in_ok-table.table.level
    (values c.in_ok-table.table)) (sym c.in_ok-pres.ensures)
    (subst (λ (t : Tabled). IsTable (relations_of p) t.level (values t)) (sym table)
    (IsTable-base_table p c.count.ensures.lawful c.last.ensures.table))
