use Rattle.std.proofs.Common.{◌≡◌, ◌∙◌, length, sym, ap}
use Rattle.binom_poly.specs.Readings.{value_at}
use Rattle.hall_table.specs.Tabled.{Tabled}
use Rattle.hall_table.proofs.Nested.{nests_length, nests_covered, sums_of_nests}
use Rattle.hall_table.proofs.table.Table.sum_up.Goals as goal

pub sums-requires-clause-length : goal.sums-requires-clause-length
sums-requires-clause-length c =
    c.requires.length ∙ ap (λ (t : Tabled). length t.polys) (sym c.self.view_is) ∙ sym (nests_length c.self.inside.forest c.self.inside.polys.items c.self.invariant.1)

pub sums-requires-clause-covered : goal.sums-requires-clause-covered
sums-requires-clause-covered c =
    let s : Tabled = record { level = c.self.inside.level; polys = c.self.inside.polys.items } in
    nests_covered c.args.self.now s c.self.inside.forest c.args.rows.now c.self.view_is c.self.invariant.0 c.self.invariant.1 c.requires.rows

pub returns-clause-length : goal.returns-clause-length
returns-clause-length c =
    c.sums.ensures.length ∙ nests_length c.self.inside.forest c.self.inside.polys.items c.self.invariant.1 ∙ ap (λ (t : Tabled). length t.polys) c.self.view_is

pub returns-clause-sums : goal.returns-clause-sums
returns-clause-sums c =
    let s : Tabled = record { level = c.self.inside.level; polys = c.self.inside.polys.items } in
    sums_of_nests c.args.self.now s c.self.inside.forest (value_at c.args.rows.now) c.sums.new.sums c.self.view_is c.self.invariant.0 c.self.invariant.1 c.sums.ensures.sums
