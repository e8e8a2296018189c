use Rattle.binom_poly.specs.Readings.{value_at}
use Rattle.hall_table.specs.Tabled.{Tabled}
use Rattle.hall_table.proofs.Nested.{place_within, nest_of_entry, nest_covered, unless_nest}
use Rattle.hall_table.proofs.table.Table.nested_value.Goals as goal

pub value-requires-clause-place : goal.value-requires-clause-place
value-requires-clause-place c =
    let s : Tabled = record { level = c.self.inside.level; polys = c.self.inside.polys.items } in
    place_within c.args.self.now s c.self.inside.forest c.args.k c.self.view_is c.self.invariant.0 c.self.invariant.1 c.requires.least c.requires.most

pub value-requires-clause-covered : goal.value-requires-clause-covered
value-requires-clause-covered c =
    let s : Tabled = record { level = c.self.inside.level; polys = c.self.inside.polys.items } in
    nest_covered c.args.self.now s c.args.rows.now c.args.k _ c.self.view_is c.self.invariant.0 c.requires.rows c.requires.least c.requires.most
    (nest_of_entry c.args.self.now s c.self.inside.forest c.args.k c.self.view_is c.self.invariant.0 c.self.invariant.1 c.requires.least c.requires.most)

pub returns : goal.returns
returns c =
    let s : Tabled = record { level = c.self.inside.level; polys = c.self.inside.polys.items } in
    unless_nest (value_at c.args.rows.now) _ _ c.value.result
    (nest_of_entry c.args.self.now s c.self.inside.forest c.args.k c.self.view_is c.self.invariant.0 c.self.invariant.1 c.requires.least c.requires.most)
    c.value.ensures
