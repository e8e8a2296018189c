use Rattle.std.proofs.Common.{◌^◌, ◌≤◌, sym, subst, arith}
use Rattle.nil_num.specs.Outcome.{Unless}
use Rattle.binom_poly.specs.Polynomial.{value_of}
use Rattle.binom_poly.specs.Readings.{value_at, magnitude_of, IsCovered}
use Rattle.nested_poly.proofs.Forests.{place_within, tree_read, form_at}
use Rattle.nested_poly.proofs.forest.Forest.value.Goals as goal

pub index-requires : goal.index-requires
index-requires c = let l = place_within c.self.inside.trees.items c.args.self.now c.args.place c.self.view_is c.requires.place in omega (arith, l)

pub value-requires-clause-form : goal.value-requires-clause-form
value-requires-clause-form c =
    let l = place_within c.self.inside.trees.items c.args.self.now c.args.place c.self.view_is c.requires.place in
    form_at c.self.inside.trees.items c.args.place c.index.result.now l c.index.ensures c.self.invariant.0

pub value-requires-clause-covered : goal.value-requires-clause-covered
value-requires-clause-covered c =
    subst (IsCovered c.args.rows.now) (tree_read c.self.inside.trees.items c.args.self.now c.args.place c.index.result.now c.self.view_is c.requires.place c.index.ensures) c.requires.covered

pub returns : goal.returns
returns c =
    let a = value_at c.args.rows.now in
    subst (λ ts. Unless (2 ^ 127 ≤ magnitude_of a ts) (value_of a ts) c.value.result)
    (sym (tree_read c.self.inside.trees.items c.args.self.now c.args.place c.index.result.now c.self.view_is c.requires.place c.index.ensures)) c.value.ensures
