use Rattle.std.proofs.Common.{◌<◌, ◌∙◌, ℕ, length, sym, ap, subst}
use Rattle.binom_poly.specs.Readings.{value_at, IsCovered}
use Rattle.nested_poly.specs.Counts.{weighed_at}
use Rattle.nested_poly.specs.Roots.{groups_at, AreRoots}
use Rattle.nested_poly.proofs.Forests.{length-forest_terms}
use Rattle.nested_poly.proofs.Starting.{sums_end, groups_covered, begun_at, counted_at}
use Rattle.nested_poly.proofs.forest.Forest.sums.Goals as goal

pub put_constants-requires : goal.put_constants-requires
put_constants-requires c = c.requires.length ∙ ap length (sym c.self.view_is) ∙ length-forest_terms c.self.inside.trees.items ∙ ap length (sym c.deref.ensures.value)

pub add_groups-requires-clause-length : goal.add_groups-requires-clause-length
add_groups-requires-clause-length c = c.put_constants.ensures.length ∙ ap length (c.deref.ensures.value ∙ sym c.deref-2.ensures.value)

pub add_groups-requires-clause-roots : goal.add_groups-requires-clause-roots
add_groups-requires-clause-roots c =
    subst (λ ts. AreRoots ts c.deref-3.result.now) (sym c.deref-2.ensures.value) (subst (AreRoots c.self.inside.trees.items) (sym c.deref-3.ensures.value) c.self.invariant.1.roots)

pub add_groups-requires-clause-covered : goal.add_groups-requires-clause-covered
add_groups-requires-clause-covered c =
    let ts = c.self.inside.trees.items in
    let gs = c.self.inside.groups.items in
    let n = sym (length-forest_terms ts) ∙ ap length c.self.view_is in
    subst (λ us. (k : ℕ) → k < length us → IsCovered c.args.rows.now (groups_at us k c.deref-3.result.now)) (sym c.deref-2.ensures.value)
    (subst (λ hs. (k : ℕ) → k < length ts → IsCovered c.args.rows.now (groups_at ts k hs)) (sym c.deref-3.ensures.value)
    (groups_covered c.args.rows.now ts gs c.args.self.now c.self.view_is n c.self.invariant.1 c.requires.covered))

pub returns-clause-length : goal.returns-clause-length
returns-clause-length c = c.add_groups.ensures.length ∙ ap length c.deref-2.ensures.value ∙ sym (length-forest_terms c.self.inside.trees.items) ∙ ap length c.self.view_is

pub returns-clause-sums : goal.returns-clause-sums
returns-clause-sums c k l =
    let a = value_at c.args.rows.now in
    let ts = c.self.inside.trees.items in
    let gs = c.self.inside.groups.items in
    sums_end a ts gs c.args.self.now c.put_constants.new.sums c.add_groups.new.sums k c.self.view_is l c.self.invariant.1
    (begun_at a c.deref.result.now ts c.put_constants.new.sums c.deref.ensures.value (c.put_constants.ensures.begun a))
    (λ j. counted_at a c.deref-2.result.now ts c.deref-3.result.now gs (weighed_at c.put_constants.new.sums j) (weighed_at c.add_groups.new.sums j) j c.deref-2.ensures.value c.deref-3.ensures.value (c.add_groups.ensures.sums j))
