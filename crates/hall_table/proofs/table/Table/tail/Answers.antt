use Rattle.std.proofs.Common.{◌≡◌, subst}
use Rattle.binom_poly.specs.Polynomial.{value_of}
use Rattle.hall_table.specs.Tabled.{Tabled, IsTabled, poly_at}
use Rattle.nested_poly.specs.Trees.{AreNests}
use Rattle.hall_table.specs.Tail.{at_level}
use Rattle.hall_table.proofs.Dropping.{tail_made, IsTabled-tail_of, value_of-tail_of}
use Rattle.hall_table.proofs.table.Table.tail.Goals as goal

-- the polynomials that were made are those of the tail
pub invariant_of-result : goal.invariant_of-result
invariant_of-result c = (
  subst IsTabled
      (tail_made record { level = c.self.inside.level; polys = c.self.inside.polys.items } c.args.self.now c.args.level
      c.loop-poly.poly-index c.deref.result.now c.loop-poly.polys.items c.self.view_is c.deref.ensures.value
      c.loop-poly.invariant c.loop-poly-test.false)
      (IsTabled-tail_of c.args.self.now c.args.level (subst IsTabled c.self.view_is c.self.invariant.0) c.requires.least c.requires.most),
  subst (AreNests c.in_ok-forest.forest) c.deref-2.ensures.value c.in_ok-forest.ensures,
)

pub returns-clause-values : goal.returns-clause-values
returns-clause-values c = λ k a low to.
    subst (λ (t : Tabled). value_of a (poly_at t k) ≡ value_of (at_level c.args.level a) (poly_at c.args.self.now k))
    (tail_made record { level = c.self.inside.level; polys = c.self.inside.polys.items } c.args.self.now c.args.level
    c.loop-poly.poly-index c.deref.result.now c.loop-poly.polys.items c.self.view_is c.deref.ensures.value
    c.loop-poly.invariant c.loop-poly-test.false)
    (value_of-tail_of c.args.self.now c.args.level k a (subst IsTabled c.self.view_is c.self.invariant.0) c.requires.least low to)
