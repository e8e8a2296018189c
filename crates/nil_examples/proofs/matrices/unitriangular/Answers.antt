use Rattle.std.proofs.Common.{◌≡◌, ◌≤◌, List, length, IfOk, sym, ap, subst, ◌∙◌, arith}
use Rattle.std.proofs.lemmas.Result.{IfOk-weaker}
use Rattle.nil_pres.specs.Presented.{Presented}
use Rattle.nil_examples.specs.declared.places.Place.{Place}
use Rattle.nil_examples.specs.Powers.{presentation}
use Rattle.nil_examples.specs.Places.{commutators, unitriangular}
use Rattle.nil_examples.specs.Matrices.{AreMatrices}
use Rattle.nil_examples.specs.Products.{HoldForMatrices}
use Rattle.nil_examples.specs.Free.{pairs}
use Rattle.nil_examples.proofs.Sized.{in_range, ArePowers-matrices, length-places, pairs-range}
use Rattle.nil_examples.proofs.Related.{AreMatrices-unitriangular}
use Rattle.nil_examples.proofs.Holding.{HoldForMatrices-from_places}
use Rattle.nil_examples.proofs.matrices.unitriangular.Goals as goal

pub overflow_cast-rows : goal.overflow_cast-rows
overflow_cast-rows c =
    let most : c.args.m ≤ 10 = (in_range 2 10 c.args.m c.in_default.ensures).1 in
    omega arith

pub places-requires-clause-least : goal.places-requires-clause-least
places-requires-clause-least c =
    let least : 2 ≤ c.args.m = (in_range 2 10 c.args.m c.in_default.ensures).0 in
    omega arith

pub places-requires-clause-most : goal.places-requires-clause-most
places-requires-clause-most c = (in_range 2 10 c.args.m c.in_default.ensures).1

pub present-requires-clause-least : goal.present-requires-clause-least
present-requires-clause-least c =
    let within = in_range 2 10 c.args.m c.in_default.ensures in
    let size : length c.in_ok-grid.grid.items ≡ pairs c.args.m = ap length c.in_ok-grid.ensures ∙ length-places c.args.m within.0 within.1 in
    omega (arith, size, (pairs-range c.args.m within.0 within.1).0)

pub present-requires-clause-most : goal.present-requires-clause-most
present-requires-clause-most c =
    let within = in_range 2 10 c.args.m c.in_default.ensures in
    let size : length c.in_ok-grid.grid.items ≡ pairs c.args.m = ap length c.in_ok-grid.ensures ∙ length-places c.args.m within.0 within.1 in
    omega (arith, size, (pairs-range c.args.m within.0 within.1).1)

pub present-requires-clause-lawful : goal.present-requires-clause-lawful
present-requires-clause-lawful c =
    let within = in_range 2 10 c.args.m c.in_default.ensures in
    ArePowers-matrices c.args.m c.in_ok-grid.grid.items within.0 within.1 c.in_ok-grid.ensures

pub returns-clause-ok : goal.returns-clause-ok
returns-clause-ok c =
    subst (λ (xs : List Place). IfOk c.present.result (λ (p : Presented). p ≡ presentation (length xs) (commutators xs)))
    c.in_ok-grid.ensures c.present.ensures.ok

pub returns-clause-matrices : goal.returns-clause-matrices
returns-clause-matrices c =
    let within = in_range 2 10 c.args.m c.in_default.ensures in
    IfOk-weaker c.present.result (λ p. p ≡ unitriangular c.args.m) (AreMatrices c.args.m)
    (λ p is. subst (AreMatrices c.args.m) (sym is) (AreMatrices-unitriangular c.args.m within.0 within.1))
    (returns-clause-ok c)

pub returns-clause-hold : goal.returns-clause-hold
returns-clause-hold c =
    IfOk-weaker c.present.result (AreMatrices c.args.m) (HoldForMatrices c.args.m)
    (λ p are. HoldForMatrices-from_places c.args.m p are) (returns-clause-matrices c)
