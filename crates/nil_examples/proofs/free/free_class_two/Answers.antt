use Rattle.std.proofs.Common.{◌≡◌, ◌≤◌, sym, subst, arith}
use Rattle.std.proofs.lemmas.Result.{IfOk-weaker}
use Rattle.nil_examples.specs.Free.{free_class_two}
use Rattle.nil_examples.specs.ClassTwo.{IsFreeOfClassTwo}
use Rattle.nil_examples.proofs.Sized.{in_range, ArePowers-free, free-most}
use Rattle.nil_examples.proofs.Paired.{IsFreeOfClassTwo-free}
use Rattle.nil_examples.proofs.free.free_class_two.Goals as goal

pub overflow_cast-generators : goal.overflow_cast-generators
overflow_cast-generators c =
    let most : c.args.r ≤ 9 = (in_range 1 9 c.args.r c.in_default.ensures).1 in
    omega arith

pub present-requires-clause-least : goal.present-requires-clause-least
present-requires-clause-least c =
    let least : 1 ≤ c.args.r = (in_range 1 9 c.args.r c.in_default.ensures).0 in
    omega arith

pub present-requires-clause-most : goal.present-requires-clause-most
present-requires-clause-most c =
    let within = in_range 1 9 c.args.r c.in_default.ensures in
    omega (arith, free-most c.args.r within.0 within.1)

pub present-requires-clause-lawful : goal.present-requires-clause-lawful
present-requires-clause-lawful c =
    let within = in_range 1 9 c.args.r c.in_default.ensures in
    ArePowers-free c.args.r within.0 within.1

pub returns-clause-free : goal.returns-clause-free
returns-clause-free c =
    IfOk-weaker c.present.result (λ p. p ≡ free_class_two c.args.r) (IsFreeOfClassTwo c.args.r)
    (λ p is. subst (IsFreeOfClassTwo c.args.r) (sym is) (IsFreeOfClassTwo-free c.args.r))
    c.present.ensures.ok
