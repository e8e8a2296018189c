use Rattle.std.proofs.Common.{◌-◌, length, arith, sym, refl, rules, FitsSigned, of_z, ap}
use Rattle.std.specs.Int.{w128}
use Rattle.std.proofs.lemmas.Int.{to_z-of_z}
use Rattle.binom_poly.proofs.Sorting.{zero_of_bits}
use Rattle.nested_poly.proofs.Adding.{adds_other, adds_below, adds_own}
use Rattle.nested_poly.proofs.Ending.{ends_other, ends_with, ends_alone}
use Rattle.nested_poly.proofs.split.Split.add.Goals as goal

pub returns-in_ok-push : goal.returns-in_ok-push
returns-in_ok-push c =
    adds_other c.args.self.now _ c.args.tail.now refl refl refl c.in_ok-push.ensures.items c.requires
    (λ _. ends_other c.args.tail.now.parts.now c.split_at.result.1.now record { var = 0; exp = 0 } c.args.self.now.part (length c.args.tail.now.parts.now - 1) c.split_at.ensures.back (omega (arith, c.requires)) c.if-ne.ensures)

pub returns-in_ok-push-2 : goal.returns-in_ok-push-2
returns-in_ok-push-2 c =
    let f : FitsSigned w128 c.args.tail.now.coefficient = search rules in
    adds_below c.args.self.now _ c.args.tail.now _ refl refl c.in_ok-push-2.ensures.items refl
    (ends_with c.args.tail.now.parts.now c.split_at.result.0.now c.split_at.result.1.now record { var = 0; exp = 0 } c.args.self.now.part (length c.args.tail.now.parts.now - 1) c.split_at.ensures.front c.split_at.ensures.back (omega (arith, c.requires)) c.if-ne.ensures)
    (sym (to_z-of_z w128 c.args.tail.now.coefficient f)) c.if-rest-gt0.true

pub returns-then-self-eq0 : goal.returns-then-self-eq0
returns-then-self-eq0 c =
    let f : FitsSigned w128 c.args.tail.now.coefficient = search rules in
    let g : FitsSigned w128 c.args.self.now.coefficient = search rules in
    adds_own c.args.self.now _ c.args.tail.now refl (zero_of_bits c.args.self.now.coefficient g c.if-self-eq0.true) (to_z-of_z w128 c.args.tail.now.coefficient f) refl refl
    (ends_alone c.args.tail.now.parts.now c.split_at.result.0.now c.split_at.result.1.now record { var = 0; exp = 0 } c.args.self.now.part (length c.args.tail.now.parts.now - 1) c.split_at.ensures.front c.split_at.ensures.back (omega (arith, c.requires)) c.if-ne.ensures c.if-rest-gt0.false)

pub returns-in_ok-push-3 : goal.returns-in_ok-push-3
returns-in_ok-push-3 c =
    adds_other c.args.self.now _ c.args.tail.now refl refl refl c.in_ok-push-3.ensures.items c.requires (λ z _. c.if-self-eq0.false (ap (of_z w128) z))
