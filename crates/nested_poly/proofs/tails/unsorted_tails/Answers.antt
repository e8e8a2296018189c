use Rattle.std.proofs.Common.{arith, rules, FitsSigned}
use Rattle.std.specs.Int.{w128}
use Rattle.std.proofs.lemmas.Int.{to_z-of_z}
use Rattle.nested_poly.proofs.Wholes.{no_tails, tails_more}
use Rattle.nested_poly.proofs.tails.unsorted_tails.Goals as goal

pub loop-term-init : goal.loop-term-init
loop-term-init c = no_tails c.in_ok-tails.tails.items c.args.terms.now c.in_ok-tails.ensures.items

pub loop-term-preserved : goal.loop-term-preserved
loop-term-preserved c =
    let f : FitsSigned w128 c.term-item.result.coefficient = search rules in
    tails_more c.loop-term.tails.items _ c.args.terms.now c.loop-term.term-index _ c.term-item.result (omega arith) c.term-item.is c.in_ok-push.ensures.items c.parts.ensures (to_z-of_z w128 c.term-item.result.coefficient f) c.requires c.loop-term.invariant
