-- Pair by pair, and then the pairs of all types are those of the types below each.
use Rattle.std.proofs.Common.{◌+◌, ◌-◌, ◌∙◌, arith}
use Rattle.dt_letters.specs.Allowed.{exponents_of}
use Rattle.dt_letters.specs.Pairs.{row_in, pairs_up_to}
use Rattle.dt_letters.proofs.Paired.{pair-next, rows-next, pairs-all}
use Rattle.dt_letters.proofs.letters.pairing.all_pairs.Goals as goal

pub loop-right-preserved : goal.loop-right-preserved
loop-right-preserved c =
    let p = c.loop-left.left in
    let q = c.loop-right.right in
    record {
      count = c.put_pair.ensures.count;
      rows = λ k lt. pair-next c.args.pres.now c.count-left-end.ensures.lawful k p q (q - 1) (q + 1 - 1)
          (row_in c.loop-right.rows.items k) (row_in c.put_pair.new.rows.items k)
          (pairs_up_to (exponents_of c.args.pres.now) k (p - 1)) c.right_side.result.now c.loop-right.auto.right
          c.loop-right-test.true
          (omega (arith, c.loop-left-test.true, c.count-left-end.ensures.count)) c.right_side.ensures.right
          (omega (arith, c.loop-right.auto.right)) (omega arith) (c.loop-right.invariant.rows k lt)
          (c.in_ok-put_pair.ensures.rows k lt);
    }

pub loop-left-preserved : goal.loop-left-preserved
loop-left-preserved c =
    let p = c.loop-left.left in
    record {
      count = c.loop-right.invariant.count;
      rows = λ k lt. c.loop-right.invariant.rows k lt
          ∙ rows-next (exponents_of c.args.pres.now) k p (p - 1) (c.loop-right.right - 1) (p + 1 - 1)
          (omega (arith, c.loop-left.auto.left))
          (omega (arith, c.loop-right.auto.right-end, c.loop-left.auto.left, c.loop-right-test.false)) (omega arith);
    }

pub returns : goal.returns
returns c = record {
  count = c.loop-left.invariant.count;
  pairs = λ k lt. c.loop-left.invariant.rows k lt
      ∙ pairs-all c.args.pres.now c.count-left-end.ensures.lawful k (c.loop-left.left - 1)
      (omega (arith, c.loop-left-test.false, c.loop-left.auto.left-end, c.count-left-end.ensures.count));
}
