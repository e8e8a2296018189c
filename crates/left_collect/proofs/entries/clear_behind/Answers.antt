use Rattle.std.proofs.Common.{◌∙◌, ap, length, slice_set, pos, ◌-◌, arith}
use Rattle.std.proofs.lemmas.List.{length-set}
use Rattle.left_collect.proofs.Walking.{cleared_more}
use Rattle.left_collect.proofs.entries.clear_behind.Goals as goal

pub loop-k-preserved : goal.loop-k-preserved
loop-k-preserved c =
    let same = ap length c.entries.ensures.entries in
    let test = c.loop-k-test.true in
    record {
      size = ap length c.set.ensures ∙ (length-set c.loop-k.v (c.loop-k.k - 1) (pos 0)
          ∙ c.loop-k.invariant.size);
      cleared = c.set.ensures
          ∙ (ap (λ u. slice_set u (c.loop-k.k - 1) (pos 0)) c.loop-k.invariant.cleared
          ∙ cleared_more c.args.v.now c.args.generator c.loop-k.k (omega (arith, c.loop-k.auto))
          (omega (arith, same, test)));
    }
