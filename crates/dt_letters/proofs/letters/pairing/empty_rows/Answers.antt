-- A row without pairs more.
use Rattle.std.proofs.Common.{[], ◌∷◌, length, length-append, ap, ◌∙◌, arith}
use Rattle.std.specs.Prelude.{List, Vec}
use Rattle.std.specs.declared.alloc.Global.{Global}
use Rattle.dt_letters.specs.declared.pair.Pair.{Pair}
use Rattle.dt_letters.specs.Pairs.{row_in}
use Rattle.dt_letters.proofs.Paired.{row_in-none}
use Rattle.dt_letters.proofs.letters.pairing.empty_rows.Goals as goal

pub loop-preserved : goal.loop-preserved
loop-preserved c = record {
  count = omega (
    arith,
    c.loop.invariant.count,
    ap length c.in_ok-push.ensures.items,
    length-append c.loop.rows.items (c.new.result ∷ []),
  );
  none = λ k. ap (λ (rows : List (Vec Pair Global)). row_in rows k) c.in_ok-push.ensures.items
      ∙ row_in-none c.loop.rows.items c.new.result c.loop.invariant.none c.new.ensures.items k;
}
