-- Type by type.
use Rattle.std.proofs.Common.{[], ◌∷◌, length, length-append, sym, ap, subst, arith}
use Rattle.dt_letters.specs.Allowed.{exponents_of}
use Rattle.dt_letters.proofs.Different.{extended-trans, extended-refl}
use Rattle.dt_trees.specs.Known.{AreKnown}
use Rattle.dt_trees.proofs.Knowing.{known-none, known-next, ways-low}
use Rattle.dt_trees.proofs.from_nothing.ways_from_nothing.Goals as goal

pub loop-p-init : goal.loop-p-init
loop-p-init c = record {
  kept = extended-refl c.args.letters.now;
  known = subst (AreKnown c.args.letters.now (exponents_of c.args.letters.now.pres) c.args.level)
      (sym c.new-known.ensures.items)
      (known-none c.args.letters.now (exponents_of c.args.letters.now.pres) c.args.level);
  count = omega (arith, ap length c.new-known.ensures.items);
}

pub loop-p-preserved : goal.loop-p-preserved
loop-p-preserved c = record {
  kept = extended-trans c.args.letters.now c.loop-p.letters c.grow_from_nothing.new.letters
      c.loop-p.invariant.kept c.grow_from_nothing.ensures.kept;
  known = known-next c.loop-p.letters c.grow_from_nothing.new.letters c.grow_from_nothing.ensures.kept c.args.level
      c.loop-p.known.items c.push.new.self.items c.in_ok-ways.ways c.loop-p.p c.loop-p.invariant.count
      c.in_ok-push.ensures.items c.loop-p.invariant.known c.in_ok-ways.ensures.ways;
  count = omega (
    arith,
    c.loop-p.invariant.count,
    ap length c.in_ok-push.ensures.items,
    length-append c.loop-p.known.items (c.in_ok-ways.ways ∷ []),
  );
}

pub returns-then-k-level-clause-ways : goal.returns-then-k-level-clause-ways
returns-then-k-level-clause-ways c =
    ways-low c.args.letters.now (exponents_of c.args.letters.now.pres) c.args.level c.args.k c.new.result.items
    (grind (arith, c.if-k-level.true)) c.new.ensures.items
