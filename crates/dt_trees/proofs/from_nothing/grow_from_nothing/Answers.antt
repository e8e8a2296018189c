-- Pair by pair, over the ways that are known.
use Rattle.std.proofs.Common.{◌≡◌, ◌∙◌, List, [], ◌++◌, length, get_or, take, sym, ap, subst, arith}
use Rattle.std.proofs.lemmas.List.{append-nil, take_all}
use Rattle.nil_pres.specs.Presented.{Presented}
use Rattle.dt_letters.specs.declared.pair.Pair.{Pair}
use Rattle.dt_letters.specs.Letters.{Letter}
use Rattle.dt_letters.specs.Allowed.{exponents_of}
use Rattle.dt_letters.specs.Listing.{Grew, each}
use Rattle.dt_letters.specs.Pairs.{pairs_of}
use Rattle.dt_letters.proofs.Different.{extended-trans}
use Rattle.dt_trees.specs.declared.grown.Grown.{Grown}
use Rattle.dt_trees.specs.Ways.{stack_in, AreWays, Gains, leaf_ways, pair_ways}
use Rattle.dt_trees.proofs.Knowing.{known-kept}
use Rattle.dt_trees.proofs.Gaining.{gains-same, ways-gained}
use Rattle.dt_trees.proofs.Visited.{next-range, pairs-kept, grown-pairs, gains-next_pair}
use Rattle.dt_trees.proofs.from_nothing.grow_from_nothing.Goals as goal

pub loop-place-init : goal.loop-place-init
loop-place-init c =
    let a = c.args.letters.now in
    let b = c.place_leaves.new.letters in
    let vs = c.place_leaves.new.ways.items in
    let leaves = leaf_ways c.args.level [] c.args.k in
    let none : stack_in a c.deref.result.now ≡ [] =
    ap (stack_in a) (c.deref.ensures.value ∙ c.new-stack.ensures.items) in
    record {
      kept = c.place_leaves.ensures.kept;
      gains = subst (λ (ws : List Grown). Gains a ws b vs (leaves ++ [])) c.new-ways.ensures.items
          (gains-same a b c.new-ways.result.items vs (leaf_ways c.args.level (stack_in a c.deref.result.now) c.args.k)
          (leaves ++ [])
          (ap (λ (ts : List Letter). leaf_ways c.args.level ts c.args.k) none ∙ sym (append-nil leaves))
          c.in_ok-place_leaves.ensures.gains);
    }

pub grow_known_pair-requires-clause-least : goal.grow_known_pair-requires-clause-least
grow_known_pair-requires-clause-least c =
    let d : Pair = record { left = 0; right = 0 } in
    let r = next-range c.args.letters.now c.loop-place.letters c.place_leaves.new.letters c.loop-place.invariant.kept
    c.place_leaves.ensures.kept c.args.k c.loop-place.place c.pairs.result.now c.pairs-place-end.result.now d
    c.pairs.ensures c.pairs-place-end.ensures c.loop-place-test.true in
    r.0

pub grow_known_pair-requires-clause-falls : goal.grow_known_pair-requires-clause-falls
grow_known_pair-requires-clause-falls c =
    let d : Pair = record { left = 0; right = 0 } in
    let r = next-range c.args.letters.now c.loop-place.letters c.place_leaves.new.letters c.loop-place.invariant.kept
    c.place_leaves.ensures.kept c.args.k c.loop-place.place c.pairs.result.now c.pairs-place-end.result.now d
    c.pairs.ensures c.pairs-place-end.ensures c.loop-place-test.true in
    r.1

pub grow_known_pair-requires-clause-below : goal.grow_known_pair-requires-clause-below
grow_known_pair-requires-clause-below c =
    let d : Pair = record { left = 0; right = 0 } in
    let r = next-range c.args.letters.now c.loop-place.letters c.place_leaves.new.letters c.loop-place.invariant.kept
    c.place_leaves.ensures.kept c.args.k c.loop-place.place c.pairs.result.now c.pairs-place-end.result.now d
    c.pairs.ensures c.pairs-place-end.ensures c.loop-place-test.true in
    r.2

pub grow_known_pair-requires-clause-known : goal.grow_known_pair-requires-clause-known
grow_known_pair-requires-clause-known c =
    known-kept c.args.letters.now c.loop-place.letters c.loop-place.invariant.kept c.args.level c.args.known.now
    c.requires.known

pub returns-in_err-grow_known_pair-clause-kept : goal.returns-in_err-grow_known_pair-clause-kept
returns-in_err-grow_known_pair-clause-kept c =
    extended-trans c.args.letters.now c.loop-place.letters c.grow_known_pair.new.letters c.loop-place.invariant.kept
    c.grow_known_pair.ensures.kept

pub loop-place-preserved : goal.loop-place-preserved
loop-place-preserved c =
    let a = c.args.letters.now in
    let b = c.loop-place.letters in
    let d : Pair = record { left = 0; right = 0 } in
    let r = next-range c.args.letters.now c.loop-place.letters c.place_leaves.new.letters c.loop-place.invariant.kept
    c.place_leaves.ensures.kept c.args.k c.loop-place.place c.pairs.result.now c.pairs-place-end.result.now d
    c.pairs.ensures c.pairs-place-end.ensures c.loop-place-test.true in
    let pair = get_or c.pairs.result.now c.loop-place.place d in
    record {
      kept = extended-trans a b c.grow_known_pair.new.letters c.loop-place.invariant.kept c.grow_known_pair.ensures.kept;
      gains = gains-next_pair a b c.grow_known_pair.new.letters [] c.loop-place.ways.items
          c.grow_known_pair.new.ways.items (leaf_ways c.args.level [] c.args.k)
          (pair_ways (exponents_of b.pres) c.args.level [] c.args.k pair.left pair.right)
          (pairs_of (exponents_of a.pres) c.args.k) c.pairs.result.now c.loop-place.place d
          (λ x. pair_ways (exponents_of a.pres) c.args.level [] c.args.k x.left x.right)
          (pairs-kept a b c.loop-place.invariant.kept c.args.k c.pairs.result.now c.pairs.ensures) r.3
          (ap (λ (p : Presented). pair_ways (exponents_of p) c.args.level [] c.args.k pair.left pair.right)
          c.loop-place.invariant.kept.0)
          c.loop-place.invariant.gains c.in_ok-grow_known_pair.ensures.gains;
    }

pub returns-clause-ways : goal.returns-clause-ways
returns-clause-ways c =
    let a = c.args.letters.now in
    let e = exponents_of a.pres in
    let f : Pair → List Grew = λ x. pair_ways e c.args.level [] c.args.k x.left x.right in
    let leaves = leaf_ways c.args.level [] c.args.k in
    let all = pairs-kept a c.place_leaves.new.letters c.place_leaves.ensures.kept c.args.k
    c.pairs-place-end.result.now c.pairs-place-end.ensures in
    subst (AreWays c.loop-place.letters c.loop-place.ways.items)
    (ap (λ (ps : List Pair). leaves ++ each f ps) (take_all c.loop-place.place (pairs_of e c.args.k)
    (omega (arith, c.loop-place-test.false, ap length all)))
    ∙ grown-pairs e c.args.level [] c.args.k c.requires.level (omega (arith, c.requires.level, c.requires.next)))
    (ways-gained a c.loop-place.letters c.loop-place.ways.items
    (leaves ++ each f (take c.loop-place.place (pairs_of e c.args.k))) c.loop-place.invariant.gains)
