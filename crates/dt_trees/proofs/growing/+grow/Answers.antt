-- Growing by types, pair by pair and left letter by left letter.
use Rattle.std.proofs.Common.{◌≡◌, ◌^◌, ◌-◌, ◌∙◌, List, [], ◌++◌, length, get_or, take, map, sym, ap, subst, arith, rules, ℤ, w64, to_z, of_z, FitsSigned}
use Rattle.std.specs.Prelude.{All, OnOk}
use Rattle.std.proofs.lemmas.Int.{to_z-of_z}
use Rattle.std.proofs.lemmas.List.{take_all}
use Rattle.dt_letters.specs.Allowed.{exponents_of}
use Rattle.dt_letters.specs.Growth.{AreBelow, most_steps}
use Rattle.dt_letters.specs.declared.pair.Pair.{Pair}
use Rattle.dt_letters.specs.Pairs.{pairs_of}
use Rattle.dt_letters.specs.Listing.{Grew, each, joined}
use Rattle.dt_letters.proofs.Different.{extended-trans}
use Rattle.dt_trees.specs.declared.grown.Grown.{Grown}
use Rattle.dt_trees.specs.Ways.{stack_in, grown_in, IsWay, Gains, AreWays, FitsFor, IsSmall, leaf_ways, rights_of, pair_ways}
use Rattle.dt_trees.proofs.Low.{grown-low}
use Rattle.dt_trees.proofs.Small.{all_below-more}
use Rattle.dt_trees.proofs.Stacks.{trees-kept, small-kept}
use Rattle.dt_trees.proofs.Gaining.{gains-before, ways-gained, on_ok}
use Rattle.dt_trees.proofs.Joining.{way-at, grew-at, gains-each-next}
use Rattle.dt_trees.proofs.Pairs.{pushed-trees, pushed-stack, rights-small, lefts-small, half-small, rights-same, gains-pair, gains-low, pair-kept}
use Rattle.dt_trees.proofs.Visited.{next-range, pairs-kept, grown-pairs, gains-next_pair}
use Rattle.dt_trees.proofs.growing.+grow.Goals as goal

pub grow-returns-then-k-level-clause-ways : goal.grow-returns-then-k-level-clause-ways
grow-returns-then-k-level-clause-ways t c =
    let a = c.args.letters.now in
    let none : map (grown_in a) c.new-ways.result.items ≡ [] =
    ap (map (grown_in a)) c.new-ways.ensures.items in
    record {
      ways = subst (All (IsWay a)) (sym c.new-ways.ensures.items) (λ i d h. absurd (omega (arith, h)));
      are = none ∙ sym (grown-low (exponents_of a.pres) c.args.level c.args.k (stack_in a c.args.stack.now)
          c.args.k (omega (arith, c.if-k-level.true)));
    }

pub grow-place_leaves-requires-clause-small : goal.grow-place_leaves-requires-clause-small
grow-place_leaves-requires-clause-small t c =
    all_below-more (2 ^ 63 - most_steps c.args.k) (2 ^ 63) (stack_in c.args.letters.now c.args.stack.now)
    (omega arith) c.requires.small

pub grow-grow_pair-requires : goal.grow-grow_pair-requires
grow-grow_pair-requires t c =
    let a = c.args.letters.now in
    let b = c.loop-place.letters in
    let d : Pair = record { left = 0; right = 0 } in
    let r = next-range a b c.place_leaves.new.letters c.loop-place.invariant.kept c.place_leaves.ensures.kept c.args.k
    c.loop-place.place c.pairs.result.now c.pairs-place-end.result.now d c.pairs.ensures c.pairs-place-end.ensures
    c.loop-place-test.true in (
      omega (arith, r.2),
      (
        c.requires.level,
        (
          r.0,
          (
            r.1,
            (
              r.2,
              (
                c.requires.most,
                (
                  trees-kept a b c.loop-place.invariant.kept c.args.stack.now c.requires.trees,
                  small-kept (2 ^ 63 - most_steps c.args.k) a b c.loop-place.invariant.kept c.args.stack.now
                      c.requires.trees c.requires.small,
                ),
              ),
            ),
          ),
        ),
      ),
    )

pub grow-returns-in_err-grow_pair-clause-kept : goal.grow-returns-in_err-grow_pair-clause-kept
grow-returns-in_err-grow_pair-clause-kept t c =
    extended-trans c.args.letters.now c.loop-place.letters c.grow_pair.new.letters c.loop-place.invariant.kept
    c.grow_pair.ensures.kept

pub grow-loop-place-preserved : goal.grow-loop-place-preserved
grow-loop-place-preserved t c =
    let a = c.args.letters.now in
    let b = c.loop-place.letters in
    let ts = stack_in a c.args.stack.now in
    let d : Pair = record { left = 0; right = 0 } in
    let pair = get_or c.pairs.result.now c.loop-place.place d in
    let r = next-range a b c.place_leaves.new.letters c.loop-place.invariant.kept c.place_leaves.ensures.kept c.args.k
    c.loop-place.place c.pairs.result.now c.pairs-place-end.result.now d c.pairs.ensures c.pairs-place-end.ensures
    c.loop-place-test.true in
    record {
      kept = extended-trans a b c.grow_pair.new.letters c.loop-place.invariant.kept c.grow_pair.ensures.kept;
      gains = gains-next_pair a b c.grow_pair.new.letters [] c.loop-place.ways.items c.grow_pair.new.ways.items
          (leaf_ways c.args.level ts c.args.k)
          (pair_ways (exponents_of b.pres) c.args.level (stack_in b c.args.stack.now) c.args.k pair.left pair.right)
          (pairs_of (exponents_of a.pres) c.args.k) c.pairs.result.now c.loop-place.place d
          (λ x. pair_ways (exponents_of a.pres) c.args.level ts c.args.k x.left x.right)
          (pairs-kept a b c.loop-place.invariant.kept c.args.k c.pairs.result.now c.pairs.ensures) r.3
          (pair-kept a b c.loop-place.invariant.kept c.args.level c.args.k pair.left pair.right c.args.stack.now
          c.requires.trees)
          c.loop-place.invariant.gains c.in_ok-grow_pair.ensures.gains;
    }

pub grow-returns-clause-ways : goal.grow-returns-clause-ways
grow-returns-clause-ways t c =
    let a = c.args.letters.now in
    let e = exponents_of a.pres in
    let ts = stack_in a c.args.stack.now in
    let f : Pair → List Grew = λ x. pair_ways e c.args.level ts c.args.k x.left x.right in
    let leaves = leaf_ways c.args.level ts c.args.k in
    let all = pairs-kept a c.place_leaves.new.letters c.place_leaves.ensures.kept c.args.k
    c.pairs-place-end.result.now c.pairs-place-end.ensures in
    subst (AreWays c.loop-place.letters c.loop-place.ways.items)
    (ap (λ (ps : List Pair). leaves ++ each f ps) (take_all c.loop-place.place (pairs_of e c.args.k)
    (omega (arith, c.loop-place-test.false, ap length all)))
    ∙ grown-pairs e c.args.level ts c.args.k c.requires.level c.requires.least)
    (ways-gained a c.loop-place.letters c.loop-place.ways.items
    (leaves ++ each f (take c.loop-place.place (pairs_of e c.args.k))) c.loop-place.invariant.gains)

pub grow_pair-returns-then-q-level-clause-gains : goal.grow_pair-returns-then-q-level-clause-gains
grow_pair-returns-then-q-level-clause-gains t c =
    gains-low c.args.letters.now c.args.ways.now.items c.args.level c.args.k c.args.p c.args.q
    (stack_in c.args.letters.now c.args.stack.now) (omega (arith, c.if-q-level.true))

pub grow_pair-grow-requires : goal.grow_pair-grow-requires
grow_pair-grow-requires t c = (
  omega arith,
  (
    c.requires.level,
    (
      omega arith,
      (
        omega arith,
        (
          c.requires.trees,
          half-small c.args.k c.args.p (stack_in c.args.letters.now c.args.stack.now) (omega arith)
              c.requires.small,
        ),
      ),
    ),
  ),
)

pub grow_pair-grow_rights-requires : goal.grow_pair-grow_rights-requires
grow_pair-grow_rights-requires t c = (
  omega arith,
  (
    c.requires.level,
    (
      c.requires.least,
      (
        omega arith,
        (
          c.requires.most,
          (
            subst (All (IsWay c.grow.new.letters)) (sym c.deref.ensures.value) c.in_ok-lefts.ensures.ways.ways,
            subst (λ (ls : List Grown). All (FitsFor c.args.q) (map (grown_in c.grow.new.letters) ls))
                (sym c.deref.ensures.value)
                (subst (All (FitsFor c.args.q)) (sym c.in_ok-lefts.ensures.ways.are)
                (lefts-small (exponents_of c.args.letters.now.pres) c.args.level c.args.k c.args.p c.args.q
                (stack_in c.args.letters.now c.args.stack.now) c.requires.most c.requires.below (omega arith)
                c.requires.small)),
          ),
        ),
      ),
    ),
  ),
)

pub grow_pair-returns-clause-gains : goal.grow_pair-returns-clause-gains
grow_pair-returns-clause-gains t c =
    let a = c.args.letters.now in
    let b = c.grow.new.letters in
    let d = c.grow_rights.new.letters in
    let limit = c.exponent-limit.result in
    let fits : FitsSigned w64 limit = search rules in
    let got : ℤ → List Grown → Type 0 = λ z ls. Gains b c.args.ways.now.items d c.grow_rights.new.ways.items
    (each (rights_of (exponents_of b.pres) c.args.level c.args.q c.args.k z) (map (grown_in b) ls)) in
    on_ok c.grow_rights.result (got limit c.in_ok-lefts.lefts.items)
    (Gains a c.args.ways.now.items d c.grow_rights.new.ways.items
    (pair_ways (exponents_of a.pres) c.args.level (stack_in a c.args.stack.now) c.args.k c.args.p c.args.q))
    (gains-pair a b d c.grow.ensures.kept c.args.ways.now.items c.grow_rights.new.ways.items
    c.in_ok-lefts.lefts.items c.args.level c.args.k c.args.p c.args.q limit
    (stack_in a c.args.stack.now) c.exponent-limit.ensures
    (λ e. c.if-limit-eq0.false (ap (of_z w64) e)) c.in_ok-lefts.ensures.ways)
    (subst (λ (z : ℤ). OnOk c.grow_rights.result (got z c.in_ok-lefts.lefts.items)) (to_z-of_z w64 limit fits)
    (subst (λ (ls : List Grown). OnOk c.grow_rights.result (got (to_z w64 (of_z w64 limit)) ls))
    c.deref.ensures.value c.grow_rights.ensures.gains))

pub grow_rights-grow-requires : goal.grow_rights-grow-requires
grow_rights-grow-requires t c =
    let a = c.args.letters.now in
    let b = c.loop-left.letters in
    let i = c.loop-left.left-index in
    let left = c.left-item.result in
    let w = way-at a c.args.lefts.now i left c.requires.ways (omega arith) c.left-item.is in
    let small = grew-at (FitsFor c.args.q) a c.args.lefts.now i left c.requires.small (omega arith) c.left-item.is in (
      omega arith,
      (
        c.requires.level,
        (
          c.requires.least,
          (
            omega arith,
            (
              pushed-trees a b c.loop-left.invariant.kept left w c.in_ok-list.list.items c.deref.result.now
                  c.in_ok-list.ensures c.deref.ensures.value,
              subst (AreBelow (2 ^ 63 - most_steps c.args.q))
                  (sym (pushed-stack a b c.loop-left.invariant.kept left w c.in_ok-list.list.items
                  c.deref.result.now c.in_ok-list.ensures c.deref.ensures.value)) small,
            ),
          ),
        ),
      ),
    )

pub grow_rights-returns-in_err-rights-clause-kept : goal.grow_rights-returns-in_err-rights-clause-kept
grow_rights-returns-in_err-rights-clause-kept t c =
    extended-trans c.args.letters.now c.loop-left.letters c.grow.new.letters c.loop-left.invariant.kept
    c.grow.ensures.kept

pub grow_rights-join_all-requires-clause-small : goal.grow_rights-join_all-requires-clause-small
grow_rights-join_all-requires-clause-small t c =
    let a = c.args.letters.now in
    let b = c.loop-left.letters in
    let i = c.loop-left.left-index in
    let left = c.left-item.result in
    let w = way-at a c.args.lefts.now i left c.requires.ways (omega arith) c.left-item.is in
    let small = grew-at (FitsFor c.args.q) a c.args.lefts.now i left c.requires.small (omega arith) c.left-item.is in
    subst (All IsSmall) (sym c.in_ok-rights.ensures.ways.are)
    (rights-small (exponents_of b.pres) c.args.level c.args.q (stack_in b c.deref.result.now) (omega arith)
    (subst (AreBelow (2 ^ 63 - most_steps c.args.q))
    (sym (pushed-stack a b c.loop-left.invariant.kept left w c.in_ok-list.list.items
    c.deref.result.now c.in_ok-list.ensures c.deref.ensures.value)) small))

pub grow_rights-returns-in_err-join_all-clause-kept : goal.grow_rights-returns-in_err-join_all-clause-kept
grow_rights-returns-in_err-join_all-clause-kept t c =
    extended-trans c.args.letters.now c.loop-left.letters c.join_all.new.letters c.loop-left.invariant.kept
    (extended-trans c.loop-left.letters c.grow.new.letters c.join_all.new.letters c.grow.ensures.kept
    c.join_all.ensures.kept)

pub grow_rights-loop-left-preserved : goal.grow_rights-loop-left-preserved
grow_rights-loop-left-preserved t c =
    let a = c.args.letters.now in
    let b = c.loop-left.letters in
    let d = c.grow.new.letters in
    let z = to_z w64 (of_z w64 c.args.limit) in
    let i = c.loop-left.left-index in
    let left = c.left-item.result in
    let w = way-at a c.args.lefts.now i left c.requires.ways (omega arith) c.left-item.is in
    let more = each (λ r. joined (exponents_of d.pres) c.args.k z r.tree r.list)
    (map (grown_in d) c.in_ok-rights.rights.items) in
    record {
      kept = extended-trans a b c.join_all.new.letters c.loop-left.invariant.kept
          (extended-trans b d c.join_all.new.letters c.grow.ensures.kept c.join_all.ensures.kept);
      gains = gains-each-next a b c.join_all.new.letters c.args.ways.now.items c.loop-left.ways.items
          c.join_all.new.ways.items c.args.lefts.now i left
          (rights_of (exponents_of a.pres) c.args.level c.args.q c.args.k z) more (omega arith) c.left-item.is
          (rights-same a b d c.loop-left.invariant.kept c.grow.ensures.kept c.args.level c.args.q c.args.k
          z c.in_ok-rights.rights.items c.deref.result.now (grown_in a left)
          (pushed-stack a b c.loop-left.invariant.kept left w c.in_ok-list.list.items
          c.deref.result.now c.in_ok-list.ensures c.deref.ensures.value)
          c.in_ok-rights.ensures.ways)
          c.loop-left.invariant.gains
          (gains-before b d c.join_all.new.letters c.loop-left.ways.items c.join_all.new.ways.items more
          c.grow.ensures.kept c.in_ok-join_all.ensures.gains);
    }

pub grow_rights-returns-clause-gains : goal.grow_rights-returns-clause-gains
grow_rights-returns-clause-gains t c =
    let a = c.args.letters.now in
    let limit = c.args.limit in
    let fits : FitsSigned w64 limit = search rules in
    let got : ℤ → List Grown → Type 0 = λ z done. Gains a c.args.ways.now.items c.loop-left.letters c.loop-left.ways.items
    (each (rights_of (exponents_of a.pres) c.args.level c.args.q c.args.k z) (map (grown_in a) done)) in
    subst (λ (z : ℤ). got z c.args.lefts.now) (to_z-of_z w64 limit fits)
    (subst (got (to_z w64 (of_z w64 limit)))
    (take_all c.loop-left.left-index c.args.lefts.now c.loop-left-test.false) c.loop-left.invariant.gains)
