-- As for any stack, with no letters there.
use Rattle.std.proofs.Common.{◌-◌, sym, ap, subst, arith, rules, ℤ, [], map, w64, of_z, FitsSigned}
use Rattle.std.specs.Prelude.{All, OnOk}
use Rattle.std.proofs.lemmas.Int.{to_z-of_z}
use Rattle.dt_letters.specs.Allowed.{exponents_of}
use Rattle.dt_letters.specs.Listing.{each}
use Rattle.dt_letters.proofs.Different.{extended-refl}
use Rattle.dt_trees.specs.Ways.{grown_in, Gains, FitsFor, rights_of, pair_ways}
use Rattle.dt_trees.proofs.Knowing.{known-at}
use Rattle.dt_trees.proofs.Gaining.{on_ok}
use Rattle.dt_trees.proofs.Pairs.{lefts-small, gains-pair, gains-low}
use Rattle.dt_trees.proofs.from_nothing.grow_known_pair.Goals as goal

pub grow_rights-requires-clause-ways : goal.grow_rights-requires-clause-ways
grow_rights-requires-clause-ways c =
    let a = c.args.letters.now in
    (known-at a a (extended-refl a) c.args.level c.args.known.now c.requires.known c.args.p (c.args.p - c.args.level)
    c.index-known-p.result c.deref.result.now (omega (arith, c.if-q-level.false, c.requires.falls))
    (omega (arith, c.requires.next, c.if-q-level.false, c.requires.falls, c.requires.below)) c.index-known-p.is
    c.deref.ensures.value).ways

pub grow_rights-requires-clause-small : goal.grow_rights-requires-clause-small
grow_rights-requires-clause-small c =
    let a = c.args.letters.now in
    let lefts = known-at a a (extended-refl a) c.args.level c.args.known.now c.requires.known c.args.p
    (c.args.p - c.args.level) c.index-known-p.result c.deref.result.now
    (omega (arith, c.if-q-level.false, c.requires.falls))
    (omega (arith, c.requires.next, c.if-q-level.false, c.requires.falls, c.requires.below)) c.index-known-p.is
    c.deref.ensures.value in
    subst (All (FitsFor c.args.q)) (sym lefts.are)
    (lefts-small (exponents_of a.pres) c.args.level c.args.k c.args.p c.args.q [] c.requires.most
    c.requires.below (omega arith) tt)

pub returns-then-q-level-clause-gains : goal.returns-then-q-level-clause-gains
returns-then-q-level-clause-gains c =
    gains-low c.args.letters.now c.args.ways.now.items c.args.level c.args.k c.args.p c.args.q []
    (omega (arith, c.if-q-level.true))

pub returns-clause-gains : goal.returns-clause-gains
returns-clause-gains c =
    let a = c.args.letters.now in
    let d = c.grow_rights.new.letters in
    let limit = c.exponent-limit.result in
    let fits : FitsSigned w64 limit = search rules in
    let lefts = known-at a a (extended-refl a) c.args.level c.args.known.now c.requires.known c.args.p
    (c.args.p - c.args.level) c.index-known-p.result c.deref.result.now
    (omega (arith, c.if-q-level.false, c.requires.falls))
    (omega (arith, c.requires.next, c.if-q-level.false, c.requires.falls, c.requires.below)) c.index-known-p.is
    c.deref.ensures.value in
    let got : ℤ → Type 0 = λ z. Gains a c.args.ways.now.items d c.grow_rights.new.ways.items
    (each (rights_of (exponents_of a.pres) c.args.level c.args.q c.args.k z) (map (grown_in a) c.deref.result.now)) in
    on_ok c.grow_rights.result (got limit)
    (Gains a c.args.ways.now.items d c.grow_rights.new.ways.items
    (pair_ways (exponents_of a.pres) c.args.level [] c.args.k c.args.p c.args.q))
    (gains-pair a a d (extended-refl a) c.args.ways.now.items c.grow_rights.new.ways.items
    c.deref.result.now c.args.level c.args.k c.args.p c.args.q limit [] c.exponent-limit.ensures
    (λ e. c.if-limit-eq0.false (ap (of_z w64) e)) lefts)
    (subst (λ (z : ℤ). OnOk c.grow_rights.result (got z)) (to_z-of_z w64 limit fits) c.grow_rights.ensures.gains)
