-- The left letter is the last of the list, and the node with the number 1 is a member of its group.
use Rattle.std.proofs.Common.{◌^◌, sym, ◌∙◌, subst, ℤ}
use Rattle.std.proofs.lemmas.Int.{to_z-of_z}
use mir.Syntax.{w64}
use Rattle.std.specs.Prelude.{All, OnOk, Some}
use Rattle.std.proofs.lemmas.List.Elements.{All-pop}
use Rattle.dt_letters.specs.Letters.{group_of}
use Rattle.dt_letters.specs.Allowed.{exponents_of}
use Rattle.dt_letters.specs.Listing.{joined, places}
use Rattle.dt_letters.specs.Arena.{letter_in, IsTreeOf}
use Rattle.dt_letters.proofs.Different.{extended-trans, extended-refl}
use Rattle.dt_trees.specs.Ways.{stack_in, Gains}
use Rattle.dt_trees.proofs.Stacks.{trees-kept}
use Rattle.dt_trees.proofs.Gaining.{on_ok}
use Rattle.dt_trees.proofs.Joining.{gains-refused, gains-node, small-popped}
use Rattle.dt_trees.proofs.growing.join.Goals as goal

pub returns-then-not-may_join-clause-gains : goal.returns-then-not-may_join-clause-gains
returns-then-not-may_join-clause-gains c =
    gains-refused c.args.letters.now c.args.ways.now.items (exponents_of c.args.letters.now.pres) c.args.k
    c.args.limit (letter_in c.args.letters.now c.args.right.tree) c.args.right.list.items c.pop.new.self.items
    c.in-Some.left c.in-Some.ensures.items (sym (c.may_join.ensures c.args.k) ∙ c.if-not-may_join.true)
    (extended-refl c.args.letters.now)

pub place-requires-clause-trees : goal.place-requires-clause-trees
place-requires-clause-trees c =
    let p = All-pop (IsTreeOf c.args.letters.now) c.args.right.list.items c.pop.new.self.items
    (Some c.in-Some.left) c.in-Some.ensures.items c.requires.way.list in
    subst (All (IsTreeOf c.put.new.self)) (sym c.deref.ensures.value)
    (trees-kept c.args.letters.now c.put.new.self c.put.ensures.kept c.pop.new.self.items p.0)

pub place-requires-clause-small : goal.place-requires-clause-small
place-requires-clause-small c =
    let p = All-pop (IsTreeOf c.args.letters.now) c.args.right.list.items c.pop.new.self.items
    (Some c.in-Some.left) c.in-Some.ensures.items c.requires.way.list in
    small-popped (2 ^ 63) c.args.letters.now c.put.new.self c.put.ensures.kept c.args.right.list.items
    c.pop.new.self.items c.deref.result.now c.in-Some.left c.in-Some.ensures.items c.deref.ensures.value
    p.0 c.requires.small

pub returns-clause-kept : goal.returns-clause-kept
returns-clause-kept c =
    extended-trans c.args.letters.now c.put.new.self c.place.new.letters c.put.ensures.kept
    c.place.ensures.kept

pub returns-clause-gains : goal.returns-clause-gains
returns-clause-gains c =
    let a = c.args.letters.now in
    let b = c.put.new.self in
    let d = c.place.new.letters in
    let p = All-pop (IsTreeOf a) c.args.right.list.items c.pop.new.self.items
    (Some c.in-Some.left) c.in-Some.ensures.items c.requires.way.list in
    on_ok c.place.result
    (Gains b c.args.ways.now.items d c.place.new.ways.items
    (places (group_of (letter_in b c.in_ok-member.member)) c.args.limit (stack_in b c.deref.result.now)))
    (Gains a c.args.ways.now.items d c.place.new.ways.items
    (joined (exponents_of a.pres) c.args.k c.args.limit (letter_in a c.args.right.tree)
    (stack_in a c.args.right.list.items)))
    (gains-node a b d c.args.ways.now.items c.place.new.ways.items c.put.ensures.kept (exponents_of a.pres)
    c.args.k c.args.limit c.args.right.list.items c.pop.new.self.items c.deref.result.now c.in-Some.left
    c.args.right.tree c.in_ok-member.member c.in-Some.ensures.items c.deref.ensures.value p.0
    c.in_ok-member.ensures.letter.1
    (sym (c.may_join.ensures c.args.k) ∙ c.if-not-may_join.false))
    (subst (λ (z : ℤ). OnOk c.place.result
    (Gains b c.args.ways.now.items d c.place.new.ways.items
    (places (group_of (letter_in b c.in_ok-member.member)) z (stack_in b c.deref.result.now))))
    (to_z-of_z w64 c.args.limit c.ranges.limit) c.place.ensures.gains)
