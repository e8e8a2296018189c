use Rattle.std.proofs.Common.{◌≡◌, take}
use Rattle.std.specs.List.{list_any}
use Rattle.dt_letters.specs.Letters.{group_of}
use Rattle.dt_letters.specs.Meeting.{same_group}
use Rattle.dt_letters.specs.Arena.{letter_in}
use Rattle.dt_trees.specs.Polynomials.{groups_over}
use Rattle.dt_trees.proofs.grouping.has_group.Given as goal

abbrev pub invariant-loop-member : goal.invariant-loop-member
invariant-loop-member l =
    l.found
    ≡ list_any (same_group (group_of (letter_in l.letters l.a)))
    (groups_over l.letters (take l.member-index l.members))
