-- By what is kept of the vector, whose copy the letter is appended to.
use Rattle.std.proofs.Common.{◌-◌, arith}
use Rattle.left_collect.proofs.Kept.{letter_kept}
use Rattle.left_collect.proofs.collecting.append.Goals as goal

pub returns-in-Ok-clause-below : goal.returns-in-Ok-clause-below
returns-in-Ok-clause-below c =
    (letter_kept c.args.pres.now c.count-count.ensures.lawful c.args.letter.number c.requires.least
    (16777216 - c.args.count.now) c.args.v.now c.in_ok-vector.vector c.args.letter
    c.append_letter.new.v c.append_letter.new.left c.in_ok-vector.ensures c.requires.entries
    (omega arith) c.requires.most c.in-Ok.ensures.ok).0

pub returns-in-Ok-clause-congruent : goal.returns-in-Ok-clause-congruent
returns-in-Ok-clause-congruent c = λ i low high.
    (letter_kept c.args.pres.now c.count-count.ensures.lawful i low
    (16777216 - c.args.count.now) c.args.v.now c.in_ok-vector.vector c.args.letter
    c.append_letter.new.v c.append_letter.new.left c.in_ok-vector.ensures c.requires.entries
    high c.requires.most c.in-Ok.ensures.ok).1
