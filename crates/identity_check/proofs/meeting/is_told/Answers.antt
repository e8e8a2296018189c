use Rattle.std.proofs.Common.{arith}
use Rattle.identity_check.proofs.Meetings.{one_apart, two_apart, three_apart}
use Rattle.identity_check.proofs.meeting.is_told.Goals as goal

pub returns-in-1 : goal.returns-in-1
returns-in-1 c = λ true j l low below high kj kl bare.
    one_apart j l c.args.k c.args.parts.now (omega (arith, c.count.ensures.count, c.count.ensures.most))
    (omega (arith, c.count.ensures.count, c.count.ensures.most)) low kj kl (omega arith)
    (c.is_own_or_often.ensures true)

pub returns-in-2 : goal.returns-in-2
returns-in-2 c = λ true j l low below high kj kl bare.
    two_apart j l c.args.parts.now c.requires.form (omega (arith, c.count.ensures.count, c.count.ensures.most))
    (omega arith) (λ x y. c.is_entered.ensures true j l low below high x y bare)

pub returns-in_default : goal.returns-in_default
returns-in_default c = λ true j l low below high kj kl bare.
    three_apart j l c.args.parts.now c.requires.form (omega (arith, c.count.ensures.count, c.count.ensures.most))
    (omega arith)
