use Rattle.hall_compile.proofs.Passages.{accepted}
use Rattle.hall_compile.proofs.passing.choose.Goals as goal

pub returns-in-Some-clause-chooses : goal.returns-in-Some-clause-chooses
returns-in-Some-clause-chooses g c =
    accepted c.args.above.now c.args.pres.now c.args.i c.args.asked.now.items
    c.ask_all.new.asked.items c.in-Some.accepted c.in_ok-accepted.field-0 c.requires.pres
    c.in-Some.is c.in_ok-accepted.ensures.asks
