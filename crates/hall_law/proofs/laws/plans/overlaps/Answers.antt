-- Each clause is a theorem of Theorems.
use Rattle.hall_law.proofs.Theorems.{ways_stand, consistent_agrees}
use Rattle.hall_law.proofs.laws.plans.overlaps.Goals as goal

pub returns-clause-first : goal.returns-clause-first
returns-clause-first c = λ rels factors i f Q ready j k a b d.
    (ways_stand rels factors i f Q ready j k a b d).0

pub returns-clause-second : goal.returns-clause-second
returns-clause-second c = λ rels factors i f Q ready j k a b d.
    (ways_stand rels factors i f Q ready j k a b d).1

pub returns-clause-agree : goal.returns-clause-agree
returns-clause-agree c = λ rels factors i f Q ready k. consistent_agrees rels factors i f Q ready k
