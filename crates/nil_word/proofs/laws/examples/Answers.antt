-- Each clause is a lemma of Examples.
use Rattle.nil_word.proofs.Examples.{swapped, stands, is_central, stands_free}
use Rattle.nil_word.proofs.laws.examples.Goals as goal

pub returns-clause-swapped : goal.returns-clause-swapped
returns-clause-swapped c = swapped

pub returns-clause-stands : goal.returns-clause-stands
returns-clause-stands c = stands

pub returns-clause-central : goal.returns-clause-central
returns-clause-central c = is_central

pub returns-clause-free : goal.returns-clause-free
returns-clause-free c = stands_free
