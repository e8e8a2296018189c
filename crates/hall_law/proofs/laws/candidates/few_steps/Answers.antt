-- By the lemmas of Passing and Drawing.
use Rattle.std.proofs.Common.{Contains}
use Rattle.hall_law.proofs.Vectors.{at_of}
use Rattle.hall_law.proofs.Loops.{stays_unit}
use Rattle.hall_law.proofs.Candidates.{mul, origin, loop}
use Rattle.hall_law.proofs.Passing.{powers_nuclear, words_pass, multiplied_is, multiplied_stays, added_steps, last_adds}
use Rattle.hall_law.proofs.Drawing.{two_of_three, left_steps, derived_steps, drawn_steps, steps_to_table, table_to_steps}
use Rattle.hall_law.specs.Nucleus.{DoesStep}
use Rattle.hall_law.proofs.laws.candidates.few_steps.Goals as goal

pub returns-clause-two_of_three : goal.returns-clause-two_of_three
returns-clause-two_of_three g = λ n level f c. two_of_three c

pub returns-clause-powers : goal.returns-clause-powers
returns-clause-powers g = λ n level f c. powers_nuclear c

pub returns-clause-words : goal.returns-clause-words
returns-clause-words g = λ n level f c. words_pass c

pub returns-clause-factors : goal.returns-clause-factors
returns-clause-factors g = λ n level f c ss within steps. (
  λ x h. multiplied_is c ss (x, at_of n level x h) within steps,
  multiplied_stays c ss (origin c) within steps (stays_unit (mul c) (origin c) (loop c)),
)

pub returns-clause-added : goal.returns-clause-added
returns-clause-added g = λ n level f c. added_steps c

pub returns-clause-last : goal.returns-clause-last
returns-clause-last g = λ n level f c. added_steps c n (last_adds c)

pub returns-clause-left_over : goal.returns-clause-left_over
returns-clause-left_over g = λ n level f c v m low high h s one others.
    left_steps c (v, at_of n level v h) m low high s one others

pub returns-clause-derived : goal.returns-clause-derived
returns-clause-derived g = λ n level f c m low high d.
    derived_steps c (DoesStep n level f) (λ k a b s. s) m d low high

pub returns-clause-drawn : goal.returns-clause-drawn
returns-clause-drawn g = λ rels level f c relations m low high d.
    drawn_steps rels level f c relations (DoesStep rels.count level f) (λ k a b s. s) m d low high

pub returns-clause-all : goal.returns-clause-all
returns-clause-all g = λ rels level f c relations. steps_to_table rels level f c relations

pub returns-clause-needed : goal.returns-clause-needed
returns-clause-needed g = table_to_steps

pub returns-clause-table : goal.returns-clause-table
returns-clause-table g = λ rels level f walked c relations steps drawn.
    steps_to_table rels level f c relations
    (λ m low high. drawn_steps rels level f c relations (Contains walked) steps m (drawn m low high)
    low high)
