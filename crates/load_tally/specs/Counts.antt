-- What is counted of answers.
--   is_vector a       the answer is a vector
--   is_yes a          it is yes
--   is_no a           it is no
--   is_wide a         it is wide
--   weight a          the weighted entries of a vector, else 0
--   sum_of answers    the weights of the answers, added
-- a answer · v vector
use Rattle.std.specs.Prelude.{ℤ, pos, ◌+ℤ◌, Bool, true, false, List, [], ◌∷◌, Option, Some}
use Rattle.group_eval.specs.declared.reply.Reply.{Reply}
use Rattle.group_eval.specs.declared.reply.Reply.TheVariants as reply
use Rattle.load_tally.specs.Weights.{weighted}

abbrev pub is_vector : Option Reply → Bool
is_vector (Some (reply.Vector v)) = true
is_vector _ = false

abbrev pub is_yes : Option Reply → Bool
is_yes (Some reply.Yes) = true
is_yes _ = false

abbrev pub is_no : Option Reply → Bool
is_no (Some reply.No) = true
is_no _ = false

abbrev pub is_wide : Option Reply → Bool
is_wide (Some reply.Wide) = true
is_wide _ = false

abbrev pub weight : Option Reply → ℤ
weight (Some (reply.Vector v)) = weighted v
weight _ = pos 0

abbrev pub sum_of : List (Option Reply) → ℤ
sum_of [] = pos 0
sum_of (a ∷ answers) = weight a +ℤ sum_of answers
