-- One answer more.
--   IsWithin t        no count is above that of the queries, and the sum is a remainder
--   IsOneMore t t' a  t' are the counts t and one answer more
-- t tally · a answer
use Rattle.std.specs.Prelude.{◌≡◌, ◌+◌, ◌<◌, ◌≤◌, pos, ◌+ℤ◌, [], ◌∷◌, count_by, Option}
use Rattle.group_eval.specs.declared.reply.Reply.{Reply}
use Rattle.load_tally.specs.declared.counts.Tally.{Tally}
use Rattle.load_tally.specs.Weights.{modulus, remainder}
use Rattle.load_tally.specs.Counts.{is_vector, is_yes, is_no, is_wide, weight}

pub record IsWithin (t : Tally) : Type 0 where
  pub vectors : t.vectors ≤ t.queries
  pub yes : t.yes ≤ t.queries
  pub no : t.no ≤ t.queries
  pub wide : t.wide ≤ t.queries
  pub sum : t.sum < modulus

pub record IsOneMore (t t' : Tally) (a : Option Reply) : Type 0 where
  pub queries : t'.queries ≡ t.queries + 1
  pub vectors : t'.vectors ≡ t.vectors + count_by is_vector (a ∷ [])
  pub yes : t'.yes ≡ t.yes + count_by is_yes (a ∷ [])
  pub no : t'.no ≡ t.no + count_by is_no (a ∷ [])
  pub wide : t'.wide ≡ t.wide + count_by is_wide (a ∷ [])
  pub sum : t'.sum ≡ remainder (pos t.sum +ℤ weight a)
