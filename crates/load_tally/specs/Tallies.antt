-- What a load of query lines gets, counted.
--   counts answers        the counts of answers
--   IsTally c lines t     t has the counts of the answers to the lines
--   tally_of c lines      the counts that are computed
--   tally_text t          the counts as a text
-- c a presentation with its table · t tally
use Rattle.std.specs.Prelude.{◌≡◌, ℕ, List, ◌++◌, length, count_by, codes, Option}
use Rattle.std.specs.Fmt.{decimal}
use Rattle.hall_table.specs.Multiplies.{Paired}
use Rattle.group_eval.specs.declared.reply.Reply.{Reply}
use Rattle.load_tally.specs.declared.counts.Tally.{Tally}
use Rattle.load_tally.specs.Answers.{AreAnswersTo, answers_to}
use Rattle.load_tally.specs.Weights.{remainder}
use Rattle.load_tally.specs.Counts.{is_vector, is_yes, is_no, is_wide, sum_of}

abbrev pub counts : List (Option Reply) → Tally
counts answers = record {
  queries = length answers;
  vectors = count_by is_vector answers;
  yes = count_by is_yes answers;
  no = count_by is_no answers;
  wide = count_by is_wide answers;
  sum = remainder (sum_of answers);
}

pub record IsTally (c : Paired) (lines : List (List ℕ)) (t : Tally) : Type 0 where
  pub answers : List (Option Reply)
  pub are : AreAnswersTo c lines answers
  pub counted : t ≡ counts answers

abbrev pub tally_of : Paired → List (List ℕ) → Tally
tally_of c lines = counts (answers_to c lines)

abbrev pub tally_text : Tally → List ℕ
tally_text t =
    codes "queries " ++ decimal t.queries ++ codes " vectors " ++ decimal t.vectors
    ++ codes " yes " ++ decimal t.yes ++ codes " no " ++ decimal t.no
    ++ codes " wide " ++ decimal t.wide ++ codes " sum " ++ decimal t.sum
