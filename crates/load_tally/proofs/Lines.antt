-- Counts of lines, one line after another.
use Rattle.std.proofs.Common.{◌≡◌, ℕ, List, ◌∷◌, ap}
use Rattle.line_tokens.specs.Lines.{lines_of}
use Rattle.session_io.specs.Lines.{whole_lines}
use Rattle.session_io.proofs.Lines.{whole_lines-first}
use Rattle.hall_table.specs.Multiplies.{Paired}
use Rattle.query_replies.specs.Replies.{reply_of}
use Rattle.load_tally.specs.declared.counts.Tally.{Tally}
use Rattle.load_tally.specs.Answers.{answers_to}
use Rattle.load_tally.specs.Steps.{IsOneMore}
use Rattle.load_tally.proofs.Counting.{Completes, Completes-next}

module _ (c : Paired) (t whole : Tally) (rest line : List ℕ)
    (before : Completes t (answers_to c (whole_lines rest)) whole) where
  pub Completes-line : (t' : Tally) (next : List ℕ) → lines_of rest ≡ line ∷ lines_of next
      → IsOneMore t t' (reply_of c line) → Completes t' (answers_to c (whole_lines next)) whole
  Completes-line t' next cut more =
      let first = ap (answers_to c) (whole_lines-first rest line next cut) in
      Completes-next t t' whole (reply_of c line) (answers_to c (whole_lines next)) more
      (rw first at before)
