-- What is behind the bytes that are held of a long line changes no reply.
--   reply-held   the reply to the bytes that are held of a line is the line's: a proof for the law of
--                `Replier`
use Rattle.std.proofs.Common.{◌≡◌, ℕ, List, codes}
use Rattle.std.specs.Str.Lines.{strip_carriage_return}
use Rattle.word_text.specs.Reading.{reading}
use Rattle.hall_table.specs.Multiplies.{Paired}
use Rattle.session_io.specs.Lines.{as_line}
use Rattle.session_io.specs.Holding.{held}
use Rattle.session_io.proofs.Holding.{cond-held}
use Rattle.query_replies.specs.Replies.{reply_to, reply}

pub reply-held : (c : Paired) (line : List ℕ) → reply c (held line) ≡ reply c line
reply-held c line =
    cond-held (as_line (codes "long"))
    (λ (l : List ℕ). reply_to c (reading c.pres.names (strip_carriage_return l))) line
