-- Which replies by the collector are right, in words of the group.
--   IsQuery p line q           the line is within the limit, and without a carriage return at its
--                              end it is in the grammar, with this query
--   IsFaulty p line f          it is within the limit, and its first fault is this one
--   HasTwo q                   the query is over two expressions
--   IsElement p line e         the line asks for the element of this expression, whose word isn't
--                              too long
--   IsVectorOf p w v           the word is collected to this vector, which stands for it
--   IsCollected p line text    the text is the reply to the line
-- p a presentation · q query · f fault · e expression · w word · v vector
use Rattle.std.specs.Prelude.{◌≡◌, ℕ, ◌<◌, ◌≤◌, ℤ, List, [], length, Some, None, codes}
use Rattle.std.specs.Str.Lines.{strip_carriage_return}
use Rattle.nil_word.specs.declared.expr.Expr.{Expr}
use Rattle.nil_word.specs.declared.letter.Letter.{Letter}
use Rattle.nil_word.specs.declared.query.Query.{Query}
use Rattle.nil_word.specs.declared.query.Query.TheVariants as query
use Rattle.nil_word.specs.Words.{IsVector}
use Rattle.nil_word.specs.Congruence.{StandsFor}
use Rattle.nil_word.specs.Expressions.{unrolled}
use Rattle.nil_pres.specs.Presented.{Presented}
use Rattle.nil_pres.specs.Relations.{relations_of}
use Rattle.left_collect.specs.Collected.{collection}
use Rattle.word_text.specs.declared.query_fault.QueryFault.{QueryFault}
use Rattle.word_text.specs.FaultTexts.{fault_text}
use Rattle.word_text.specs.Lines.{ReadsAs, FailsWith}
use Rattle.word_text.specs.Vectors.{text_of_entries}
use Rattle.session_io.specs.Limits.{line_limit}
use Rattle.session_io.specs.Lines.{as_line}
use Rattle.collect_text.specs.Limits.{letter_limit}

pub record IsQuery (p : Presented) (line : List ℕ) (q : Query) : Type 0 where
  pub within : length line ≤ line_limit
  pub reads : ReadsAs p.names (strip_carriage_return line) q

pub record IsFaulty (p : Presented) (line : List ℕ) (f : QueryFault) : Type 0 where
  pub within : length line ≤ line_limit
  pub fails : FailsWith p.names (strip_carriage_return line) f

abbrev pub HasTwo : Query → Type 0
HasTwo (query.Value e) = ⊥
HasTwo (query.Same u v) = Unit {0}
HasTwo (query.Solve u v) = Unit {0}
HasTwo (query.Quotient u v) = Unit {0}
HasTwo query.Blank = ⊥

pub record IsElement (p : Presented) (line : List ℕ) (e : Expr) : Type 0 where
  pub asks : IsQuery p line (query.Value e)
  pub few : length (unrolled e) ≤ letter_limit

pub record IsVectorOf (p : Presented) (w : List Letter) (v : List ℤ) : Type 0 where
  pub collects : collection (relations_of p) w ≡ Some v
  pub vector : IsVector (length p.names) 1 v
  pub stands : StandsFor (relations_of p) v w

pub data IsCollected (p : Presented) (line : List ℕ) : List ℕ → Type 0 where
  long : line_limit < length line → IsCollected p line (as_line (codes "long"))
  faulty : (f : QueryFault) → IsFaulty p line f → IsCollected p line (as_line (fault_text f))
  blank : IsQuery p line query.Blank → IsCollected p line []
  -- a comparison, an equation or a quotient
  kind : (q : Query) → IsQuery p line q → HasTwo q → IsCollected p line (as_line (codes "kind"))
  long_word : (e : Expr) → IsQuery p line (query.Value e) → letter_limit < length (unrolled e)
      → IsCollected p line (as_line (codes "longword"))
  -- more than 2^24 letters would be appended
  steps : (e : Expr) → IsElement p line e → collection (relations_of p) (unrolled e) ≡ None
      → IsCollected p line (as_line (codes "steps"))
  vector : (e : Expr) (v : List ℤ) → IsElement p line e → IsVectorOf p (unrolled e) v
      → IsCollected p line (as_line (text_of_entries v))
