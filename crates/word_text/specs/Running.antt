-- What the reader makes of all tokens.
--   ended_by h e, ended_with h e   the query of a line that ends with an expression; None where it
--                    may not end
--   whole_at fs n    the expression that may end the line, or None
--   ended_at h fs n, ended s       the query of a line that ends here, or None
--   bound o f        f of what o has, or None
--   reached s ks     the state behind tokens, or None
--   accepted s ks    the query of a line whose rest these tokens are, or None
-- h head of the line · fs open brackets · n where the reader stands · ks tokens
use Rattle.std.specs.Prelude.{List, [], ◌∷◌, ◌++◌, Option, Some, None}
use Rattle.nil_word.specs.declared.expr.Expr.{Expr}
use Rattle.nil_word.specs.declared.query.Query.{Query}
use Rattle.nil_word.specs.declared.query.Query.TheVariants as query
use Rattle.word_text.specs.Products.{product_of}
use Rattle.line_tokens.specs.declared.kind.Kind.{Kind}
use Rattle.word_text.specs.declared.frame.Frame.{Frame}
use Rattle.word_text.specs.declared.head.Head.{Head}
use Rattle.word_text.specs.declared.head.Head.TheVariants as head
use Rattle.word_text.specs.declared.now.Now.{Now}
use Rattle.word_text.specs.declared.now.Now.TheVariants as now
use Rattle.word_text.specs.State.{State}
use Rattle.word_text.specs.Machine.{next}

abbrev pub ended_by : Head → Expr → Option Query
ended_by head.Value e = Some (query.Value e)
ended_by (head.Same u) e = Some (query.Same u e)
ended_by head.Solve e = None
ended_by (head.SolveAfter u) e = Some (query.Solve u e)
ended_by head.Quotient e = None
ended_by (head.QuotientAfter u) e = Some (query.Quotient u e)

abbrev pub whole_at : List Frame → Now → Option Expr
whole_at [] (now.After done item raised) = Some (product_of (done ++ item ∷ []))
whole_at _ _ = None

abbrev pub ended_with : Head → Option Expr → Option Query
ended_with h None = None
ended_with h (Some e) = ended_by h e

abbrev pub ended_at : Head → List Frame → Now → Option Query
ended_at h fs n = ended_with h (whole_at fs n)

abbrev pub ended : State → Option Query
ended s = ended_at s.head s.frames s.now

abbrev pub bound : {A B : Type 0} → Option A → (A → Option B) → Option B
bound None f = None
bound (Some a) f = f a

abbrev pub reached : State → List Kind → Option State
reached s [] = Some s
reached s (k ∷ ks) = bound (next s k) (λ t. reached t ks)

abbrev pub accepted : State → List Kind → Option Query
accepted s ks = bound (reached s ks) ended
