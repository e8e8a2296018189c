-- Replies by vectors are equal exactly if the words are congruent.
--   IsVectorReply p e text   the text is that of the one vector that stands for the expression
use Rattle.std.proofs.Common.{◌≡◌, ◌↔◌, ℕ, ℤ, List, ◌∷◌, [], Ok, Err, length, sym, ◌∙◌, ap, subst, refl, arith}
use Rattle.std.specs.Str.Lines.{strip_carriage_return}
use Rattle.std.proofs.lemmas.List.{append_cancel_right}
use Rattle.nil_word.specs.declared.letter.Letter.{Letter}
use Rattle.nil_word.specs.declared.expr.Expr.{Expr}
use Rattle.nil_word.specs.declared.query.Query.{Query}
use Rattle.nil_word.specs.declared.query.Query.TheVariants as query
use Rattle.nil_word.specs.Words.{ordered}
use Rattle.nil_word.specs.Congruence.{Congruent, StandsFor}
use Rattle.nil_word.specs.Expressions.{unrolled}
use Rattle.nil_pres.specs.Presented.{Presented}
use Rattle.nil_pres.specs.Relations.{relations_of}
use Rattle.word_text.specs.declared.query_fault.QueryFault.{QueryFault}
use Rattle.word_text.specs.Lines.{ReadsAs, FailsWith}
use Rattle.word_text.specs.Reading.{reading}
use Rattle.word_text.specs.Vectors.{text_of_entries}
use Rattle.hall_table.specs.Multiplies.{Paired}
use Rattle.group_eval.specs.declared.reply.Reply.{Reply}
use Rattle.group_eval.specs.Queries.{IsWide}
use Rattle.group_eval.specs.Right.{IsTheOne, IsRightReply, value, yes, no, solution, quotient, nothing}
use Rattle.session_io.specs.Lines.{as_line}
use Rattle.query_replies.specs.Replies.{line_of}
use Rattle.query_replies.specs.Right.{IsQuery, IsFaulty, IsReply, long, faulty, wide, right}
use Rattle.query_replies.proofs.VectorTexts.{text_of_entries-same}

record IsVectorReply (p : Presented) (e : Expr) (text : List ℕ) : Type 0 where
  vector : List ℤ
  one : IsTheOne (length p.names) (λ x. StandsFor (relations_of p) x (unrolled e)) vector
  written : text ≡ as_line (text_of_entries vector)

vector_reply : (p : Presented) (e : Expr) (q : Query) (r : Reply) → q ≡ query.Value e
    → IsRightReply (relations_of p) q r → IsVectorReply p e (line_of r)
vector_reply p e q r h (value e' v it) =
    let same : e' ≡ e = cc in
    record {
      vector = v;
      one =
          subst
          (λ (x : Expr). IsTheOne (length p.names)
          (λ y. StandsFor (relations_of p) y (unrolled x)) v)
          same it;
      written = refl;
    }
vector_reply p e q r h (yes u v k) = cc
vector_reply p e q r h (no u v k) = cc
vector_reply p e q r h (solution u v x k) = cc
vector_reply p e q r h (quotient u v x k) = cc
vector_reply p e q r h nothing = cc

module _ (c : Paired)
    (reads : (line : List ℕ) (q : Query) → ReadsAs c.pres.names line q ↔ (reading c.pres.names line ≡ Ok q))
    (fails : (line : List ℕ) (f : QueryFault)
    → FailsWith c.pres.names line f ↔ (reading c.pres.names line ≡ Err f)) where
  module _ (line : List ℕ) (e : Expr) (q : IsQuery c.pres line (query.Value e)) where
    is_read : reading c.pres.names (strip_carriage_return line) ≡ Ok (query.Value e)
    is_read = (reads (strip_carriage_return line) (query.Value e)).0 q.reads

    same_query : (o : Query) → IsQuery c.pres line o → o ≡ query.Value e
    same_query o h =
        let other : reading c.pres.names (strip_carriage_return line) ≡ Ok o =
        (reads (strip_carriage_return line) o).0 h.reads in
        cc (is_read, other)

    no_fault : (f : QueryFault) → IsFaulty c.pres line f → ⊥
    no_fault f h =
        let other : reading c.pres.names (strip_carriage_return line) ≡ Err f =
        (fails (strip_carriage_return line) f).0 h.fails in
        cc (is_read, other)

    IsVectorReply-reply : (text : List ℕ) → (IsWide c.table (query.Value e) → ⊥)
        → IsReply c line text → IsVectorReply c.pres e text
    IsVectorReply-reply text n (long l) = absurd (omega (arith, l, q.within))
    IsVectorReply-reply text n (faulty f h) = absurd (no_fault f h)
    IsVectorReply-reply text n (wide o h w) =
        absurd (n (subst (IsWide c.table) (same_query o h) w))
    IsVectorReply-reply text n (right o r h k is) = vector_reply c.pres e o r (same_query o h) is

module _ (p : Presented)
    (back : (u v : List Letter) → Congruent (relations_of p) 1 u v → Congruent (relations_of p) 1 v u)
    (chain : (u v w : List Letter) → Congruent (relations_of p) 1 u v
    → Congruent (relations_of p) 1 v w → Congruent (relations_of p) 1 u w)
    (e f : Expr) (text text' : List ℕ)
    (a : IsVectorReply p e text) (b : IsVectorReply p f text') where
  words_of_texts : text ≡ text' → Congruent (relations_of p) 1 (unrolled e) (unrolled f)
  words_of_texts h =
      let lines : as_line (text_of_entries a.vector) ≡ as_line (text_of_entries b.vector) =
      sym a.written ∙ h ∙ b.written in
      let same : a.vector ≡ b.vector =
      text_of_entries-same a.vector b.vector (a.one.vector.entries ∙ sym b.one.vector.entries)
      a.one.small b.one.small
      (append_cancel_right (text_of_entries a.vector) (text_of_entries b.vector) (10 ∷ []) lines) in
      chain (unrolled e) (ordered b.vector) (unrolled f)
      (subst (λ (v : List ℤ). Congruent (relations_of p) 1 (unrolled e) (ordered v)) same
      (back (ordered a.vector) (unrolled e) a.one.holds)) b.one.holds

  texts_of_words : Congruent (relations_of p) 1 (unrolled e) (unrolled f) → text ≡ text'
  texts_of_words h =
      let same : b.vector ≡ a.vector =
      a.one.only b.vector b.one.vector
      (chain (ordered b.vector) (unrolled f) (unrolled e) b.one.holds
      (back (unrolled e) (unrolled f) h)) in
      a.written ∙ ap (λ (v : List ℤ). as_line (text_of_entries v)) (sym same) ∙ sym b.written

module _ (c : Paired)
    (reads : (line : List ℕ) (q : Query) → ReadsAs c.pres.names line q ↔ (reading c.pres.names line ≡ Ok q))
    (fails : (line : List ℕ) (f : QueryFault)
    → FailsWith c.pres.names line f ↔ (reading c.pres.names line ≡ Err f))
    (back : (u v : List Letter) → Congruent (relations_of c.pres) 1 u v → Congruent (relations_of c.pres) 1 v u)
    (chain : (u v w : List Letter) → Congruent (relations_of c.pres) 1 u v
    → Congruent (relations_of c.pres) 1 v w → Congruent (relations_of c.pres) 1 u w)
    (line line' text text' : List ℕ) (e f : Expr)
    (q : IsQuery c.pres line (query.Value e)) (n : IsWide c.table (query.Value e) → ⊥)
    (r : IsReply c line text)
    (q' : IsQuery c.pres line' (query.Value f)) (n' : IsWide c.table (query.Value f) → ⊥)
    (r' : IsReply c line' text') where
  pub equal-replies : (text ≡ text') ↔ Congruent (relations_of c.pres) 1 (unrolled e) (unrolled f)
  equal-replies =
      let a = IsVectorReply-reply c reads fails line e q text n r in
      let b = IsVectorReply-reply c reads fails line' f q' text' n' r' in
      (words_of_texts c.pres back chain e f text text' a b, texts_of_words c.pres back chain e f text text' a b)
