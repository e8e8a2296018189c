-- A written query reads as itself.
use Rattle.std.proofs.Common.{◌≡◌, ℕ, ◌≤◌, ◌==◌, inl, inr, Bool, true, false, nat_le, cond, ◌&&◌, Option, Some, None, List, [], ◌∷◌, ◌++◌, length, Result, Ok, Err, IfOk, String, Global, string_bytes, refl, sym, ◌∙◌, ap, subst, append-nil, arith}
use Rattle.std.specs.List.{list_all}
use Rattle.std.proofs.lemmas.Bool.Decides.{nat_tests}
use Rattle.nil_word.specs.declared.expr.Expr.{Expr}
use Rattle.nil_word.specs.declared.query.Query.{Query}
use Rattle.nil_word.specs.declared.query.Query.TheVariants as query
use Rattle.nil_pres.specs.Presented.{AreNames}
use Rattle.line_tokens.specs.declared.kind.Kind.{Kind}
use Rattle.line_tokens.specs.declared.kind.Kind.TheVariants as k
use Rattle.line_tokens.specs.declared.token.Token.{Token}
use Rattle.line_tokens.specs.Tokens.{is_silent, kinds}
use Rattle.word_text.specs.declared.query_fault.QueryFault.TheVariants as fault
use Rattle.word_text.specs.Words.{query_word, query_tokens}
use Rattle.word_text.specs.Grammar.{IsExpr, IsLine, value, same, solve, quotient}
use Rattle.word_text.specs.Faults.{kinds_of, deeper, is_caret}
use Rattle.word_text.specs.Lines.{ReadsAs, blank, says}
use Rattle.word_text.specs.State.{State}
use Rattle.word_text.specs.Machine.{start, next}
use Rattle.word_text.specs.Running.{ended, bound, reached, accepted}
use Rattle.word_text.specs.Verdict.{trouble, ended_or, verdict_from, verdict}
use Rattle.word_text.specs.Writing.{written, written_query}
use Rattle.word_text.specs.Texts.{query_text}
use Rattle.word_text.specs.Shaping.{IsShapedQuery, most_open_from, most_open}
use Rattle.word_text.proofs.Complete.{line_accepted}
use Rattle.word_text.proofs.Judged.{Finds, verdict_finds, judged_on}
use Rattle.word_text.proofs.Spelled.{IsSpelled, is_fair, spelled_then, mark_equal, mark_bar, cuts_first, cut_solve, cut_quotient, SaysNothing, silent_kinds}
use Rattle.word_text.proofs.Rewriting.{IsSound, AreWords, reads_expr, written_sound}
use Rattle.word_text.proofs.Named.{are_words}

-- the tokens of a written query are in the grammar, and its text is cut into them
record IsWritten (names : List (List ℕ)) (q : Query) (ks : List Kind) : Type 0 where
  line : IsLine ks q
  spelled : IsSpelled names ks

ends_expr : (names : List (List ℕ)) (e : Expr) → IsSound names e (written e) → IsExpr (written e).tokens [] e
ends_expr names e s = subst (λ ks. IsExpr ks [] e) (append-nil (written e).tokens) (reads_expr (written e).shape (written e).tokens e s.reads [])

begins_expr : (names : List (List ℕ)) (e : Expr) → IsSound names e (written e) → (rest : List Kind) → IsExpr ((written e).tokens ++ rest) rest e
begins_expr names e s rest = reads_expr (written e).shape (written e).tokens e s.reads rest

spelled_solve : (names : List (List ℕ)) (ks : List Kind) → IsSpelled names ks → IsSpelled names (k.Solve ∷ ks)
spelled_solve names ks s = record { cuts = λ rest h. cuts_first names k.Solve ks rest (cut_solve names) (s.cuts rest h); fair = s.fair }

spelled_quotient : (names : List (List ℕ)) (ks : List Kind) → IsSpelled names ks → IsSpelled names (k.Quotient ∷ ks)
spelled_quotient names ks s = record { cuts = λ rest h. cuts_first names k.Quotient ks rest (cut_quotient names) (s.cuts rest h); fair = s.fair }

query_written : (names : List (List ℕ)) (n : ℕ) → AreWords names n → (q : Query) → IsShapedQuery n q → (q ≡ query.Blank → ⊥) → IsWritten names q (written_query q)
query_written names n words (query.Value e) h b = let s = written_sound names n words e h in record { line = value _ e (ends_expr names e s); spelled = s.spelled }
query_written names n words (query.Same u v) h b =
    let s = written_sound names n words u h.0 in
    let t = written_sound names n words v h.1 in
    record {
      line = same _ (written v).tokens u v (begins_expr names u s (k.Equal ∷ (written v).tokens)) (ends_expr names v t);
      spelled = spelled_then names (written u).tokens k.Equal (written v).tokens s.spelled (mark_equal names) t.spelled;
    }
query_written names n words (query.Solve u v) h b =
    let s = written_sound names n words u h.0 in
    let t = written_sound names n words v h.1 in
    record {
      line = solve _ (written v).tokens u v (begins_expr names u s (k.Bar ∷ (written v).tokens)) (ends_expr names v t);
      spelled = spelled_solve names _ (spelled_then names (written u).tokens k.Bar (written v).tokens s.spelled (mark_bar names) t.spelled);
    }
query_written names n words (query.Quotient u v) h b =
    let s = written_sound names n words u h.0 in
    let t = written_sound names n words v h.1 in
    record {
      line = quotient _ (written v).tokens u v (begins_expr names u s (k.Bar ∷ (written v).tokens)) (ends_expr names v t);
      spelled = spelled_quotient names _ (spelled_then names (written u).tokens k.Bar (written v).tokens s.spelled (mark_bar names) t.spelled);
    }
query_written names n words query.Blank h b = absurd (b refl)

-- nothing is wrong with a fair token that opens no bracket too many
no_trouble : (d : ℕ) (b : Bool) (place : ℕ) (kind : Kind) → is_fair kind ≡ true → deeper d kind ≤ 200 → trouble d b place kind ≡ None
no_trouble d b place (k.Name g) f h = let e : (g == 0) ≡ false = grind (arith, nat_tests) in ap (λ q. cond q (Some (fault.Unknown place)) None) e
no_trouble d b place (k.Integer one None) f h = cc
no_trouble d b place (k.Integer one (Some z)) f h = refl
no_trouble d b place k.Open f h = let e : nat_le 200 d ≡ false = grind (arith, nat_tests) in ap (λ q. cond q (Some (fault.Deep place)) None) e
no_trouble d b place k.SquareOpen f h = let e : nat_le 200 d ≡ false = grind (arith, nat_tests) in ap (λ q. cond q (Some (fault.Deep place)) None) e
no_trouble d b place _ f h = refl

most_open_from-le : (d : ℕ) (ks : List Kind) → d ≤ most_open_from d ks
most_open_from-le d [] = omega arith
most_open_from-le d (x ∷ ks) = omega arith

left_of : (a b : Bool) → (a && b) ≡ true → a ≡ true
left_of true b h = refl
left_of false b h = h

right_of : (a b : Bool) → (a && b) ≡ true → b ≡ true
right_of true b h = h
right_of false b h = cc

one_on : (s : State) (d : ℕ) (b : Bool) (bytes : ℕ) (t : Token) (ts : List Token) (q : Query) (o : Option State) → next s t.kind ≡ o
    → bound (bound o (λ u. reached u (kinds_of ts))) ended ≡ Some q → trouble d b t.place t.kind ≡ None
    → ((u : State) → accepted u (kinds_of ts) ≡ Some q → verdict_from u (deeper d t.kind) (is_caret t.kind) bytes ts ≡ Ok q)
    → verdict_from s d b bytes (t ∷ ts) ≡ Ok q
one_on s d b bytes t ts q None n e p go = cc
one_on s d b bytes t ts q (Some u) n e p go =
    judged_on (next s t.kind) (trouble d b t.place t.kind) t.place (λ v. verdict_from v (deeper d t.kind) (is_caret t.kind) bytes ts) u n p ∙ go u e

-- fair tokens that are accepted have no fault
fair_verdict : (s : State) (d : ℕ) (b : Bool) (bytes : ℕ) (ts : List Token) (q : Query) → accepted s (kinds_of ts) ≡ Some q → list_all is_fair (kinds_of ts) ≡ true
    → most_open_from d (kinds_of ts) ≤ 200 → verdict_from s d b bytes ts ≡ Ok q
fair_verdict s d b bytes [] q e f m = ap (λ o. ended_or o bytes) e
fair_verdict s d b bytes (t ∷ ts) q e f m =
    let low : deeper d t.kind ≤ most_open_from (deeper d t.kind) (kinds_of ts) = most_open_from-le (deeper d t.kind) (kinds_of ts) in
    let most : most_open_from (deeper d t.kind) (kinds_of ts) ≤ 200 = omega arith in
    one_on s d b bytes t ts q (next s t.kind) refl e
    (no_trouble d b t.place t.kind (left_of (is_fair t.kind) (list_all is_fair (kinds_of ts)) f) (omega arith))
    (λ u a. fair_verdict u (deeper d t.kind) (is_caret t.kind) bytes ts q a (right_of (is_fair t.kind) (list_all is_fair (kinds_of ts)) f) most)

nothing_said : (ks : List Kind) (q : Query) → IsLine ks q → SaysNothing ks → ⊥
nothing_said ks q d (inl e) = let a : accepted start [] ≡ Some q = subst (λ x. accepted start x ≡ Some q) e (line_accepted ks q d) in cc
nothing_said ks q d (inr (more, e)) = let a : accepted start (k.Other ∷ more) ≡ Some q = subst (λ x. accepted start x ≡ Some q) e (line_accepted ks q d) in cc

not_silent : (names : List (List ℕ)) (text : List ℕ) (q : Query) (b : Bool) → is_silent text ≡ b → IsLine (kinds (query_word names) text) q → is_silent text ≡ false
not_silent names text q false e d = e
not_silent names text q true e d = absurd (nothing_said (kinds (query_word names) text) q d (silent_kinds names text e))

text_reads : (names : List (List ℕ)) (q : Query) → IsWritten names q (written_query q) → most_open (written_query q) ≤ 200 → ReadsAs names (query_text names q) q
text_reads names q w m =
    let text : List ℕ = query_text names q in
    let ks : List Kind = written_query q in
    let cut : kinds (query_word names) text ≡ ks = ap (kinds (query_word names)) (sym (append-nil text)) ∙ w.spelled.cuts [] refl ∙ append-nil ks in
    let line : IsLine (kinds (query_word names) text) q = subst (λ x. IsLine x q) (sym cut) w.line in
    let fair : list_all is_fair (kinds (query_word names) text) ≡ true = ap (list_all is_fair) cut ∙ w.spelled.fair in
    let open_brackets : most_open_from 0 (kinds (query_word names) text) ≤ 200 = subst (λ x. most_open_from 0 x ≤ 200) (sym cut) m in
    let decided : verdict (length text) (query_tokens names text) ≡ Ok q =
    fair_verdict start 0 false (length text) (query_tokens names text) q (line_accepted (kinds (query_word names) text) q line) fair open_brackets in
    says q (not_silent names text q (is_silent text) refl line) (subst (Finds (query_tokens names text) (length text)) decided (verdict_finds (length text) (query_tokens names text)))

-- a written query reads as itself
pub query_reads : (names : List (List ℕ)) (q : Query) → AreNames names → IsShapedQuery (length names) q → most_open (written_query q) ≤ 200 → ReadsAs names (query_text names q) q
query_reads names query.Blank h s m = blank refl
query_reads names (query.Value e) h s m = text_reads names (query.Value e) (query_written names (length names) (are_words names h) (query.Value e) s (λ b. cc)) m
query_reads names (query.Same u v) h s m = text_reads names (query.Same u v) (query_written names (length names) (are_words names h) (query.Same u v) s (λ b. cc)) m
query_reads names (query.Solve u v) h s m = text_reads names (query.Solve u v) (query_written names (length names) (are_words names h) (query.Solve u v) s (λ b. cc)) m
query_reads names (query.Quotient u v) h s m = text_reads names (query.Quotient u v) (query_written names (length names) (are_words names h) (query.Quotient u v) s (λ b. cc)) m

-- the text of a written query reads as the query
pub text_again : {E : Type 0} (names : List (List ℕ)) (q : Query) (r : Result (String Global) E) → AreNames names → IsShapedQuery (length names) q → most_open (written_query q) ≤ 200
    → IfOk r (λ s. string_bytes s ≡ query_text names q) → IfOk r (λ s. ReadsAs names (string_bytes s) q)
text_again names q (Ok s) h shaped few own = subst (λ bs. ReadsAs names bs q) (sym own) (query_reads names q h shaped few)
text_again names q (Err e) h shaped few own = tt
