-- What a line reads as is what the grammar says of it.
use Rattle.std.proofs.Common.{◌≡◌, ℕ, Bool, cond, true, false, List, length, Result, Ok, Err, refl, sym, ◌∙◌, ap, subst}
use Rattle.nil_word.specs.declared.query.Query.{Query}
use Rattle.nil_word.specs.declared.query.Query.TheVariants as query
use Rattle.line_tokens.specs.Tokens.{is_silent}
use Rattle.word_text.specs.declared.query_fault.QueryFault.{QueryFault}
use Rattle.word_text.specs.Faults.{IsRead, IsFirstFault}
use Rattle.word_text.specs.Words.{query_tokens}
use Rattle.word_text.specs.Lines.{ReadsAs, FailsWith, blank, says}
use Rattle.word_text.specs.Verdict.{verdict}
use Rattle.word_text.specs.Reading.{reading}
use Rattle.word_text.proofs.Judged.{Finds, verdict_finds, read_verdict, fault_verdict}

ok_is : (r : Result Query QueryFault) (p q : Query) → r ≡ Ok p → r ≡ Ok q → p ≡ q
ok_is r p q h k = cc

module _ (names : List (List ℕ)) (line : List ℕ) where
  silent_reading : is_silent line ≡ true → reading names line ≡ Ok query.Blank
  silent_reading h = ap (λ b. cond b (Ok query.Blank) (verdict (length line) (query_tokens names line))) h

  said_reading : is_silent line ≡ false
      → reading names line ≡ verdict (length line) (query_tokens names line)
  said_reading h = ap (λ b. cond b (Ok query.Blank) (verdict (length line) (query_tokens names line))) h

  pub reading-reads : (q : Query) → ReadsAs names line q → reading names line ≡ Ok q
  reading-reads _ (blank h) = silent_reading h
  reading-reads _ (says q h r) = said_reading h ∙ read_verdict (length line) (query_tokens names line) q r

  pub reading-fails : (f : QueryFault) → FailsWith names line f → reading names line ≡ Err f
  reading-fails f h = said_reading h.says ∙ fault_verdict (length line) (query_tokens names line) f h.first

  found_read : (q : Query) → verdict (length line) (query_tokens names line) ≡ Ok q → IsRead (query_tokens names line) q
  found_read q h = subst (Finds (query_tokens names line) (length line)) h (verdict_finds (length line) (query_tokens names line))

  found_fault : (f : QueryFault) → verdict (length line) (query_tokens names line) ≡ Err f
      → IsFirstFault (query_tokens names line) (length line) f
  found_fault f h = subst (Finds (query_tokens names line) (length line)) h (verdict_finds (length line) (query_tokens names line))

  read_as : (b : Bool) → is_silent line ≡ b → (q : Query) → reading names line ≡ Ok q → ReadsAs names line q
  read_as true s q h = subst (ReadsAs names line) (ok_is (reading names line) query.Blank q (silent_reading s) h) (blank s)
  read_as false s q h = says q s (found_read q (sym (said_reading s) ∙ h))

  pub reads-reading : (q : Query) → reading names line ≡ Ok q → ReadsAs names line q
  reads-reading = read_as (is_silent line) refl

  fail_with : (b : Bool) → is_silent line ≡ b → (f : QueryFault) → reading names line ≡ Err f → FailsWith names line f
  fail_with true s f h = let no : Ok query.Blank ≡ Err f = sym (silent_reading s) ∙ h in cc
  fail_with false s f h = record { says = s; first = found_fault f (sym (said_reading s) ∙ h) }

  pub fails-reading : (f : QueryFault) → reading names line ≡ Err f → FailsWith names line f
  fails-reading = fail_with (is_silent line) refl
