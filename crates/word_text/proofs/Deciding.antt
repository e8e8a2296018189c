-- What a line says is decided by whether it is silent, and else by its tokens.
use Rattle.std.proofs.Common.{◌≡◌, ℕ, true, false, List, length, Result, Ok, Err, IfOk, IfErr, IfSome, refl}
use Rattle.nil_word.specs.declared.query.Query.{Query}
use Rattle.nil_word.specs.declared.query.Query.TheVariants as query
use Rattle.line_tokens.specs.Tokens.{is_silent}
use Rattle.word_text.specs.declared.query_fault.QueryFault.{QueryFault}
use Rattle.word_text.specs.declared.query_fault.QueryFault.TheVariants as fault
use Rattle.word_text.specs.Words.{query_tokens}
use Rattle.word_text.specs.Faults.{IsRead, IsFirstFault}
use Rattle.word_text.specs.Lines.{ReadsAs, FailsWith, blank, says}
use Rattle.word_text.specs.Seen.{fault_place}

-- a silent line reads as the blank query alone
pub silent_reads : (names : List (List ℕ)) (line : List ℕ) (q : Query) → is_silent line ≡ true → ReadsAs names line q → query.Blank ≡ q
silent_reads names line _ s (blank h) = refl
silent_reads names line _ s (says q h r) = cc

-- another line is read by its tokens
pub tokens_read : (names : List (List ℕ)) (line : List ℕ) (q : Query) → is_silent line ≡ false → ReadsAs names line q → IsRead (query_tokens names line) q
tokens_read names line _ s (blank h) = cc
tokens_read names line _ s (says q h r) = r

pub reads_tokens : (names : List (List ℕ)) (line : List ℕ) (r : Result Query QueryFault) → is_silent line ≡ false → IfOk r (λ q. IsRead (query_tokens names line) q) → IfOk r (λ q. ReadsAs names line q)
reads_tokens names line (Ok q) s h = says q s h
reads_tokens names line (Err f) s h = tt

pub fails_tokens : (names : List (List ℕ)) (line : List ℕ) (r : Result Query QueryFault) → is_silent line ≡ false
    → IfErr r (λ f. IfSome (fault_place f) (IsFirstFault (query_tokens names line) (length line))) → IfErr r (λ f. IfSome (fault_place f) (FailsWith names line))
fails_tokens names line (Ok q) s h = tt
fails_tokens names line (Err fault.Memory) s h = tt
fails_tokens names line (Err (fault.Syntax p)) s h = record { says = s; first = h }
fails_tokens names line (Err (fault.Unknown p)) s h = record { says = s; first = h }
fails_tokens names line (Err (fault.Number p)) s h = record { says = s; first = h }
fails_tokens names line (Err (fault.Deep p)) s h = record { says = s; first = h }

pub silent_fails : (names : List (List ℕ)) (line : List ℕ) (f : QueryFault) → is_silent line ≡ true → FailsWith names line f → ⊥
silent_fails names line f s h = let says : is_silent line ≡ false = h.says in cc
