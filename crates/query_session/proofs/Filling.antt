-- What a lent memo comes to hold.
use Rattle.std.proofs.Common.{◌≡◌, ℕ, List, [], Option, Some, None, inl, inr, Result, Ok, Err, IfOk, IfErr, unwrap_or, option_map, sym, subst}
use Rattle.nil_pres.specs.Presented.{Presented}
use Rattle.hall_table.specs.Multiplies.{Paired}
use Rattle.hall_compile.specs.Proposals.{Proposal}
use Rattle.reply_memo.specs.Kept.{Kept, AllKept}
use Rattle.reply_memo.proofs.KeptPairs.{AllKept-nil}
use Rattle.session_io.specs.Asked.{Asked, Fed, IsUntouched}
use Rattle.session_io.specs.Files.{Got}
use Rattle.session_io.specs.Answers.{by_reply}
use Rattle.session_io.specs.Recalling.{IsRecalled}
use Rattle.query_replies.specs.Memoized.{IsKept}
use Rattle.query_replies.specs.Replies.{reply}
use Rattle.query_replies.specs.Right.{IsReply}
use Rattle.query_replies.proofs.Keeping.{IsKept-weaker}
use Rattle.query_session.specs.declared.command.Command.{Command as Named}
use Rattle.query_session.specs.declared.refusal.Refusal.{Refusal}
use Rattle.query_session.specs.Opening.{HasOpened}
use Rattle.query_session.specs.Commands.{Command, seen, command_of, run, run_table, check, compile, trees, collect, example, load}
use Rattle.query_session.proofs.Untouched.{IsTaken-untouched}
use Rattle.query_session.specs.Memos.{IsFilled, IsMemoOver, IsMemoOf, IsMemoAfter}

-- what was opened is known
pub IfOk-is : {I E : Type 0} (P : I → Type 0) (found : Result I E) (i : I) → found ≡ Ok i → P i
    → IfOk found P
IfOk-is P found i e h = subst (λ r. IfOk r P) (sym e) h

module _ (opened : List Got → Paired → Type 0) (limit : ℕ) (a : Asked) (f : Fed) (pairs : List Kept)
    (right : (c : Paired) → HasOpened Paired opened a c → (line : List ℕ)
    → IsReply c line (reply c line)) where
  IsFilled-right : (c : Paired) → HasOpened Paired opened a c
      → IsRecalled (λ lines. AllKept (IsKept (by_reply (reply c)) lines) pairs) limit f
      → IsFilled opened limit a f pairs
  IsFilled-right c h k = record {
    files = h.files;
    got = h.got;
    c = c;
    is = h.is;
    kept = record {
      taken = k.taken;
      more = k.more;
      took = k.took;
      of_lines =
          IsKept-weaker (by_reply (reply c)) (IsReply c)
          (λ line text same. subst (IsReply c line) (sym same) (right c h line))
          _ pairs k.of_lines;
    };
  }

  -- by what was opened or refused
  pub IsMemoOver-result : (found : Result Paired Refusal) → IfOk found (HasOpened Paired opened a)
      → IfOk found (λ c. IsRecalled (λ lines. AllKept (IsKept (by_reply (reply c)) lines) pairs)
      limit f)
      → IfErr found (λ d. pairs ≡ []) → IsMemoOver opened limit a f pairs
  IsMemoOver-result (Ok c) h k none = inr (IsFilled-right c h k)
  IsMemoOver-result (Err d) h k none = inl none

-- no line was taken, and no pair is there
IsRecalled-untouched : (recalls : List (List ℕ) → Type 0) (limit : ℕ) (f : Fed) → IsUntouched f
    → ((lines : List (List ℕ)) → recalls lines) → IsRecalled recalls limit f
IsRecalled-untouched recalls limit f u h = record {
  taken = [];
  more = unwrap_or f.left [];
  took = IsTaken-untouched limit f u;
  of_lines = h _;
}

pub IsRecalled-nothing : (R : List ℕ → List ℕ → Type 0) (limit : ℕ) (f : Fed) (pairs : List Kept)
    → IsUntouched f → pairs ≡ [] → IsRecalled (λ lines. AllKept (IsKept R lines) pairs) limit f
IsRecalled-nothing R limit f pairs u none =
    IsRecalled-untouched (λ lines. AllKept (IsKept R lines) pairs) limit f u
    (λ lines. subst (AllKept (IsKept R lines)) (sym none) (AllKept-nil (IsKept R lines)))

-- the words are those of the command
pub IsMemoAfter-of : (os : Presented → ℕ → List Proposal) (limit : ℕ) (a : Asked) (f : Fed)
    (pairs : List Kept) (command : Option Command) → command ≡ command_of a.words
    → IsMemoOf os command limit a f pairs → IsMemoAfter os limit a f pairs
IsMemoAfter-of os limit a f pairs command e h =
    subst (λ (d : Option Command). IsMemoOf os d limit a f pairs) e h

-- it is the memo after this command
pub IsMemoOf-is : (os : Presented → ℕ → List Proposal) (limit : ℕ) (a : Asked) (f : Fed)
    (pairs : List Kept) (command named : Option Named) → command ≡ named
    → IsMemoOf os (option_map seen named) limit a f pairs
    → IsMemoOf os (option_map seen command) limit a f pairs
IsMemoOf-is os limit a f pairs command named e h =
    subst (λ (d : Option Named). IsMemoOf os (option_map seen d) limit a f pairs) (sym e) h

-- no pair is there, whatever the command is
pub IsMemoOf-nothing : (os : Presented → ℕ → List Proposal) (command : Option Command) (limit : ℕ)
    (a : Asked) (f : Fed) (pairs : List Kept) → pairs ≡ [] → IsMemoOf os command limit a f pairs
IsMemoOf-nothing os None limit a f pairs none = none
IsMemoOf-nothing os (Some command) limit a f pairs none = of_command command
  where
    of_command : (d : Command) → IsMemoOf os (Some d) limit a f pairs
    of_command (run pres) = inl none
    of_command (run_table pres table) = inl none
    of_command (check pres) = none
    of_command (compile pres) = none
    of_command (trees pres name) = none
    of_command (collect pres) = none
    of_command (example kind size) = none
    of_command (load rows count seed) = none
