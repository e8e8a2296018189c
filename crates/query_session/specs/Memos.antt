-- What a lent memo holds after a session.
--   IsFilled opened limit a f pairs      files were got, what replies was opened over them, bytes of
--                                        the source were taken, and each pair is of one of their lines
--                                        with the right reply to it
--   IsMemoOver opened limit a f pairs    so it is, or there is no pair
--   IsMemoOf os command limit a f pairs  the memo after the session of a command, or of none
--   IsMemoAfter os limit a f pairs       the memo after the session of the words
-- os the proposals for each presentation and level · a what is asked for · f what is fed
use Rattle.std.specs.Prelude.{◌≡◌, ℕ, ◌⊎◌, List, [], Option, Some, None}
use Rattle.nil_pres.specs.Presented.{Presented}
use Rattle.hall_table.specs.Multiplies.{Paired}
use Rattle.hall_compile.specs.Proposals.{Proposal}
use Rattle.reply_memo.specs.Kept.{Kept, AllKept}
use Rattle.session_io.specs.Asked.{Asked, Fed}
use Rattle.session_io.specs.Files.{Got, AreGot}
use Rattle.session_io.specs.Recalling.{IsRecalled}
use Rattle.query_replies.specs.Memoized.{IsKept}
use Rattle.query_replies.specs.Right.{IsReply}
use Rattle.query_session.specs.Run as of_run
use Rattle.query_session.specs.RunTable as of_table
use Rattle.query_session.specs.Commands.{Command, command_of, run, run_table, check, compile, trees, collect, example, load}

pub record IsFilled (opened : List Got → Paired → Type 0) (limit : ℕ) (a : Asked) (f : Fed)
    (pairs : List Kept) : Type 0 where
  pub files : List Got
  pub got : AreGot a files
  pub c : Paired
  pub is : opened files c
  pub kept : IsRecalled (λ lines. AllKept (IsKept (IsReply c) lines) pairs) limit f

abbrev pub IsMemoOver : (List Got → Paired → Type 0) → ℕ → Asked → Fed → List Kept → Type 0
IsMemoOver opened limit a f pairs = (pairs ≡ []) ⊎ IsFilled opened limit a f pairs

abbrev pub IsMemoOf : (Presented → ℕ → List Proposal) → Option Command → ℕ → Asked → Fed
    → List Kept → Type 0
IsMemoOf os None limit a f pairs = pairs ≡ []
IsMemoOf os (Some (run pres)) limit a f pairs = IsMemoOver (of_run.IsOpened os pres) limit a f pairs
IsMemoOf os (Some (run_table pres table)) limit a f pairs =
    IsMemoOver (of_table.IsOpened pres table) limit a f pairs
IsMemoOf os (Some (check pres)) limit a f pairs = pairs ≡ []
IsMemoOf os (Some (compile pres)) limit a f pairs = pairs ≡ []
IsMemoOf os (Some (trees pres name)) limit a f pairs = pairs ≡ []
IsMemoOf os (Some (collect pres)) limit a f pairs = pairs ≡ []
IsMemoOf os (Some (example kind size)) limit a f pairs = pairs ≡ []
IsMemoOf os (Some (load rows count seed)) limit a f pairs = pairs ≡ []

abbrev pub IsMemoAfter : (Presented → ℕ → List Proposal) → ℕ → Asked → Fed → List Kept → Type 0
IsMemoAfter os limit a f pairs = IsMemoOf os (command_of a.words) limit a f pairs
