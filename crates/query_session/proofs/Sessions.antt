-- Sessions of a command that answers lines, and of words that fit no form.
use Rattle.std.proofs.Common.{◌≡◌, ℕ, ◌+◌, ◌≤◌, ◌⊎◌, inl, inr, List, [], Option, Some, None, Result, Ok, Err, IfOk, IfErr, unwrap_or, option_map, refl, sym, subst, arith}
use Rattle.nil_pres.specs.Presented.{Presented}
use Rattle.hall_compile.specs.Proposals.{Proposal}
use Rattle.session_io.specs.declared.end.End.{End}
use Rattle.session_io.specs.declared.end.End.TheVariants as end
use Rattle.session_io.specs.declared.stop.Stop.{Stop}
use Rattle.session_io.specs.declared.stop.Stop.TheVariants as stop
use Rattle.session_io.specs.Asked.{Asked, Fed, IsUntouched}
use Rattle.session_io.specs.Files.{Got}
use Rattle.session_io.specs.Lines.{as_lines}
use Rattle.session_io.specs.Answers.{by_reply, IsPromised, IsOutput, IsAnswered}
use Rattle.session_io.specs.Stops.{IsFront}
use Rattle.session_io.proofs.Appending.{Appends-none}
use Rattle.session_io.proofs.Weakening.{IsAnswered-weaker}
use Rattle.query_session.specs.declared.usage_kind.UsageKind.TheVariants as reason
use Rattle.query_session.specs.declared.command.Command.{Command as Named}
use Rattle.query_session.specs.declared.refusal.Refusal.{Refusal}
use Rattle.query_session.specs.declared.status.Status.{Status}
use Rattle.query_session.specs.declared.status.Status.TheVariants as s
use Rattle.query_session.specs.Statuses.{text_of, outcome_status, Ended}
use Rattle.query_session.specs.Runs.{IsWhole, before, answered, IsPromise, refusal, answers, nothing, at_line, Wrote, IsRun, IsRunOver}
use Rattle.query_session.specs.Refusals.{Says}
use Rattle.query_session.specs.Opening.{HasOpened, HasRefusal}
use Rattle.query_session.specs.Ends.{IsAnsweredAs, IsRefusedAs, EndsAs, RefusesWith}
use Rattle.query_session.specs.Commands.{Command, seen, IsUsage, IsSessionOf, IsSession, command_of, run, run_table, check, compile, trees, collect, example, load}
use Rattle.query_session.proofs.Plain.{IsPlain}
use Rattle.query_session.proofs.Written.{Wrote-ended}
use Rattle.query_session.proofs.Untouched.{IsTaken-untouched, IsRun-refused}

-- the words fit no form
pub IsRun-usage : (limit : ℕ) (a : Asked) (f : Fed) (r : Status) (o n : Option (List ℕ))
    → IsUntouched f
    → Ended (as_lines (text_of [] (s.Usage reason.Words))) (s.Usage reason.Words) o n r
    → IsRun (λ files taken more. IsUsage f)
    (λ files taken more. IsUsage f (s.Usage reason.Words)) limit a f r o n
IsRun-usage limit a f r o n u h =
    let usage : IsUsage f (s.Usage reason.Words) (as_lines (text_of [] (s.Usage reason.Words))) =
    record { is = refl; text = refl; untouched = u } in
    record {
      files = [];
      got = tt;
      taken = [];
      more = unwrap_or f.left [];
      took = IsTaken-untouched limit f u;
      wrote =
          Wrote-ended (IsUsage f) (IsUsage f (s.Usage reason.Words)) f o n (s.Usage reason.Words)
          (as_lines (text_of [] (s.Usage reason.Words))) r (λ h. cc) (λ h. cc) usage usage h;
    }

module _ (I : Type 0) (opened : List Got → I → Type 0) (R : I → List ℕ → List ℕ → Type 0)
    (refused : Asked → List Got → List (List ℕ) → Status → Type 0) (limit : ℕ) (a : Asked) (f : Fed)
    (o n : Option (List ℕ)) where
  IsRunOver-refused : (d : Refusal) (r : Status)
      → ((files : List Got) (names : List (List ℕ)) (status : Status)
      → refused a files names status → IsPlain status)
      → HasRefusal refused a d → IsRefusedAs d f r o n
      → IsRunOver I opened R refused limit a f r o n
  IsRunOver-refused d r plain k h =
      IsRun-refused refused limit a f o n (IsWhole I opened R (refused a) limit f)
      (IsPromise I opened R (refused a) limit f)
      (λ files taken more names status. before names status)
      (λ files taken more names status. refusal names status) plain d r k h

  -- a session over what was opened
  module _ (i : I) (files : List Got) (is : opened files i) (taken more : List ℕ) where
    front_of : (front : List ℕ) → IsFront (IsPromised (R i) limit f taken more) front
        → IsFront (IsPromise I opened R (refused a) limit f files taken more) front
    front_of front h = record {
      whole = h.whole;
      rest = h.rest;
      promised = answers i h.whole is h.promised;
      split = h.split;
    }

    Wrote-outcome : (r : Result End Stop) → IsOutput (R i) limit f taken more r o n
        → Wrote (IsWhole I opened R (refused a) limit f files taken more)
        (IsPromise I opened R (refused a) limit f files taken more) f (outcome_status r) o n
    Wrote-outcome (Ok end.Finished) (out, ends, answer, w) =
        (out, answered i end.Finished out is ends answer, w)
    Wrote-outcome (Ok end.Failed) (out, ends, answer, w) =
        (out, answered i end.Failed out is ends answer, w)
    Wrote-outcome (Ok end.Long) (out, ends, answer, w) =
        (out, answered i end.Long out is ends answer, w)
    Wrote-outcome (Err stop.Failed) (front, h, w) = (front, front_of front h, w)
    Wrote-outcome (Err stop.Memory) (front, h, w) = (
      front,
      at_line front (record { is_front = front_of front h.is_front; at_line = h.at_line }),
      w,
    )

  IsRunOver-answered : (i : I) (reply : List ℕ → List ℕ) (r : Status) → HasOpened I opened a i
      → ((line : List ℕ) → R i line (reply line)) → IsAnsweredAs (by_reply reply) limit f r o n
      → IsRunOver I opened R refused limit a f r o n
  IsRunOver-answered i reply r h right given =
      let k : IsAnswered (R i) limit f given.outcome o n =
      IsAnswered-weaker (by_reply reply) (R i)
      (λ line text same. subst (R i line) (sym same) (right line)) limit f given.outcome o n
      given.answered in
      let S : Status → Type 0 = λ t. IsRunOver I opened R refused limit a f t o n in
      subst S (sym given.is) (record {
        files = h.files;
        got = h.got;
        taken = k.taken;
        more = k.more;
        took = k.took;
        wrote = Wrote-outcome i h.files h.is k.taken k.more given.outcome k.wrote;
      })

  -- a session by what was opened or refused
  module _ (plain : (files : List Got) (names : List (List ℕ)) (status : Status)
      → refused a files names status → IsPlain status) (reply : I → List ℕ → List ℕ)
      (right : (i : I) → HasOpened I opened a i → (line : List ℕ) → R i line (reply i line))
      (r : Status) where
    pub IsRunOver-result : (found : Result I Refusal) → IfOk found (HasOpened I opened a)
        → IfErr found (HasRefusal refused a)
        → EndsAs reply found limit f r o n → IsRunOver I opened R refused limit a f r o n
    IsRunOver-result (Ok i) h k answer = IsRunOver-answered i (reply i) r h (right i h) answer
    IsRunOver-result (Err d) h k said = IsRunOver-refused d r plain k said

-- what was found is a replier
pub EndsAs-Ok : {I : Type 0} (reply : I → List ℕ → List ℕ) (found : Result I Refusal) (i : I)
    (limit : ℕ) (f : Fed) (status : Status) (o n : Option (List ℕ)) → found ≡ Ok i
    → IsAnsweredAs (by_reply (reply i)) limit f status o n → EndsAs reply found limit f status o n
EndsAs-Ok reply found i limit f status o n e h =
    subst (λ r. EndsAs reply r limit f status o n) (sym e) h

-- a write fault comes from the sink
module _ (I : Type 0) (refused : Asked → List Got → List (List ℕ) → Status → Type 0) (a : Asked)
    (plain : (files : List Got) (names : List (List ℕ)) (status : Status)
    → refused a files names status → IsPlain status) where
  not_written : (d : Refusal) → HasRefusal refused a d → d.status ≡ s.WriteFault → ⊥
  not_written d k w = either k.cause
    where
      either : (d.status ≡ s.Memory)
          ⊎ ((names : List (List ℕ)) × refused a k.files names d.status × Says names d) → ⊥
      either (inl m) = cc
      either (inr (names, h, says)) = (plain k.files names d.status h).0 w

  pub write_fault-result : (X : Type 0) (found : Result I Refusal)
      → IfErr found (HasRefusal refused a) → RefusesWith found s.WriteFault ⊎ X → X
  write_fault-result X found k (inr x) = x
  write_fault-result X (Ok i) k (inl h) = absurd h
  write_fault-result X (Err d) k (inl h) = absurd (not_written d k h)

-- a session that finds no memory before it begins
IsRun-nothing : (whole : List Got → List ℕ → List ℕ → Status → List ℕ → Type 0)
    (promise : List Got → List ℕ → List ℕ → List ℕ → Type 0) (limit : ℕ) (a : Asked) (f : Fed)
    (o : Option (List ℕ)) → IsUntouched f → IsRun whole promise limit a f s.Memory o o
IsRun-nothing whole promise limit a f o u = record {
  files = [];
  got = tt;
  taken = [];
  more = unwrap_or f.left [];
  took = IsTaken-untouched limit f u;
  wrote = ([], nothing u, Appends-none o);
}

pub IsSession-nothing : (os : Presented → ℕ → List Proposal) (limit : ℕ) (a : Asked) (f : Fed)
    (o : Option (List ℕ)) → IsUntouched f → IsSession os limit a f s.Memory o o
IsSession-nothing os limit a f o u = of_words (command_of a.words)
  where
    of_command : (d : Command) → IsSessionOf os (Some d) limit a f s.Memory o o
    of_command (run pres) = IsRun-nothing _ _ limit a f o u
    of_command (run_table pres table) = IsRun-nothing _ _ limit a f o u
    of_command (check pres) = IsRun-nothing _ _ limit a f o u
    of_command (compile pres) = IsRun-nothing _ _ limit a f o u
    of_command (trees pres name) = IsRun-nothing _ _ limit a f o u
    of_command (collect pres) = IsRun-nothing _ _ limit a f o u
    of_command (example kind size) = IsRun-nothing _ _ limit a f o u
    of_command (load rows count seed) = IsRun-nothing _ _ limit a f o u

    of_words : (d : Option Command) → IsSessionOf os d limit a f s.Memory o o
    of_words None = IsRun-nothing _ _ limit a f o u
    of_words (Some d) = of_command d

-- how much is taken
pub given-bound : (os : Presented → ℕ → List Proposal) (command : Option Command) (limit : ℕ)
    (a : Asked) (f : Fed) (status : Status) (o n : Option (List ℕ))
    → IsSessionOf os command limit a f status o n
    → f.given' ≤ f.given + (limit + 4096)
given-bound os None limit a f status o n h = omega (arith, h.took.given.1, h.took.bound)
given-bound os (Some command) limit a f status o n h = of_command command h
  where
    of_command : (d : Command) → IsSessionOf os (Some d) limit a f status o n
        → f.given' ≤ f.given + (limit + 4096)
    of_command (run pres) k = omega (arith, k.took.given.1, k.took.bound)
    of_command (run_table pres table) k = omega (arith, k.took.given.1, k.took.bound)
    of_command (check pres) k = omega (arith, k.took.given.1, k.took.bound)
    of_command (compile pres) k = omega (arith, k.took.given.1, k.took.bound)
    of_command (trees pres name) k = omega (arith, k.took.given.1, k.took.bound)
    of_command (collect pres) k = omega (arith, k.took.given.1, k.took.bound)
    of_command (example kind size) k = omega (arith, k.took.given.1, k.took.bound)
    of_command (load rows count seed) k = omega (arith, k.took.given.1, k.took.bound)

-- it is the session of this command
pub IsSessionOf-is : (os : Presented → ℕ → List Proposal) (limit : ℕ) (a : Asked) (f : Fed)
    (status : Status) (o n : Option (List ℕ)) (command named : Option Named) → command ≡ named
    → IsSessionOf os (option_map seen named) limit a f status o n
    → IsSessionOf os (option_map seen command) limit a f status o n
IsSessionOf-is os limit a f status o n command named e h =
    let S : Option Named → Type 0 =
    λ d. IsSessionOf os (option_map seen d) limit a f status o n in
    subst S (sym e) h

-- the words are those of the command
pub IsSession-of : (os : Presented → ℕ → List Proposal) (limit : ℕ) (a : Asked) (f : Fed)
    (status : Status) (o n : Option (List ℕ)) (command : Option Command)
    → command ≡ command_of a.words → IsSessionOf os command limit a f status o n
    → IsSession os limit a f status o n
IsSession-of os limit a f status o n command e h =
    let S : Option Command → Type 0 = λ d. IsSessionOf os d limit a f status o n in
    subst S e h
