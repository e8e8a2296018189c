-- How a command that answers lines ends, once something was opened or refused.
--   IsAnsweredAs R limit f s old new   the lines were answered, and s is the status of their end
--   IsRefusedAs r f s old new          the refusal was written, and the source is untouched
--   EndsAs reply found limit f s old new   what was found is a replier and answered the lines, or a
--                                          refusal, which was written
--   RefusesWith found s                what was found is a refusal with this status
-- R which texts are replies to a line · reply i line   the reply of a replier · f what is fed
-- s status · r refusal
use Rattle.std.specs.Prelude.{◌≡◌, ◌≢◌, ℕ, List, Option, Result, Ok, Err}
use Rattle.session_io.specs.declared.end.End.{End}
use Rattle.session_io.specs.declared.stop.Stop.{Stop}
use Rattle.session_io.specs.Asked.{Fed, IsUntouched}
use Rattle.session_io.specs.Answers.{by_reply, IsAnswered}
use Rattle.query_session.specs.declared.refusal.Refusal.{Refusal}
use Rattle.query_session.specs.declared.status.Status.{Status}
use Rattle.query_session.specs.declared.status.Status.TheVariants as s
use Rattle.query_session.specs.Refusals.{said}
use Rattle.query_session.specs.Statuses.{outcome_status, Ended}

pub record IsAnsweredAs (R : List ℕ → List ℕ → Type 0) (limit : ℕ) (f : Fed) (status : Status)
    (old new : Option (List ℕ)) : Type 0 where
  pub outcome : Result End Stop
  pub is : status ≡ outcome_status outcome
  pub answered : IsAnswered R limit f outcome old new

pub record IsRefusedAs (r : Refusal) (f : Fed) (status : Status) (old new : Option (List ℕ))
    : Type 0 where
  pub untouched : IsUntouched f
  pub memory : r.status ≡ s.Memory → (status ≡ s.Memory) × (new ≡ old)
  pub written : r.status ≢ s.Memory → Ended (said r) r.status old new status

abbrev pub EndsAs : {I : Type 0} → (I → List ℕ → List ℕ) → Result I Refusal → ℕ → Fed → Status
    → Option (List ℕ) → Option (List ℕ) → Type 0
EndsAs reply (Ok i) limit f status old new = IsAnsweredAs (by_reply (reply i)) limit f status old new
EndsAs reply (Err r) limit f status old new = IsRefusedAs r f status old new

abbrev pub RefusesWith : {I : Type 0} → Result I Refusal → Status → Type 0
RefusesWith (Ok i) status = ⊥
RefusesWith (Err r) status = r.status ≡ status
