-- What is written is the output of an end, or a front of the one that is promised.
use Rattle.std.proofs.Common.{◌≡◌, ◌∙◌, ℕ, zero, suc, nat_lt, Bool, true, false, List, [], ◌∷◌, ◌++◌, Option, Ok, Err, inl, refl, sym, ap, subst, arith, length, take, length-append, append-nil, take_all}
use Rattle.std.specs.Io.KnownBytes.{Appends}
use Rattle.std.proofs.lemmas.List.{take-append-le}
use Rattle.std.proofs.lemmas.Bool.{ltb-true, ltb-false}
use Rattle.session_io.specs.declared.end.End.{End}
use Rattle.session_io.specs.declared.end.End.TheVariants as end
use Rattle.session_io.specs.declared.stop.Stop.{Stop}
use Rattle.session_io.specs.declared.stop.Stop.TheVariants as stop
use Rattle.session_io.specs.Asked.{Fed}
use Rattle.session_io.specs.Lines.{whole_lines}
use Rattle.session_io.specs.Taking.{IsTaken, IsEnd, finished, failed, long}
use Rattle.session_io.specs.Answers as answers
use Rattle.session_io.specs.Answers.{replies_by, by_reply, AreReplies, kept, ended_lines, answer_by, IsAnswer, within, above, IsPromised, IsOutput, IsAnswered}
use Rattle.session_io.specs.Stops as stops
use Rattle.session_io.specs.Stops.{IsStopped}
use Rattle.session_io.proofs.Answered.{replies_by-append, IsStopped-whole}
use Rattle.session_io.proofs.Appending.{Appends-none}
use Rattle.session_io.proofs.Lines.{whole_lines-append, lines_of-split}
use Rattle.session_io.proofs.Stopping.{IsStopped-front}
use Rattle.session_io.proofs.Unended.{lines_of-append}

AreReplies-by : (reply : List ℕ → List ℕ) (lines : List (List ℕ))
    → AreReplies (by_reply reply) lines (replies_by reply lines)
AreReplies-by reply [] = refl
AreReplies-by reply (line ∷ lines) =
    (reply line, replies_by reply lines, refl, AreReplies-by reply lines, refl)

IsAnswer-by : (reply : List ℕ → List ℕ) (limit : ℕ) (bytes : List ℕ) (e : End)
    → IsAnswer (by_reply reply) limit bytes e (answer_by reply e (kept limit e bytes))
IsAnswer-by reply limit bytes e = record {
  replies = replies_by reply (ended_lines e (kept limit e bytes));
  are = AreReplies-by reply (ended_lines e (kept limit e bytes));
  whole = refl;
}

-- a stop in front bytes is one in the whole
record Begins (front whole : List ℕ) : Type 0 where
  pub stopped : (o n : Option (List ℕ)) (s : Stop) → IsStopped front o n s → IsStopped whole o n s

Begins-answer_by : (reply : List ℕ → List ℕ) (e : End) (a b : List ℕ)
    → Begins (replies_by reply (whole_lines a)) (answer_by reply e (a ++ b))
Begins-answer_by reply e a b =
    let s = lines_of-split a in
    let more : whole_lines (a ++ b) ≡ whole_lines a ++ whole_lines (s.0 ++ b) =
    whole_lines-append (a ++ b) (s.0 ++ b) (whole_lines a)
    (lines_of-append a b s.0 (whole_lines a) s.1) in
    let replies = replies_by-append reply (whole_lines a) (whole_lines (s.0 ++ b)) in
    record {
      stopped = λ o n stop h.
          IsStopped-whole reply e (a ++ b) o n stop
          (subst (λ (t : List ℕ). IsStopped t o n stop) (sym (ap (replies_by reply) more ∙ replies))
          (IsStopped-front (replies_by reply (whole_lines a))
          (replies_by reply (whole_lines (s.0 ++ b))) o n stop h));
    }

take-more : (n : ℕ) (a b : List ℕ) → (c : List ℕ) × (take n (a ++ b) ≡ take n a ++ c)
take-more zero a b = ([], refl)
take-more (suc n) [] b = (take (suc n) b, refl)
take-more (suc n) (x ∷ a) b =
    let r = take-more n a b in (r.0, ap (λ (xs : List ℕ). x ∷ xs) r.1)

module _ (reply : List ℕ → List ℕ) (limit : ℕ) (f : Fed) (taken more : List ℕ) where
  -- what is left after the end changes no answer
  IsPromised-end : (e : End) → IsEnd limit f taken more e
      → IsPromised (by_reply reply) limit f taken more (answer_by reply e (kept limit e taken))
  IsPromised-end e (finished h none few) =
      let same : taken ++ more ≡ taken = ap (λ (t : List ℕ). taken ++ t) none ∙ append-nil taken in
      record {
        e = end.Finished;
        bytes = taken ++ more;
        determined = within (omega (arith, few, ap length same));
        answer =
            subst (λ (bytes : List ℕ). IsAnswer (by_reply reply) limit bytes end.Finished
            (answer_by reply end.Finished taken))
            (sym same) (IsAnswer-by reply limit taken end.Finished);
      }
  IsPromised-end e (failed rose few) = record {
    e = end.Failed;
    bytes = taken;
    determined = answers.failed rose few;
    answer = IsAnswer-by reply limit taken end.Failed;
  }
  IsPromised-end e (long rose many) =
      let same : take limit (taken ++ more) ≡ take limit taken =
      take-append-le limit taken more (omega (arith, many)) in
      record {
        e = end.Long;
        bytes = taken ++ more;
        determined = above (omega (arith, many, length-append taken more));
        answer =
            subst (λ (bytes : List ℕ). IsAnswer (by_reply reply) limit (taken ++ more) end.Long
            (answer_by reply end.Long bytes))
            same (IsAnswer-by reply limit (taken ++ more) end.Long);
      }

  -- the replies to the lines within the limit begin a promised output
  IsPromised-lines : (out : List ℕ) × IsPromised (by_reply reply) limit f taken more out
      × Begins (replies_by reply (whole_lines (take limit taken))) out
  IsPromised-lines = at (nat_lt limit (length (taken ++ more))) refl
    where
      at : (b : Bool) → nat_lt limit (length (taken ++ more)) ≡ b
          → (out : List ℕ) × IsPromised (by_reply reply) limit f taken more out
          × Begins (replies_by reply (whole_lines (take limit taken))) out
      at true h =
          let next = take-more limit taken more in (
            answer_by reply end.Long (take limit (taken ++ more)),
            record {
              e = end.Long;
              bytes = taken ++ more;
              determined = above (ltb-true limit (length (taken ++ more)) h);
              answer = IsAnswer-by reply limit (taken ++ more) end.Long;
            },
            subst (λ (bytes : List ℕ). Begins (replies_by reply (whole_lines (take limit taken)))
                (answer_by reply end.Long bytes))
                (sym next.1) (Begins-answer_by reply end.Long (take limit taken) next.0),
          )
      at false h =
          let few = ltb-false limit (length (taken ++ more)) h in
          let all : take limit taken ≡ taken =
          take_all limit taken (omega (arith, few, length-append taken more)) in (
            answer_by reply end.Finished (taken ++ more),
            record {
              e = end.Finished;
              bytes = taken ++ more;
              determined = within few;
              answer = IsAnswer-by reply limit (taken ++ more) end.Finished;
            },
            subst (λ (bytes : List ℕ). Begins (replies_by reply (whole_lines bytes))
                (answer_by reply end.Finished (taken ++ more)))
                (sym all) (Begins-answer_by reply end.Finished taken more),
          )

  IsOutput-ok : (e : End) (old new : Option (List ℕ)) → IsEnd limit f taken more e
      → Appends old new (answer_by reply e (kept limit e taken))
      → IsOutput (by_reply reply) limit f taken more (Ok e) old new
  IsOutput-ok e old new h w =
      (answer_by reply e (kept limit e taken), h, IsAnswer-by reply limit taken e, w)

  IsOutput-stopped : (out : List ℕ) → IsPromised (by_reply reply) limit f taken more out
      → (s : Stop) (old new : Option (List ℕ)) → IsStopped out old new s
      → IsOutput (by_reply reply) limit f taken more (Err s) old new
  IsOutput-stopped out p s old new (stops.failed front rest split w) =
      (front, record { whole = out; rest = rest; promised = p; split = split }, w)
  IsOutput-stopped out p s old new (stops.short front rest split w m) = (
    front,
    record {
      is_front = record { whole = out; rest = rest; promised = p; split = split };
      at_line = m;
    },
    w,
  )

  module _ (took : IsTaken limit f taken more) where
    pub IsAnswered-ok : (e : End) (old new : Option (List ℕ)) → IsEnd limit f taken more e
        → Appends old new (answer_by reply e (kept limit e taken))
        → IsAnswered (by_reply reply) limit f (Ok e) old new
    IsAnswered-ok e old new h w =
        record { taken = taken; more = more; took = took; wrote = IsOutput-ok e old new h w }

    pub IsAnswered-stopped : (e : End) (s : Stop) (old new : Option (List ℕ))
        → IsEnd limit f taken more e → IsStopped (answer_by reply e (kept limit e taken)) old new s
        → IsAnswered (by_reply reply) limit f (Err s) old new
    IsAnswered-stopped e s old new h w = record {
      taken = taken;
      more = more;
      took = took;
      wrote =
          IsOutput-stopped (answer_by reply e (kept limit e taken)) (IsPromised-end e h) s old new w;
    }

    -- a stop among the replies to the lines within the limit
    pub IsAnswered-lines : (s : Stop) (old new : Option (List ℕ))
        → IsStopped (replies_by reply (whole_lines (take limit taken))) old new s
        → IsAnswered (by_reply reply) limit f (Err s) old new
    IsAnswered-lines s old new w =
        let out = IsPromised-lines in
        record {
          taken = taken;
          more = more;
          took = took;
          wrote = IsOutput-stopped out.0 out.1 s old new (out.2.stopped old new s w);
        }

    -- nothing was written
    pub IsAnswered-none : (old : Option (List ℕ))
        → IsAnswered (by_reply reply) limit f (Err stop.Memory) old old
    IsAnswered-none old =
        IsAnswered-lines stop.Memory old old
        (stops.short [] (replies_by reply (whole_lines (take limit taken))) refl (Appends-none old)
        (inl refl))
