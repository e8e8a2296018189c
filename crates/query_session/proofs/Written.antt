-- What is written is the output of the status, or a front of the one under way.
use Rattle.std.proofs.Common.{◌≡◌, ℕ, List, Option, refl}
use Rattle.std.specs.Io.KnownBytes.{Appends}
use Rattle.session_io.specs.declared.stop.Stop.{Stop}
use Rattle.session_io.specs.Asked.{Fed}
use Rattle.session_io.specs.Stops as stops
use Rattle.session_io.specs.Stops.{IsStopped}
use Rattle.query_session.specs.declared.status.Status.{Status}
use Rattle.query_session.specs.declared.status.Status.TheVariants as s
use Rattle.query_session.specs.Statuses.{stop_status, Ended, ended, stopped}
use Rattle.query_session.specs.Runs.{Wrote, at_line}

module _ (W : Status → List ℕ → Type 0) (P : List ℕ → Type 0) (f : Fed)
    (old new : Option (List ℕ)) where
  pub Wrote-whole : (status : Status) (out : List ℕ) → (status ≡ s.WriteFault → ⊥)
      → (status ≡ s.Memory → ⊥) → W status out → Appends old new out → Wrote W P f status old new
  Wrote-whole s.Done out n m h w = (out, h, w)
  Wrote-whole (s.Usage kind) out n m h w = (out, h, w)
  Wrote-whole (s.BadFile line kind) out n m h w = (out, h, w)
  Wrote-whole (s.Inconsistent o) out n m h w = (out, h, w)
  Wrote-whole (s.Wide at) out n m h w = (out, h, w)
  Wrote-whole s.ReadFault out n m h w = (out, h, w)
  Wrote-whole s.WriteFault out n m h w = absurd (n refl)
  Wrote-whole s.Memory out n m h w = absurd (m refl)
  Wrote-whole (s.TableRefused refusal) out n m h w = (out, h, w)
  Wrote-whole s.LongInput out n m h w = (out, h, w)
  Wrote-whole (s.Size size) out n m h w = (out, h, w)

  Wrote-stopped : (text : List ℕ) (stop : Stop) → P text → IsStopped text old new stop
      → Wrote W P f (stop_status stop) old new
  Wrote-stopped text stop h (stops.failed front rest e w) =
      (front, record { whole = text; rest = rest; promised = h; split = e }, w)
  Wrote-stopped text stop h (stops.short front rest e w m) = (
    front,
    at_line front
        (record {
          is_front = record { whole = text; rest = rest; promised = h; split = e };
          at_line = m;
        }),
    w,
  )

  pub Wrote-ended : (status : Status) (text : List ℕ) (r : Status) → (status ≡ s.WriteFault → ⊥)
      → (status ≡ s.Memory → ⊥) → W status text → P text → Ended text status old new r
      → Wrote W P f r old new
  Wrote-ended status text r n m h k (ended w) = Wrote-whole status text n m h w
  Wrote-ended status text r n m h k (stopped stop w) = Wrote-stopped text stop k w
