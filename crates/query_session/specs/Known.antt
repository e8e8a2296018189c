-- What is known and meets no fault.
--   IsKnown a g           the file g is known and within its limit, and no fault rose at its name
--   AreKnown limit f      the query bytes are known and within the limit, and no fault rose
-- a what is asked for · g file got · f what is fed
use Rattle.std.specs.Prelude.{◌≡◌, ℕ, ◌≤◌, List, length, Some}
use Rattle.nil_io.specs.Causes.{Rose}
use Rattle.session_io.specs.Asked.{Asked, Fed}
use Rattle.session_io.specs.Files.{Got}

pub record IsKnown (a : Asked) (g : Got) : Type 0 where
  pub known : a.contents g.name ≡ Some g.bytes
  pub within : length g.bytes ≤ g.limit
  pub shelf : Rose (a.faults g.name) (a.faults' g.name) → ⊥

pub record AreKnown (limit : ℕ) (f : Fed) : Type 0 where
  pub queries : List ℕ
  pub known : f.left ≡ Some queries
  pub few : length queries ≤ limit
  pub source : Rose f.faults f.faults' → ⊥
