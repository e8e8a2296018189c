-- The ways to grow from nothing, type by type.
--   AreKnown a e level wss   wss are the ways to grow from nothing by each type from the level on
-- a arena · e exponents · wss lists of ways · i place
use Rattle.std.specs.Prelude.{ℕ, ◌+◌, ◌<◌, List, [], length, get_or, Vec}
use Rattle.std.specs.declared.alloc.Global.{Global}
use Rattle.dt_letters.specs.Allowed.{Exponents}
use Rattle.dt_letters.specs.Listing.{grown}
use Rattle.dt_letters.specs.Arena.{Arena}
use Rattle.dt_trees.specs.declared.grown.Grown.{Grown}
use Rattle.dt_trees.specs.Ways.{AreWays}

abbrev pub AreKnown : Arena → Exponents → ℕ → List (Vec Grown Global) → Type 0
AreKnown a e level wss =
    (i : ℕ) (d : Vec Grown Global) → i < length wss
    → AreWays a (get_or wss i d).items (grown e level (level + i) [] (level + i))
