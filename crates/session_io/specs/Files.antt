-- The files that a session got.
--   Got                        the bytes that were got of a name, with the limit of the reading
--   IsGot a g                  they are the contents where these are known, and within the limit
--   AreGot a files             each of the files, in the order of reading
--   IsUnread a name limit e    the reading of a name within a limit failed so, with its cause
-- a what is asked for · g file got · e fault of a shelf
use Rattle.std.specs.Prelude.{◌≡◌, ℕ, ◌<◌, ◌≤◌, List, [], ◌∷◌, length, IfSome}
use Rattle.nil_io.specs.declared.shelf_fault.ShelfFault.{ShelfFault}
use Rattle.nil_io.specs.declared.shelf_fault.ShelfFault.TheVariants.{Failed, Long}
use Rattle.nil_io.specs.Causes.{Rose}
use Rattle.session_io.specs.Asked.{Asked}

pub record Got : Type 0 where
  pub name : List ℕ
  pub limit : ℕ
  pub bytes : List ℕ

pub record IsGot (a : Asked) (g : Got) : Type 0 where
  pub known : IfSome (a.contents g.name) (λ known. g.bytes ≡ known)
  -- of unknown contents too
  pub within : length g.bytes ≤ g.limit

abbrev pub AreGot : Asked → List Got → Type 0
AreGot a [] = Unit {0}
AreGot a (g ∷ files) = IsGot a g × AreGot a files

pub data IsUnread (a : Asked) (name : List ℕ) (limit : ℕ) : ShelfFault → Type 0 where
  failed : Rose (a.faults name) (a.faults' name) → IsUnread a name limit Failed
  long : Rose (a.longs name limit) (a.longs' name limit)
      → IfSome (a.contents name) (λ known. limit < length known) → IsUnread a name limit Long
