-- The entries of a cache of texts as pairs.
--   Entry A       a line and its reply, as texts of the allocator A
--   kept_of e     the pair of their bytes
--   pairs_of es   those of all entries
use Rattle.std.specs.Prelude.{List, map, String, string_bytes}
use Rattle.reply_memo.specs.Kept.{Kept, kept}

abbrev pub Entry : Type 0 → Type 0
Entry A = String A × String A

module _ {A : Type 0} where
  abbrev pub kept_of : Entry A → Kept
  kept_of e = kept (string_bytes e.0) (string_bytes e.1)

  abbrev pub pairs_of : List (Entry A) → List Kept
  pairs_of es = map kept_of es
