-- Named files in memory.
--   views files                    files by the bytes of their names and contents
--   contents_of files name         the bytes of the first file with a name
--   contents_or_empty files name   the same, and no bytes where the name is missing
use Rattle.std.specs.Prelude.{ℕ, List, [], ◌∷◌, map, String, Vec, string_bytes, Some, None, Option, unwrap_or, if◌then◌else◌}
use Rattle.std.specs.Str.{bytes_eq}
use Rattle.std.specs.declared.alloc.Global.{Global}

abbrev pub views : List (String Global × Vec ℕ Global) → List (List ℕ × List ℕ)
views files = map (λ file. (string_bytes file.0, file.1.items)) files

abbrev pub contents_of : List (List ℕ × List ℕ) → List ℕ → Option (List ℕ)
contents_of [] name = None
contents_of (file ∷ files) name =
    if bytes_eq name file.0 then Some file.1 else contents_of files name

abbrev pub contents_or_empty : List (List ℕ × List ℕ) → List ℕ → List ℕ
contents_or_empty files name = unwrap_or (contents_of files name) []
