-- The first fault of a presentation file. Lines are tried in order, and on each line the rules in
-- theirs. A fault is None where there is none.
--   is_header ws, header_fault text     the words of the first line that says something; its fault
--   name_fault names name, names_fault names ws   of one more name, and of more
--   first_of a b                   a, and b where that is None
--   generator_words_fault ws, generators_fault text   of the second line
--   names_of text                  the names of a second line without a fault
--   at_line n kind later           the fault with its line, and else what later lines say
--   relations_fault names given ls     of relation lines behind those that were given before
--   second_fault end ls, lines_fault end ls   of lines from the second and from the first on, where
--                                  the file ends before line end
--   first_fault file               the first fault
use Rattle.std.specs.Prelude.{ℕ, ◌+◌, ◌&&◌, not, nat_le, Bool, false, List, [], ◌∷◌, ◌++◌, length, drop, Option, Some, None, codes}
use Rattle.std.specs.List.{list_any}
use Rattle.std.specs.Str.{bytes_eq}
use Rattle.nil_pres.specs.Presented.{is_name}
use Rattle.pres_text.specs.declared.file_kind.FileKind.{FileKind}
use Rattle.pres_text.specs.declared.file_kind.FileKind.TheVariants as kind
use Rattle.pres_text.specs.declared.pres_fault.PresFault.{PresFault}
use Rattle.pres_text.specs.declared.pres_fault.PresFault.TheVariants.{File}
use Rattle.pres_text.specs.Lines.{Line, lines, content, words, is_text}
use Rattle.pres_text.specs.Relation.{Spelled, spelling_of}
use Rattle.pres_text.specs.RelationFaults.{broken, line_fault, with_given}

abbrev pub is_header : List (List ℕ) → Bool
is_header (a ∷ b ∷ []) = bytes_eq a (codes "nilpotent") && bytes_eq b (codes "1")
is_header _ = false

abbrev pub header_fault : List ℕ → Option FileKind
header_fault text =
    broken (not (is_text text)) kind.NotText
    (broken (not (is_header (words text))) kind.Header None)

abbrev pub name_fault : List (List ℕ) → List ℕ → Option FileKind
name_fault names name =
    broken (nat_le 48 (length names)) kind.TooMany
    (broken (not (is_name name)) kind.Name
    (broken (list_any (bytes_eq name) names) kind.TwiceName None))

abbrev pub first_of : {A : Type 0} → Option A → Option A → Option A
first_of None later = later
first_of (Some x) later = Some x

abbrev pub names_fault : List (List ℕ) → List (List ℕ) → Option FileKind
names_fault names [] = None
names_fault names (w ∷ ws) = first_of (name_fault names w) (names_fault (names ++ w ∷ []) ws)

abbrev pub generator_words_fault : List (List ℕ) → Option FileKind
generator_words_fault [] = Some kind.Header
generator_words_fault (w ∷ []) = Some kind.Header
generator_words_fault (w ∷ name ∷ names) =
    broken (not (bytes_eq w (codes "generators"))) kind.Header (names_fault [] (name ∷ names))

abbrev pub generators_fault : List ℕ → Option FileKind
generators_fault text =
    broken (not (is_text text)) kind.NotText (generator_words_fault (words text))

abbrev pub names_of : List ℕ → List (List ℕ)
names_of text = drop 1 (words text)

abbrev pub at_line : ℕ → Option FileKind → Option PresFault → Option PresFault
at_line n None later = later
at_line n (Some kind) later = Some (File n kind)

abbrev pub relations_fault : List (List ℕ) → List Spelled → List Line → Option PresFault
relations_fault names given [] = None
relations_fault names given (l ∷ ls) =
    at_line l.number (line_fault names given l.text)
    (relations_fault names (with_given (spelling_of names l.text) given) ls)

abbrev pub second_fault : ℕ → List Line → Option PresFault
second_fault end [] = Some (File end kind.Header)
second_fault end (l ∷ ls) =
    at_line l.number (generators_fault l.text) (relations_fault (names_of l.text) [] ls)

abbrev pub lines_fault : ℕ → List Line → Option PresFault
lines_fault end [] = Some (File end kind.Header)
lines_fault end (l ∷ ls) = at_line l.number (header_fault l.text) (second_fault end ls)

abbrev pub first_fault : List ℕ → Option PresFault
first_fault file = lines_fault (length (lines file) + 1) (content file)
