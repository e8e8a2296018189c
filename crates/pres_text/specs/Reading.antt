-- What the reader makes of the lines: its builder is the draft of a presentation.
--   fault_place f             the fault that a file has, and None where memory ran out
--   name_fault_at n f, relation_fault_at n f   a fault of the builder, on line n
--   named d names             the draft with more names
--   has_unknown_number c      some name of a relation is no generator
--   clipped_fault n d c, with_clipped d c   the fault of a relation behind a draft, and the draft
--                             with it
--   found_in d l              the relation that a line spells, None where it spells none
--   found_fault n d o, with_found d o       the same of what a line spells
--   drafted_fault d l, with_line d l        the same of a line
--   rest_fault d ls, related d ls           the first fault of lines, and the draft with them
--   start                     the draft without names
--   named_by l                the draft of the second line
--   second_drafted_fault end ls, second_drafted ls   the first fault and the draft from the second
--                             line on, where the file ends before line end
--   all_drafted_fault end ls, all_drafted ls         the same of all lines
-- d draft · c relation · l line · n its number
use Rattle.std.specs.Prelude.{ℕ, ◌==◌, ◌||◌, Bool, not, List, [], ◌∷◌, Option, Some, None, option_map, if◌then◌else◌}
use Rattle.std.specs.List.{list_any}
use Rattle.nil_pres.specs.declared.name_fault.NameFault.{NameFault}
use Rattle.nil_pres.specs.declared.name_fault.NameFault.TheVariants as name
use Rattle.nil_pres.specs.declared.relation_fault.RelationFault.{RelationFault}
use Rattle.nil_pres.specs.declared.relation_fault.RelationFault.TheVariants as fault
use Rattle.nil_pres.specs.Presented as nil
use Rattle.pres_text.specs.declared.file_kind.FileKind.TheVariants as kind
use Rattle.pres_text.specs.declared.pres_fault.PresFault.{PresFault}
use Rattle.pres_text.specs.declared.pres_fault.PresFault.TheVariants.{File, Memory}
use Rattle.pres_text.specs.Lines.{Line, is_text}
use Rattle.pres_text.specs.Relation.{spelling_of}
use Rattle.pres_text.specs.Spelling.{Clipped, spelled_clipped}
use Rattle.pres_text.specs.FirstFault.{first_of, at_line, header_fault, generators_fault, names_of}

abbrev pub fault_place : PresFault → Option PresFault
fault_place (File n k) = Some (File n k)
fault_place Memory = None

abbrev pub name_fault_at : ℕ → NameFault → PresFault
name_fault_at n name.TooMany = File n kind.TooMany
name_fault_at n name.Name = File n kind.Name
name_fault_at n name.TwiceName = File n kind.TwiceName
name_fault_at n name.Memory = Memory

abbrev pub relation_fault_at : ℕ → RelationFault → PresFault
relation_fault_at n fault.Order = File n kind.Order
relation_fault_at n fault.Twice = File n kind.Twice
relation_fault_at n (fault.Above place) = File n kind.Above
relation_fault_at n (fault.Number place) = File n kind.Number
relation_fault_at n (fault.Zero place) = File n kind.Zero
relation_fault_at n fault.Memory = Memory

abbrev pub named : nil.Draft → List (List ℕ) → nil.Draft
named d [] = d
named d (w ∷ ws) = named (nil.with_name d w) ws

abbrev pub has_unknown_number : Clipped → Bool
has_unknown_number c = (c.above == 0) || (c.below == 0) || list_any (λ s. s.number == 0) c.right

abbrev pub clipped_fault : ℕ → nil.Draft → Clipped → Option PresFault
clipped_fault n d c =
    if has_unknown_number c then Some (File n kind.Name)
    else option_map (relation_fault_at n) (nil.relation_fault d c.below c.above c.right)

abbrev pub found_fault : ℕ → nil.Draft → Option Clipped → Option PresFault
found_fault n d None = Some (File n kind.Relation)
found_fault n d (Some c) = clipped_fault n d c

abbrev pub found_in : nil.Draft → Line → Option Clipped
found_in d l = option_map spelled_clipped (spelling_of d.names l.text)

abbrev pub drafted_fault : nil.Draft → Line → Option PresFault
drafted_fault d l =
    if not (is_text l.text) then Some (File l.number kind.NotText)
    else found_fault l.number d (found_in d l)

abbrev pub with_clipped : nil.Draft → Clipped → nil.Draft
with_clipped d c = nil.with_relation d c.below c.above c.right

abbrev pub with_found : nil.Draft → Option Clipped → nil.Draft
with_found d None = d
with_found d (Some c) = with_clipped d c

abbrev pub with_line : nil.Draft → Line → nil.Draft
with_line d l = with_found d (found_in d l)

abbrev pub related : nil.Draft → List Line → nil.Draft
related d [] = d
related d (l ∷ ls) = related (with_line d l) ls

abbrev pub rest_fault : nil.Draft → List Line → Option PresFault
rest_fault d [] = None
rest_fault d (l ∷ ls) = first_of (drafted_fault d l) (rest_fault (with_line d l) ls)

abbrev pub start : nil.Draft
start = record { names = []; rights = [] }

abbrev pub named_by : Line → nil.Draft
named_by l = named start (names_of l.text)

abbrev pub second_drafted_fault : ℕ → List Line → Option PresFault
second_drafted_fault end [] = Some (File end kind.Header)
second_drafted_fault end (l ∷ ls) =
    at_line l.number (generators_fault l.text) (rest_fault (named_by l) ls)

abbrev pub second_drafted : List Line → nil.Draft
second_drafted [] = start
second_drafted (l ∷ ls) = related (named_by l) ls

abbrev pub all_drafted_fault : ℕ → List Line → Option PresFault
all_drafted_fault end [] = Some (File end kind.Header)
all_drafted_fault end (l ∷ ls) =
    at_line l.number (header_fault l.text) (second_drafted_fault end ls)

abbrev pub all_drafted : List Line → nil.Draft
all_drafted [] = start
all_drafted (l ∷ ls) = second_drafted ls
