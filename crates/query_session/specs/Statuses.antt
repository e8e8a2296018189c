-- The numbers and the texts of statuses, and where they come from.
--   number_of status         the number that the program ends with
--   refusal_text r           the text of a refused table
--   plain_text status        the lines that a status writes whose text names no generator; none
--                            where it is Done, WriteFault or Memory
--   text_of names status     the lines that a status writes over a presentation with these names
--   end_status e             the status of an end of the source
--   stop_status s            the status of a stop
--   outcome_status r         the status of either
--   file_status e            the status of a file that wasn't read
--   pres_status fault        the status of a presentation file's first fault
--   table_status fault       the status of a table file's first fault
--   example_status fault     the status of a fault of an example
--   Ended text status .. r   the text was written and r is the status, or writing stopped
use Rattle.std.specs.Prelude.{ℕ, List, [], ◌∷◌, ◌++◌, codes, Option, Result, Ok, Err}
use Rattle.std.specs.Fmt.{decimal}
use Rattle.std.specs.Io.KnownBytes.{Appends}
use Rattle.pres_text.specs.declared.pres_fault.PresFault.{PresFault}
use Rattle.pres_text.specs.declared.pres_fault.PresFault.TheVariants as fault
use Rattle.pres_text.specs.FaultTexts.{file_fault_text}
use Rattle.table_json.specs.declared.table_fault.TableFault.{TableFault}
use Rattle.table_json.specs.declared.table_fault.TableFault.TheVariants as table
use Rattle.table_json.specs.FaultTexts as table_texts
use Rattle.nil_examples.specs.declared.example_fault.ExampleFault.{ExampleFault}
use Rattle.nil_examples.specs.declared.example_fault.ExampleFault.TheVariants as example
use Rattle.identity_check.specs.Texts.{identity_text, failure_text}
use Rattle.nil_io.specs.declared.shelf_fault.ShelfFault.{ShelfFault}
use Rattle.nil_io.specs.declared.shelf_fault.ShelfFault.TheVariants as shelf
use Rattle.session_io.specs.declared.end.End.{End}
use Rattle.session_io.specs.declared.end.End.TheVariants as end
use Rattle.session_io.specs.declared.stop.Stop.{Stop}
use Rattle.session_io.specs.declared.stop.Stop.TheVariants as stop
use Rattle.session_io.specs.Answers.{end_text}
use Rattle.session_io.specs.Stops.{IsStopped}
use Rattle.compile_text.specs.Lines.{inconsistent_lines, wide_lines}
use Rattle.query_session.specs.declared.status.Status.{Status}
use Rattle.query_session.specs.declared.status.Status.TheVariants as s
use Rattle.query_session.specs.declared.table_refusal.TableRefusal.{TableRefusal}
use Rattle.query_session.specs.declared.table_refusal.TableRefusal.TheVariants as r

abbrev pub number_of : Status → ℕ
number_of s.Done = 0
number_of (s.Usage kind) = 2
number_of (s.BadFile line kind) = 3
number_of (s.Inconsistent o) = 4
number_of (s.Wide at) = 5
number_of s.ReadFault = 6
number_of s.WriteFault = 7
number_of s.Memory = 8
number_of (s.TableRefused refusal) = 9
number_of s.LongInput = 10
number_of (s.Size n) = 11

abbrev pub refusal_text : TableRefusal → List ℕ
refusal_text (r.Form fault) = table_texts.fault_text fault
refusal_text (r.Identity failure) = codes "table refused " ++ failure_text failure
refusal_text (r.Wide id) = codes "table wide " ++ identity_text id

abbrev pub plain_text : Status → List (List ℕ)
plain_text s.Done = []
plain_text (s.Usage kind) = codes "usage" ∷ []
plain_text (s.BadFile line kind) = file_fault_text line kind ∷ []
plain_text (s.Inconsistent o) = []
plain_text (s.Wide at) = []
plain_text s.ReadFault = end_text end.Failed
plain_text s.WriteFault = []
plain_text s.Memory = []
plain_text (s.TableRefused refusal) = refusal_text refusal ∷ []
plain_text s.LongInput = end_text end.Long
plain_text (s.Size n) = (codes "size " ++ decimal n) ∷ []

abbrev pub text_of : List (List ℕ) → Status → List (List ℕ)
text_of names (s.Inconsistent o) = inconsistent_lines names o
text_of names (s.Wide at) = wide_lines names at
text_of names status = plain_text status

abbrev pub end_status : End → Status
end_status end.Finished = s.Done
end_status end.Failed = s.ReadFault
end_status end.Long = s.LongInput

abbrev pub stop_status : Stop → Status
stop_status stop.Failed = s.WriteFault
stop_status stop.Memory = s.Memory

abbrev pub outcome_status : Result End Stop → Status
outcome_status (Ok e) = end_status e
outcome_status (Err s) = stop_status s

abbrev pub file_status : ShelfFault → Status
file_status shelf.Failed = s.ReadFault
file_status shelf.Long = s.LongInput
file_status shelf.Memory = s.Memory

abbrev pub pres_status : PresFault → Status
pres_status (fault.File line kind) = s.BadFile line kind
pres_status fault.Memory = s.Memory

abbrev pub table_status : TableFault → Status
table_status table.Memory = s.Memory
table_status fault = s.TableRefused (r.Form fault)

abbrev pub example_status : ExampleFault → Status
example_status (example.Size n) = s.Size n
example_status example.Memory = s.Memory

pub data Ended (text : List ℕ) (status : Status) (old new : Option (List ℕ)) : Status → Type 0 where
  ended : Appends old new text → Ended text status old new status
  stopped : (stop : Stop) → IsStopped text old new stop
      → Ended text status old new (stop_status stop)
