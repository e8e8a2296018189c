-- The texts of faults.
--   kind_text kind              the kind of a fault, in lower-case letters
--   file_fault_text line kind   the place and the kind of a file's first fault
--   fault_text fault            the text of a fault, want of memory too
use Rattle.std.specs.Prelude.{ℕ, List, ◌++◌, codes}
use Rattle.std.specs.Fmt.{decimal}
use Rattle.pres_text.specs.declared.file_kind.FileKind.{FileKind}
use Rattle.pres_text.specs.declared.file_kind.FileKind.TheVariants as k
use Rattle.pres_text.specs.declared.pres_fault.PresFault.{PresFault}
use Rattle.pres_text.specs.declared.pres_fault.PresFault.TheVariants.{File, Memory}

abbrev pub kind_text : FileKind → List ℕ
kind_text k.Header = codes "header"
kind_text k.Name = codes "name"
kind_text k.TwiceName = codes "twicename"
kind_text k.Relation = codes "relation"
kind_text k.Order = codes "order"
kind_text k.Twice = codes "twice"
kind_text k.Above = codes "above"
kind_text k.Number = codes "number"
kind_text k.Zero = codes "zero"
kind_text k.TooMany = codes "toomany"
kind_text k.NotText = codes "nottext"

abbrev pub file_fault_text : ℕ → FileKind → List ℕ
file_fault_text line kind = codes "file " ++ decimal line ++ codes " " ++ kind_text kind

abbrev pub fault_text : PresFault → List ℕ
fault_text (File line kind) = file_fault_text line kind
fault_text Memory = codes "want of memory"
