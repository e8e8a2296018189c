-- The texts of faults.
--   fault_text fault   the kind and the place of a line's first fault; [] where memory ran out
--   shown_text fault   what is shown of a fault, want of memory too
use Rattle.std.specs.Prelude.{ℕ, List, [], ◌++◌, codes}
use Rattle.std.specs.Fmt.{decimal}
use Rattle.word_text.specs.declared.query_fault.QueryFault.{QueryFault}
use Rattle.word_text.specs.declared.query_fault.QueryFault.TheVariants as fault

abbrev pub fault_text : QueryFault → List ℕ
fault_text (fault.Syntax place) = codes "syntax " ++ decimal place
fault_text (fault.Unknown place) = codes "unknown " ++ decimal place
fault_text (fault.Number place) = codes "number " ++ decimal place
fault_text (fault.Deep place) = codes "deep " ++ decimal place
fault_text fault.Memory = []

abbrev pub shown_text : QueryFault → List ℕ
shown_text fault.Memory = codes "out of memory"
shown_text f = fault_text f
