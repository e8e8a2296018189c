-- What a fault of a polynomial is for its lines.
--   fault_of fault     Wide or Memory, as the fault is
use Rattle.binom_poly.specs.declared.fault.PolyFault.{PolyFault}
use Rattle.binom_poly.specs.declared.fault.PolyFault.TheVariants as poly
use Rattle.tree_text.specs.declared.trees_fault.TreesFault.{TreesFault}
use Rattle.tree_text.specs.declared.trees_fault.TreesFault.TheVariants as trees

abbrev pub fault_of : PolyFault → TreesFault
fault_of poly.Wide = trees.Wide
fault_of poly.Memory = trees.Memory
