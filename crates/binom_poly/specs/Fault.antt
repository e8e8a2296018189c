-- What a fault says of a written order.
--   wide_of fault    Wide is the refusal of the order; want of memory is none, and says nothing
use Rattle.std.specs.Prelude.{Option, Some, None}
use Rattle.binom_poly.specs.declared.fault.PolyFault.{PolyFault}
use Rattle.binom_poly.specs.declared.fault.PolyFault.TheVariants.{Wide, Memory}

abbrev pub wide_of : PolyFault → Option (Unit {0})
wide_of Wide = Some tt
wide_of Memory = None
