-- The place that a fault names.
--   place_of fault    the first place that overflows, and None for want of memory
use Rattle.std.specs.Prelude.{Option, Some, None}
use Rattle.hall_table.specs.declared.wide_at.WideAt.{WideAt}
use Rattle.group_eval.specs.declared.eval_fault.EvalFault.{EvalFault}
use Rattle.group_eval.specs.declared.eval_fault.EvalFault.TheVariants.{Wide, Memory}

abbrev pub place_of : EvalFault → Option WideAt
place_of (Wide at) = Some at
place_of Memory = None
