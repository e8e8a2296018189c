use Rattle.std.proofs.Common.{drop}
use Rattle.table_json.specs.TermRules.{Ascend}
use Rattle.table_json.proofs.next.ascend.Given as goal

abbrev pub invariant-loop-part : goal.invariant-loop-part
invariant-loop-part l = record {
  up : Ascend l.low (drop l.part-index l.parts) → Ascend 0 l.parts;
  down : Ascend 0 l.parts → Ascend l.low (drop l.part-index l.parts);
}
