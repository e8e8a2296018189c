use Rattle.table_json.proofs.Progress.{SaysOn, RefusesOn}
use Rattle.table_json.proofs.terms.poly.Given as goal

abbrev pub invariant-loop-value : goal.invariant-loop-value
invariant-loop-value l = record {
  says : SaysOn l.n l.value-items l.value-index l.terms.items;
  refuses : RefusesOn l.n l.value-items l.value-index l.terms.items;
}
