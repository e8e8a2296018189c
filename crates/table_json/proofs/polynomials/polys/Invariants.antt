use Rattle.table_json.proofs.Progress.{SaysPolysOn, RefusesPolysOn}
use Rattle.table_json.proofs.polynomials.polys.Given as goal

abbrev pub invariant-loop-value : goal.invariant-loop-value
invariant-loop-value l = record {
  says : SaysPolysOn l.n l.values l.value-index l.polys.items;
  refuses : RefusesPolysOn l.n l.values l.value-index;
}
