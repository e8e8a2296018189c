use Rattle.std.proofs.Common.{◌≡◌, ◌*◌, string_bytes}
use Rattle.nil_examples.specs.Draws.{later}
use Rattle.nil_examples.specs.Loads.{queries}
use Rattle.nil_examples.proofs.loads.queries.Given as goal

abbrev pub invariant-loop-k : goal.invariant-loop-k
invariant-loop-k l = record {
  text : string_bytes l.text ≡ queries l.n l.seed l.k;
  state : l.draws.state ≡ later l.seed (8 * l.k);
}
