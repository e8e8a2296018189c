use Rattle.std.proofs.Common.{◌≡◌}
use Rattle.nil_pres.specs.Relations.{relations_of}
use Rattle.left_collect.specs.Conjugates.{commutes}
use Rattle.left_collect.specs.Collected.{behind}
use Rattle.left_collect.proofs.Walking.{onward}
use Rattle.left_collect.proofs.entries.is_free.Given as goal

abbrev pub invariant-loop-k : goal.invariant-loop-k
invariant-loop-k l = commutes (relations_of l.pres) l.generator (behind l.v l.generator)
    ≡ commutes (relations_of l.pres) l.generator (onward l.v l.k)
