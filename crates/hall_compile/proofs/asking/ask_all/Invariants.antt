use Rattle.std.proofs.Common.{◌≡◌, ℕ, map}
use Rattle.hall_compile.specs.Proposals.{proposal}
use Rattle.hall_compile.proofs.AskedSoFar.{AskedUpTo}
use Rattle.hall_compile.proofs.asking.ask_all.Given as goal

-- all so far were asked and not taken, and each still means what it meant
abbrev pub invariant-loop-proposer : goal.invariant-loop-proposer
invariant-loop-proposer g l = record {
  asked : AskedUpTo l.pres l.i
      (map (λ b. proposal ((goal.Proposer-dyn g (b.vtable, b.value)).named b.value)
      ((goal.Proposer-dyn g (b.vtable, b.value)).gives b.value l.pres l.i)) l.initial.proposers)
      l.proposer-index l.initial.asked.items l.asked.items;
  same : (m : ℕ)
      → map (λ b. proposal ((goal.Proposer-dyn g (b.vtable, b.value)).named b.value)
      ((goal.Proposer-dyn g (b.vtable, b.value)).gives b.value l.pres m)) l.proposers
      ≡ map (λ b. proposal ((goal.Proposer-dyn g (b.vtable, b.value)).named b.value)
      ((goal.Proposer-dyn g (b.vtable, b.value)).gives b.value l.pres m)) l.initial.proposers;
}
