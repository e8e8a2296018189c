use Rattle.std.proofs.Common.{◌≡◌, ℕ, map}
use Rattle.hall_compile.specs.Proposals.{proposal}
use Rattle.hall_compile.specs.Levels.{Reached}
use Rattle.hall_compile.proofs.compiling.compile.Given as goal

-- the table of the level above the next one is reached, and each proposer means what it meant
abbrev pub invariant-loop-i : goal.invariant-loop-i
invariant-loop-i g l = record {
  pres : l.checked.pres ≡ l.pres;
  level : l.checked.table.level ≡ l.i;
  reached : Reached l.pres
      (λ m. map (λ b. proposal ((goal.Proposer-dyn g (b.vtable, b.value)).named b.value)
      ((goal.Proposer-dyn g (b.vtable, b.value)).gives b.value l.pres m)) l.initial.proposers.items)
      l.checked.table l.by.items l.asked.items;
  same : (m : ℕ)
      → map (λ b. proposal ((goal.Proposer-dyn g (b.vtable, b.value)).named b.value)
      ((goal.Proposer-dyn g (b.vtable, b.value)).gives b.value l.pres m)) l.proposers.items
      ≡ map (λ b. proposal ((goal.Proposer-dyn g (b.vtable, b.value)).named b.value)
      ((goal.Proposer-dyn g (b.vtable, b.value)).gives b.value l.pres m)) l.initial.proposers.items;
}
