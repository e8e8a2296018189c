use Rattle.std.proofs.Common.{◌≡◌, ◌+◌, ◌≤◌, length}
use Rattle.session_io.specs.Lines.{whole_lines}
use Rattle.load_tally.specs.Answers.{answers_to}
use Rattle.load_tally.specs.Tallies.{tally_of}
use Rattle.load_tally.specs.Steps.{IsWithin}
use Rattle.load_tally.proofs.Counting.{Completes}
use Rattle.load_tally.proofs.tallying.tally.Given as goal

abbrev pub invariant-counting : goal.invariant-counting
invariant-counting l = record {
  completes : Completes l.tally (answers_to l.initial.calculator (whole_lines l.rest))
      (tally_of l.initial.calculator (whole_lines l.queries));
  within : IsWithin l.tally;
  room : l.tally.queries + length l.rest ≤ length l.queries;
  same : l.calculator ≡ l.initial.calculator;
}

abbrev pub decreases-counting : goal.decreases-counting
decreases-counting l = length l.rest
