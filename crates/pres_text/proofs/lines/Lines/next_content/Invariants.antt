use Rattle.std.proofs.Common.{◌≡◌, ◌+◌, ◌≤◌, length}
use Rattle.pres_text.specs.Lines.{lines, content_from}
use Rattle.pres_text.proofs.lines.Lines.next_content.Given as goal

abbrev pub invariant-loop-self : goal.invariant-loop-self
invariant-loop-self l = record {
  content : content_from l.self.number (lines l.self.rest.now) ≡ content_from l.initial.self.number (lines l.initial.self.rest.now);
  end : l.self.number + length (lines l.self.rest.now) ≡ l.initial.self.number + length (lines l.initial.self.rest.now);
  less : length l.self.rest.now ≤ length l.initial.self.rest.now;
}

abbrev pub decreases-loop-self : goal.decreases-loop-self
decreases-loop-self l = length l.self.rest.now
