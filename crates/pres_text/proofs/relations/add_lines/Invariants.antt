use Rattle.std.proofs.Common.{◌≡◌, length}
use Rattle.pres_text.specs.Lines.{lines, content_from}
use Rattle.pres_text.specs.Reading.{rest_fault, related}
use Rattle.pres_text.proofs.relations.add_lines.Given as goal

abbrev pub invariant-lines : goal.invariant-lines
invariant-lines l = record {
  fault : rest_fault l.fn.builder (content_from l.fn.left.number (lines l.fn.left.rest.now)) ≡ rest_fault l.builder (content_from l.left.number (lines l.left.rest.now));
  draft : related l.fn.builder (content_from l.fn.left.number (lines l.fn.left.rest.now)) ≡ related l.builder (content_from l.left.number (lines l.left.rest.now));
}

abbrev pub decreases-lines : goal.decreases-lines
decreases-lines l = length l.left.rest.now
