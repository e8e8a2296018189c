-- What contracts see of the reader's own types.
--   spelled_seen s    a relation line as it is spelled
--   line_seen l       a line
use Rattle.pres_text.specs.declared.spelling.SpelledRelation.{SpelledRelation}
use Rattle.pres_text.specs.declared.lines.Line.{Line as LineOf}
use Rattle.pres_text.specs.Lines.{Line}
use Rattle.pres_text.specs.Spelling.{Clipped}

abbrev pub spelled_seen : SpelledRelation → Clipped
spelled_seen s = record { above = s.above; below = s.below; right = s.right.items }

abbrev pub line_seen : LineOf → Line
line_seen l = record { number = l.number; text = l.text.now }
