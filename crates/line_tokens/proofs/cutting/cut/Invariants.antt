use Rattle.std.proofs.Common.{◌≡◌, ◌≤◌, ◌+◌, ◌-◌, ◌++◌, drop, length}
use Rattle.line_tokens.specs.Tokens.{tokens_from, tokens}
use Rattle.line_tokens.proofs.cutting.cut.Given as goal

abbrev pub invariant-cutting : goal.invariant-cutting
invariant-cutting g l = (l.found.items ++ tokens_from (g.V.Vocabulary.word l.vocabulary) 0 (l.at + 1) (drop l.at l.line) ≡ tokens (g.V.Vocabulary.word l.vocabulary) l.line) × (l.at ≤ length l.line)

abbrev pub decreases-cutting : goal.decreases-cutting
decreases-cutting g l = length l.line - l.at
