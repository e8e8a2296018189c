use Rattle.std.proofs.Common.{◌≡◌, map, option_map, length}
use Rattle.line_tokens.specs.declared.token.Token.{Token}
use Rattle.pres_text.specs.Relation.{powers_by}
use Rattle.pres_text.specs.Spelling.{syllables_of}
use Rattle.pres_text.proofs.Spelled.{ahead}
use Rattle.pres_text.proofs.spelling.powers.Given as goal

abbrev pub invariant-powers : goal.invariant-powers
invariant-powers l = option_map syllables_of (powers_by (map (λ (t : Token). t.kind) l.tokens)) ≡ ahead l.right.items (option_map syllables_of (powers_by (map (λ (t : Token). t.kind) l.rest)))

abbrev pub decreases-powers : goal.decreases-powers
decreases-powers l = length l.rest
