use Rattle.std.proofs.Common.{map, option_map, ap, sym, ◌∙◌}
use Rattle.line_tokens.specs.declared.token.Token.{Token}
use Rattle.pres_text.specs.Relation.{powers_by}
use Rattle.pres_text.specs.Spelling.{syllables_of}
use Rattle.pres_text.proofs.Spelled.{ahead, one_more}
use Rattle.pres_text.proofs.spelling.powers.Goals as goal

pub powers-preserved : goal.powers-preserved
powers-preserved c =
    c.powers.invariant
    ∙ one_more c.powers.right.items c.in-Some.syllable (map (λ (t : Token). t.kind) c.powers.rest.now) (map (λ (t : Token). t.kind) c.in-Some.more.now)
    (map (λ (t : Token). t.kind) c.in-Some-behind_star.behind.now) (sym c.in-Some.ensures.power) (sym c.in-Some-behind_star.ensures.star)
    ∙ ap (λ right. ahead right (option_map syllables_of (powers_by (map (λ (t : Token). t.kind) c.in-Some-behind_star.behind.now)))) (sym c.in_ok-push.ensures.items)
