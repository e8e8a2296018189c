use Rattle.std.proofs.Common.{Some, None, map, option_map, ap, sym, ◌∙◌}
use Rattle.line_tokens.specs.declared.token.Token.{Token}
use Rattle.pres_text.proofs.Spelled.{spelled_by-found}
use Rattle.pres_text.proofs.spelling.spelled.Goals as goal

pub returns-in-None : goal.returns-in-None
returns-in-None c =
    spelled_by-found (map (λ (t : Token). t.kind) c.args.tokens.now) (map (λ (t : Token). t.kind) c.in-Some.rest.now) c.in-Some.above c.in-Some.below None
    c.in-Some.ensures (ap (option_map (λ v. v.items)) (sym c.in-None.is) ∙ c.in_ok-right_side.ensures)

pub returns-in-Some-2 : goal.returns-in-Some-2
returns-in-Some-2 c =
    spelled_by-found (map (λ (t : Token). t.kind) c.args.tokens.now) (map (λ (t : Token). t.kind) c.in-Some.rest.now) c.in-Some.above c.in-Some.below (Some c.in-Some-2.right.items)
    c.in-Some.ensures (ap (option_map (λ v. v.items)) (sym c.in-Some-2.is) ∙ c.in_ok-right_side.ensures)
