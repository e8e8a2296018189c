use Rattle.std.proofs.Common.{map, option_map, ap, sym, ◌∙◌, length}
use Rattle.line_tokens.specs.declared.token.Token.{Token}
use Rattle.pres_text.specs.Relation.{spelled_by}
use Rattle.pres_text.specs.Spelling.{spelled_clipped}
use Rattle.pres_text.specs.Seen.{spelled_seen}
use Rattle.pres_text.proofs.Known.{IsUpTo, found_known}
use Rattle.pres_text.proofs.relations.add_line.Goals as goal

-- the relation that was found is of generators
known : (c : goal.After-relation-in-Some-1) → IsUpTo (length c.args.builder.now.names) (spelled_seen c.in-Some.relation)
known c = found_known c.args.builder.now.names c.args.line.now.text.now (spelled_seen c.in-Some.relation)
    (ap (option_map spelled_seen) (sym c.in-Some.is) ∙ c.in_ok-spelled.ensures
    ∙ ap (λ ts. option_map spelled_clipped (spelled_by (map (λ (t : Token). t.kind) ts))) (c.as_slice.ensures.value ∙ c.in_ok-tokens.ensures))

pub add_relation-requires-clause-above : goal.add_relation-requires-clause-above
add_relation-requires-clause-above c = (known c).above

pub add_relation-requires-clause-below : goal.add_relation-requires-clause-below
add_relation-requires-clause-below c = (known c).below

pub add_relation-requires-clause-right : goal.add_relation-requires-clause-right
add_relation-requires-clause-right c = (known c).right
