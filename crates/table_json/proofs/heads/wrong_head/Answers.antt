use Rattle.std.proofs.Common.{sym, ◌∙◌}
use Rattle.std.proofs.lemmas.Bool.{false≢true}
use Rattle.table_json.specs.Refusing.{format, generators, level}
use Rattle.table_json.proofs.heads.wrong_head.Goals as goal

pub returns-then-not-has_text : goal.returns-then-not-has_text
returns-then-not-has_text c =
    format (λ is. false≢true (sym c.if-not-has_text.true ∙ c.has_text.ensures.1 is))

pub returns-then-not-has_number : goal.returns-then-not-has_number
returns-then-not-has_number c =
    generators (c.has_text.ensures.0 c.if-not-has_text.false)
    (λ is. false≢true (sym c.if-not-has_number.true ∙ c.has_number.ensures.1 is))

pub returns-then-not-has_number-2 : goal.returns-then-not-has_number-2
returns-then-not-has_number-2 c =
    level (c.has_text.ensures.0 c.if-not-has_text.false)
    (c.has_number.ensures.0 c.if-not-has_number.false)
    (λ is. false≢true (sym c.if-not-has_number-2.true ∙ c.has_number-2.ensures.1 is))
