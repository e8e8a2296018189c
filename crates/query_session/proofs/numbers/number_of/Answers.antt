use Rattle.std.proofs.Common.{rules, ◌∙◌, sym, ap}
use Rattle.std.specs.Char.{is_ascii_digit}
use Rattle.std.specs.List.{list_all}
use Rattle.query_session.proofs.Digits.{number_of-digits}
use Rattle.query_session.proofs.numbers.number_of.Goals as goal

pub returns : goal.returns
returns c =
    c.ok.ensures.value
    ∙ number_of-digits c.args.word.now c.parse.result (search rules) (search rules)
    (sym (ap (list_all is_ascii_digit) c.as_bytes-digits.ensures.value) ∙ sym c.are_digits.ensures
    ∙ c.if-not-are_digits.false)
    c.parse.ensures.value.0
