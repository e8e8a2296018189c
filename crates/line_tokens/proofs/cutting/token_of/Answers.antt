use Rattle.std.proofs.Common.{ap, sym, ◌∙◌, drop, take, ◌∷◌, get_or, false}
use Rattle.std.specs.List.{prefix_len}
use Rattle.line_tokens.specs.Tokens.{integer, is_digit, is_word_byte}
use Rattle.line_tokens.proofs.Runs.{front, word_ascii, letter_token, digit_token}
use Rattle.line_tokens.proofs.cutting.token_of.Goals as goal

pub word_kind-requires : goal.word_kind-requires
word_kind-requires g c = word_ascii c.args.bytes.now c.word_len-len.result c.requires (sym c.is_ascii_alphabetic.ensures.value ∙ c.if-is_ascii_alphabetic.true)
    (c.word_len-len.ensures.len ∙ ap (prefix_len is_word_byte) c.split_at.ensures.back)

pub returns-then-is_ascii_alphabetic-clause-token : goal.returns-then-is_ascii_alphabetic-clause-token
returns-then-is_ascii_alphabetic-clause-token g c =
    c.word_kind.ensures ∙ ap ((g.V.Vocabulary.word c.args.vocabulary.now)) (front c.args.bytes.now c.word_len-len.result c.requires)
    ∙ ap (λ n. (g.V.Vocabulary.word c.args.vocabulary.now) (get_or c.args.bytes.now 0 0 ∷ take n (drop 1 c.args.bytes.now))) (c.word_len-len.ensures.len ∙ ap (prefix_len is_word_byte) c.split_at.ensures.back)
    ∙ sym (ap (λ x. x.0) (letter_token (g.V.Vocabulary.word c.args.vocabulary.now) (get_or c.args.bytes.now 0 0) (drop 1 c.args.bytes.now) (sym c.is_ascii_alphabetic.ensures.value ∙ c.if-is_ascii_alphabetic.true)))

pub returns-then-digit-clause-token : goal.returns-then-digit-clause-token
returns-then-digit-clause-token g c =
    c.integer_kind.ensures ∙ ap (integer false) (front c.args.bytes.now c.digits_len-len.result c.requires)
    ∙ ap (λ n. integer false (get_or c.args.bytes.now 0 0 ∷ take n (drop 1 c.args.bytes.now))) (c.digits_len-len.ensures.len ∙ ap (prefix_len is_digit) c.split_at.ensures.back)
    ∙ sym (ap (λ x. x.0) (digit_token (g.V.Vocabulary.word c.args.vocabulary.now) (get_or c.args.bytes.now 0 0) (drop 1 c.args.bytes.now) (sym c.is_ascii_alphabetic.ensures.value ∙ c.if-is_ascii_alphabetic.false) (sym c.digit.ensures ∙ c.if-digit.true)))
