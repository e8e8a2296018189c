use Rattle.std.proofs.Common.{ap, sym, subst, ◌∙◌, ◌∷◌, drop, arith}
use Rattle.std.specs.Str.{IsAscii}
use Rattle.std.proofs.lemmas.Str.{IsAscii-take, IsAscii-drop}
use Rattle.pres_text.specs.Lines.{words}
use Rattle.pres_text.proofs.Pieces.{words-blanks, words-front, words-behind}
use Rattle.pres_text.proofs.words.next_word.Goals as goal

pub returns-then-len-eq0-clause-word : goal.returns-then-len-eq0-clause-word
returns-then-len-eq0-clause-word c =
    words-behind c.args.text.now c.split_at.result.1.now c.blanks_len.result c.blanks_len.ensures.len c.split_at.ensures.back (sym c.word_len-len.ensures.len ∙ c.if-len-eq0.true)

pub returns-clause-word : goal.returns-clause-word
returns-clause-word c =
    words-blanks c.args.text.now
    ∙ ap words (ap (λ n. drop n c.args.text.now) (sym c.blanks_len.ensures.len) ∙ sym c.split_at.ensures.back)
    ∙ words-front c.split_at.result.1.now c.word_len-len.result c.word_len-len.ensures.len (omega arith)
    ∙ ap (λ w. w ∷ words (drop c.word_len-len.result c.split_at.result.1.now)) (sym c.split_at-2.ensures.front)
    ∙ ap (λ r. c.split_at-2.result.0.now ∷ words r) (sym c.split_at-2.ensures.back)

pub returns-clause-ascii : goal.returns-clause-ascii
returns-clause-ascii c = λ h.
    let behind : IsAscii c.split_at.result.1.now = subst IsAscii (sym c.split_at.ensures.back) (IsAscii-drop c.args.text.now c.blanks_len.result h) in (
      subst IsAscii (sym c.split_at-2.ensures.front) (IsAscii-take c.split_at.result.1.now c.word_len-len.result behind),
      subst IsAscii (sym c.split_at-2.ensures.back) (IsAscii-drop c.split_at.result.1.now c.word_len-len.result behind),
    )
