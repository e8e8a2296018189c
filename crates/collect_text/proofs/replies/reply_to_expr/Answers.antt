use Rattle.std.proofs.Common.{length, sym, subst}
use Rattle.nil_word.specs.Words.{IsWordIn}
use Rattle.collect_text.proofs.Inside.{unrolled_in}
use Rattle.collect_text.proofs.replies.reply_to_expr.Goals as goal

pub reply_to_word-requires-clause-inside : goal.reply_to_word-requires-clause-inside
reply_to_word-requires-clause-inside c =
    let n = length c.args.pres.now.names in
    subst (IsWordIn 1 n) (sym c.in-Ok.ensures.word) (unrolled_in n c.args.expr.now c.requires.shaped)
