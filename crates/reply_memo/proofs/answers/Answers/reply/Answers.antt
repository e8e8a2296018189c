use Rattle.std.proofs.Common.{sym, ap, option_map, string_bytes, ◌∙◌}
use Rattle.reply_memo.proofs.Cached.{kept_for-pairs_of}
use Rattle.reply_memo.proofs.answers.Answers.reply.Goals as goal

pub returns-in_err-reply : goal.returns-in_err-reply
returns-in_err-reply c =
    rw (c.from_residual.ensures, ← c.self.view_is)
    (ap (option_map string_bytes) c.in_err-reply.ensures
    ∙ sym (kept_for-pairs_of c.args.line.now c.self.inside.cache.entries))

pub returns : goal.returns
returns c =
    rw (c.as_str.ensures.value, ← c.self.view_is)
    (ap (option_map string_bytes) c.in_ok-reply.ensures
    ∙ sym (kept_for-pairs_of c.args.line.now c.self.inside.cache.entries))
