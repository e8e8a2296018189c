use Rattle.std.proofs.Common.{rules}
use Rattle.reply_memo.proofs.Memos.{IsMemo-nil}
use Rattle.reply_memo.proofs.answers.Answers.new.Goals as goal

pub invariant_of-result : goal.invariant_of-result
invariant_of-result c = rw c.in_ok-cache.ensures (IsMemo-nil, search rules)
