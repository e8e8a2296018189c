use Rattle.std.proofs.Common.{sym, subst, string_bytes, ◌∙◌}
use Rattle.reply_memo.specs.Entries.{pairs_of}
use Rattle.reply_memo.specs.Memo.{IsMemo}
use Rattle.reply_memo.proofs.Cached.{is_some-kept_for, pairs_of-put_entries}
use Rattle.reply_memo.proofs.Memos.{IsMemo-after_keeping}
use Rattle.reply_memo.proofs.answers.Answers.keep.Goals as goal

-- a cache that knows the line doesn't grow
pub returns-in_err-put-clause-succeeds : goal.returns-in_err-put-clause-succeeds
returns-in_err-put-clause-succeeds c =
    rw (← c.self.view_is) (λ is_kept.
    let known = sym (is_some-kept_for (string_bytes c.args.line) c.self.inside.cache.entries) in
    let put = c.in_err-put.ensures.succeeds (known ∙ is_kept) in
    cc)

pub invariant_of-self-2 : goal.invariant_of-self-2
invariant_of-self-2 c =
    let cache = c.self.inside.cache in
    let memo = c.self.invariant.0 in
    let line = string_bytes c.args.line in
    let reply = string_bytes c.args.reply in
    let new = pairs_of-put_entries cache c.args.line c.args.reply c.self.invariant.1 memo in
    rw c.in_ok-put.ensures.entries (
      subst IsMemo (sym new) (IsMemo-after_keeping line (pairs_of cache.entries) reply memo),
      c.self.invariant.1,
    )

pub returns-clause-ok : goal.returns-clause-ok
returns-clause-ok c =
    rw (c.in_ok-put.ensures.entries, ← c.self.view_is)
    (pairs_of-put_entries c.self.inside.cache c.args.line c.args.reply c.self.invariant.1
    c.self.invariant.0)

pub returns-clause-memo : goal.returns-clause-memo
returns-clause-memo c = (invariant_of-self-2 c).0
