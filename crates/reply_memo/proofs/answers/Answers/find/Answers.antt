use Rattle.std.proofs.Common.{sym, subst, ◌∙◌}
use Rattle.reply_memo.specs.Entries.{pairs_of}
use Rattle.reply_memo.specs.Memo.{IsMemo}
use Rattle.reply_memo.proofs.Lines.{in_front-none}
use Rattle.reply_memo.proofs.Cached.{is_some-kept_for, pairs_of-promoted}
use Rattle.reply_memo.proofs.Memos.{IsMemo-in_front}
use Rattle.reply_memo.proofs.answers.Answers.find.Goals as goal

pub invariant_of-self : goal.invariant_of-self
invariant_of-self c =
    let es = c.self.inside.cache.entries in
    let memo = c.self.invariant.0 in
    let line = c.args.line.now in
    let new = pairs_of-promoted line es memo.apart in
    rw c.promote.ensures.entries
    (subst IsMemo (sym new) (IsMemo-in_front line (pairs_of es) memo), c.self.invariant.1)

pub returns-clause-found : goal.returns-clause-found
returns-clause-found c =
    rw (← c.self.view_is)
    (c.promote.ensures.value ∙ sym (is_some-kept_for c.args.line.now c.self.inside.cache.entries))

pub returns-clause-pairs : goal.returns-clause-pairs
returns-clause-pairs c =
    rw (c.promote.ensures.entries, ← c.self.view_is)
    (pairs_of-promoted c.args.line.now c.self.inside.cache.entries c.self.invariant.0.apart)

-- without a pair of the line none is brought to the front
pub returns-clause-same : goal.returns-clause-same
returns-clause-same c = λ none.
    let es = c.self.inside.cache.entries in
    let line = c.args.line.now in
    let off = is_some-kept_for line es ∙ sym c.promote.ensures.value ∙ none in
    rw (c.promote.ensures.entries, ← c.self.view_is)
    (pairs_of-promoted line es c.self.invariant.0.apart ∙ in_front-none line (pairs_of es) off)

pub returns-clause-memo : goal.returns-clause-memo
returns-clause-memo c = (invariant_of-self c).0
