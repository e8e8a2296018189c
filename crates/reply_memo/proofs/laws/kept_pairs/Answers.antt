use Rattle.reply_memo.proofs.KeptPairs.{Contains-in_front, Contains-before, Contains-after_keeping, Contains-kept_for}
use Rattle.reply_memo.proofs.laws.kept_pairs.Goals as goal

pub returns-clause-keeps : goal.returns-clause-keeps
returns-clause-keeps c = λ line reply pairs. Contains-after_keeping line pairs reply

pub returns-clause-finds : goal.returns-clause-finds
returns-clause-finds c = λ line pairs k.
    (Contains-in_front line pairs k, Contains-before line pairs k)

pub returns-clause-replies : goal.returns-clause-replies
returns-clause-replies c = λ line reply pairs. Contains-kept_for line pairs reply
