use Rattle.std.proofs.Common.{◌≡◌, ◌++◌, take}
use Rattle.word_text.proofs.Joining.{items_tokens}
use Rattle.word_text.proofs.spelling.+spelling.Given as goal

abbrev pub invariant-push_expr-loop-i : goal.invariant-push_expr-loop-i
invariant-push_expr-loop-i l = l.tokens.items ≡ l.initial.tokens.items ++ items_tokens (take l.i l.items)
