-- Pairs of some lines are of these and more.
--   AreOf-more   a proof for the law of `Replier`
use Rattle.std.proofs.Common.{ℕ, List, ◌++◌}
use Rattle.std.proofs.lemmas.List.Elements.{Contains-append_left, All-weaker}
use Rattle.reply_memo.specs.Kept.{Kept}
use Rattle.query_replies.specs.Memoized.{AsksOneOf, AreOf}

AsksOneOf-more : (lines more : List (List ℕ)) (asked : List ℕ) → AsksOneOf lines asked
    → AsksOneOf (lines ++ more) asked
AsksOneOf-more lines more asked (line, among, asks) =
    (line, Contains-append_left lines more line among, asks)

pub AreOf-more : (lines more : List (List ℕ)) (pairs : List Kept) → AreOf lines pairs
    → AreOf (lines ++ more) pairs
AreOf-more lines more pairs are =
    All-weaker (λ k. AsksOneOf lines k.line) (λ k. AsksOneOf (lines ++ more) k.line)
    (λ k one. AsksOneOf-more lines more k.line one) pairs are
