-- Replies that are kept.
use Rattle.std.proofs.Common.{◌≡◌, ℕ, ◌≤◌, ◌⊎◌, inl, inr, nat_lt, Bool, cond, true, false, List, [], ◌∷◌, ◌++◌, length, take, Contains, Some, refl, sym, ◌∙◌, ap, subst, arith, codes, length-take, take_all}
use Rattle.std.specs.Str.Lines.{strip_carriage_return}
use Rattle.std.proofs.lemmas.Bool.{ltb-true}
use Rattle.std.proofs.lemmas.List.Elements.{All-weaker, All-contains, All-contains_itself, Contains-push}
use Rattle.line_tokens.specs.Lines.{lines_of}
use Rattle.word_text.specs.Reading.{reading}
use Rattle.hall_table.specs.Multiplies.{Paired}
use Rattle.reply_memo.specs.Kept.{Kept, AllKept, kept_for, in_front}
use Rattle.reply_memo.specs.Memo.{after_keeping}
use Rattle.reply_memo.proofs.KeptPairs.{AllKept-in_front, AllKept-after_keeping, AllKept-kept_for}
use Rattle.session_io.specs.Asked.{Fed}
use Rattle.session_io.specs.Answers.{by_reply}
use Rattle.session_io.specs.Holding.{held}
use Rattle.session_io.specs.Limits.{line_limit}
use Rattle.session_io.specs.Lines.{as_line}
use Rattle.session_io.specs.Recalling.{IsRecalled}
use Rattle.query_replies.specs.Replies.{reply_to, reply}
use Rattle.query_replies.specs.Memoized.{Asks, AsksOneOf, AreOf, IsComputed, IsKept}

-- the reply to a line is that to what it asks
pub reply-asked : (c : Paired) (line asked : List ℕ) → Asks line asked
    → reply c line ≡ reply_to c (reading c.pres.names asked)
reply-asked c line asked h = at (nat_lt line_limit (length line)) refl
  where
    at : (b : Bool) → nat_lt line_limit (length line) ≡ b
        → cond b (as_line (codes "long"))
        (reply_to c (reading c.pres.names (strip_carriage_return line)))
        ≡ reply_to c (reading c.pres.names asked)
    at true e = absurd (omega (arith, ltb-true line_limit (length line) e, h.within))
    at false e =
        ap (λ (l : List ℕ). reply_to c (reading c.pres.names l)) (sym h.without_return)

-- a line that isn't long is held as a whole
held-whole : (line whole : List ℕ) → line ≡ held whole → length line ≤ line_limit → whole ≡ line
held-whole line whole e few =
    let short : length (take 65537 whole) ≤ 65536 = subst (λ l. length l ≤ 65536) e few in
    sym (take_all 65537 whole (omega (arith, short, length-take 65537 whole))) ∙ sym e

Asks-whole : (line whole asked : List ℕ) → line ≡ held whole → Asks line asked → Asks whole asked
Asks-whole line whole asked e h =
    subst (λ l. Asks l asked) (sym (held-whole line whole e h.within)) h

-- the pair of a line that was asked last
pub AsksOneOf-last : (lines : List (List ℕ)) (line whole asked : List ℕ) → line ≡ held whole
    → Asks line asked → AsksOneOf (lines ++ whole ∷ []) asked
AsksOneOf-last lines line whole asked e h = (
  whole,
  Contains-push lines whole,
  Asks-whole line whole asked e h,
)

-- what holds of each pair after a line was looked up
pub AllKept-found : (R : List ℕ → List ℕ → Type 0) (asked : List ℕ) (old new : List Kept)
    → new ≡ in_front asked old → AllKept R old → AllKept R new
AllKept-found R asked old new e all =
    subst (AllKept R) (sym e) (AllKept-in_front R asked old all)

-- what is kept for what a line asks is the reply to the line
pub kept_for-asked : (c : Paired) (line asked text : List ℕ) (pairs : List Kept) → Asks line asked
    → AllKept (IsComputed c) pairs → kept_for asked pairs ≡ Some text → text ≡ reply c line
kept_for-asked c line asked text pairs h all found =
    AllKept-kept_for (IsComputed c) asked text pairs all found ∙ sym (reply-asked c line asked h)

-- what holds of each pair after one was kept, or wasn't
pub AllKept-kept : (R : List ℕ → List ℕ → Type 0) (line text : List ℕ) (old new : List Kept)
    → (new ≡ old) ⊎ (new ≡ after_keeping line text old) → R line text → AllKept R old
    → AllKept R new
AllKept-kept R line text old new (inl same) h all = subst (AllKept R) (sym same) all
AllKept-kept R line text old new (inr more) h all =
    subst (AllKept R) (sym more) (AllKept-after_keeping R line text old h all)

-- the replies that were computed, to lines that ask so
pub IsKept-computed : (c : Paired) (lines : List (List ℕ)) (pairs : List Kept)
    → AllKept (IsComputed c) pairs → AreOf lines pairs
    → AllKept (IsKept (by_reply (reply c)) lines) pairs
IsKept-computed c lines pairs computed are =
    All-weaker (Contains pairs) (λ k. IsKept (by_reply (reply c)) lines k.line k.reply)
    (λ k among.
    one k (All-contains (λ l. IsComputed c l.line l.reply) pairs k computed among)
    (All-contains (λ l. AsksOneOf lines l.line) pairs k are among))
    pairs (All-contains_itself pairs)
  where
    one : (k : Kept) → IsComputed c k.line k.reply → AsksOneOf lines k.line
        → IsKept (by_reply (reply c)) lines k.line k.reply
    one k same (line, among, asks) =
        (line, among, asks, same ∙ sym (reply-asked c line k.line asks))

-- whichever replies are meant
pub IsKept-weaker : (R S : List ℕ → List ℕ → Type 0)
    → ((line text : List ℕ) → R line text → S line text) → (lines : List (List ℕ))
    (pairs : List Kept) → AllKept (IsKept R lines) pairs → AllKept (IsKept S lines) pairs
IsKept-weaker R S weaker lines pairs all =
    All-weaker (λ k. IsKept R lines k.line k.reply) (λ k. IsKept S lines k.line k.reply)
    (λ k h. one k h) pairs all
  where
    one : (k : Kept) → IsKept R lines k.line k.reply → IsKept S lines k.line k.reply
    one k (line, among, asks, h) = (line, among, asks, weaker line k.reply h)

-- what a calculator with its memo recalls, by its replies before
pub IsRecalled-kept : (c d : Paired) (pairs all : List Kept) (limit : ℕ) (f : Fed) → all ≡ pairs
    → reply d ≡ reply c → AllKept (IsComputed d) all
    → IsRecalled (λ lines. AreOf lines pairs) limit f
    → IsRecalled (λ lines. AllKept (IsKept (by_reply (reply c)) lines) all) limit f
IsRecalled-kept c d pairs all limit f e same computed r = record {
  taken = r.taken;
  more = r.more;
  took = r.took;
  of_lines =
      subst (λ (by : List ℕ → List ℕ). AllKept (IsKept (by_reply by) (lines_of r.taken)) all) same
      (IsKept-computed d (lines_of r.taken) all computed
      (subst (AreOf (lines_of r.taken)) (sym e) r.of_lines));
}
