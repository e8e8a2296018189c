-- Lines and words from their front.
use Rattle.std.proofs.Common.{◌≡◌, ℕ, suc, ◌+◌, ◌<◌, ◌≤◌, ◌==◌, Bool, true, false, not, cond, nat_le, List, [], ◌∷◌, Option, Some, None, IfNone, MatchOption, length, filter, take, drop, get_or, refl, sym, subst, inl, inr, ◌∙◌, ap, arith, add-one, drop-cons}
use Rattle.std.specs.List.{prefix_len, position_or_len, slice_split, onto_first}
use Rattle.std.proofs.lemmas.Bool.Decides.{nat_tests}
use Rattle.std.proofs.lemmas.List.{drop-drop, drop_all, take_all, length-take-le}
use Rattle.std.proofs.lemmas.Bool.{cases_lt}
use Rattle.std.proofs.lemmas.List.Splits.{slice_split_first, length-slice_split}
use Rattle.std.proofs.lemmas.List.Sums.{prefix_len-le-length, prefix_len_stops}
use Rattle.line_tokens.specs.Tokens.{is_blank}
use Rattle.line_tokens.specs.Lines.{is_line_feed, lines_of}
use Rattle.pres_text.specs.Lines.{without_empty_end, lines, words}

split_step : {X : Type 0} (q : Bool) (x : X) (xs : List X) (n : ℕ) (parts : List (List X)) → cond (not q) (1 + n) 0 ≡ length (x ∷ xs) → (n ≡ length xs → parts ≡ xs ∷ [])
    → cond q ([] ∷ parts) (onto_first x parts) ≡ (x ∷ xs) ∷ []
split_step true x xs n parts h k = absurd (omega arith)
split_step false x xs n parts h k = ap (onto_first x) (k (omega arith))

-- where no element passes, the list is the one part
split_none : {X : Type 0} (p : X → Bool) (xs : List X) → position_or_len p xs ≡ length xs → slice_split p xs ≡ xs ∷ []
split_none p [] h = refl
split_none p (x ∷ xs) h = split_step (p x) x xs (position_or_len p xs) (slice_split p xs) h (λ e. split_none p xs e)

without_empty_end-cons : (a : List ℕ) (ps : List (List ℕ)) → 1 ≤ length ps → without_empty_end (a ∷ ps) ≡ a ∷ without_empty_end ps
without_empty_end-cons a [] h = absurd (omega arith)
without_empty_end-cons a (b ∷ ps) h = refl

-- the first line is that of the pieces, and there are more where there is something behind it
pub lines-more : (bs l rest : List ℕ) → lines_of bs ≡ l ∷ lines_of rest → lines bs ≡ l ∷ lines rest
lines-more bs l rest e =
    ap without_empty_end e
    ∙ without_empty_end-cons l (lines_of rest) (omega (arith, length-slice_split is_line_feed rest))

-- the first line ends at the first line feed
pub lines-front : (bs : List ℕ) (n : ℕ) → n ≡ position_or_len is_line_feed bs → n < length bs → lines bs ≡ take n bs ∷ lines (drop 1 (drop n bs))
lines-front bs n e h =
    lines-more bs (take n bs) (drop 1 (drop n bs))
    (slice_split_first is_line_feed bs 0 (omega arith) ∙ ap (λ m. take m bs ∷ lines_of (drop (m + 1) bs)) (sym e)
    ∙ ap (λ r. take n bs ∷ lines_of r) (sym (drop-drop 1 n bs)))

pub lines-some : {A : Type 0} (seen : A → List ℕ) (bs l : List ℕ) (o : Option A) (rest : A) → o ≡ Some rest
    → MatchOption o (lines_of bs ≡ l ∷ []) (λ r. lines_of bs ≡ l ∷ lines_of (seen r)) → lines bs ≡ l ∷ lines (seen rest)
lines-some seen bs l None rest e h = cc
lines-some seen bs l (Some r) rest e h =
    let same : r ≡ rest = cc in
    lines-more bs l (seen r) h ∙ ap (λ x. l ∷ lines (seen x)) same

lines-last : (bs l : List ℕ) → lines_of bs ≡ l ∷ [] → l ≡ bs → 0 < length bs
    → lines bs ≡ l ∷ lines []
lines-last bs l e same h =
    let some : (length l == 0) ≡ false = grind (arith, nat_tests, ap length same) in
    ap without_empty_end e ∙ ap (λ q. cond q [] (l ∷ [])) some

pub lines-none : {A : Type 0} (seen : A → List ℕ) (bs l : List ℕ) (o : Option A) → o ≡ None
    → MatchOption o (lines_of bs ≡ l ∷ []) (λ r. lines_of bs ≡ l ∷ lines_of (seen r)) → IfNone o (l ≡ bs) → 0 < length bs
    → lines bs ≡ l ∷ lines []
lines-none seen bs l None e h same some = lines-last bs l h same some
lines-none seen bs l (Some r) e h same some = cc

abbrev kept : List (List ℕ) → List (List ℕ)
kept pieces = filter (λ w. nat_le 1 (length w)) pieces

blank_step : (q : Bool) (b : ℕ) (bs : List ℕ) (n : ℕ) → is_blank b ≡ q → words bs ≡ words (drop n bs)
    → kept (cond q ([] ∷ slice_split is_blank bs) (onto_first b (slice_split is_blank bs))) ≡ words (drop (cond q (1 + n) 0) (b ∷ bs))
blank_step true b bs n e h = let m : 1 + n ≡ suc n = omega arith in rw m h
blank_step false b bs n e h = ap (λ q. kept (cond q ([] ∷ slice_split is_blank bs) (onto_first b (slice_split is_blank bs)))) (sym e)

-- blanks before the first word
pub words-blanks : (text : List ℕ) → words text ≡ words (drop (prefix_len is_blank text) text)
words-blanks [] = refl
words-blanks (b ∷ bs) = blank_step (is_blank b) b bs (prefix_len is_blank bs) refl (words-blanks bs)

none_step : (q : Bool) (b : ℕ) (bs : List ℕ) (n : ℕ) → is_blank b ≡ q → (prefix_len (λ c. not (is_blank c)) (drop n bs) ≡ 0 → drop n bs ≡ [])
    → prefix_len (λ c. not (is_blank c)) (drop (cond q (1 + n) 0) (b ∷ bs)) ≡ 0 → drop (cond q (1 + n) 0) (b ∷ bs) ≡ []
none_step true b bs n e k h = let m : 1 + n ≡ suc n = omega arith in rw m (k (rw m at h))
none_step false b bs n e k h = absurd (no_prefix (is_blank b) (prefix_len (λ c. not (is_blank c)) bs) e h)
  where
    no_prefix : (q : Bool) (m : ℕ) → q ≡ false → cond (not q) (1 + m) 0 ≡ 0 → ⊥
    no_prefix true m e h = cc
    no_prefix false m e h = omega arith

-- behind blanks there is a word or nothing
words-none : (text : List ℕ) → prefix_len (λ b. not (is_blank b)) (drop (prefix_len is_blank text) text) ≡ 0 → drop (prefix_len is_blank text) text ≡ []
words-none [] h = refl
words-none (b ∷ bs) h = none_step (is_blank b) b bs (prefix_len is_blank bs) refl (words-none bs) h

-- no words behind the blanks
pub words-behind : (text rest : List ℕ) (n : ℕ) → n ≡ prefix_len is_blank text → rest ≡ drop n text → prefix_len (λ b. not (is_blank b)) rest ≡ 0 → words text ≡ []
words-behind text rest n e r h =
    let all : rest ≡ drop (prefix_len is_blank text) text = r ∙ ap (λ m. drop m text) e in
    words-blanks text ∙ ap words (words-none text (ap (prefix_len (λ b. not (is_blank b))) (sym all) ∙ h))

kept-first : (w : List ℕ) (ws : List (List ℕ)) → 1 ≤ length w → kept (w ∷ ws) ≡ w ∷ kept ws
kept-first w ws h = let e : nat_le 1 (length w) ≡ true = grind (arith, nat_tests) in rw e refl

pub words-blank : (b : ℕ) (bs : List ℕ) → is_blank b ≡ true → words (b ∷ bs) ≡ words bs
words-blank b bs h = ap (λ q. kept (cond q ([] ∷ slice_split is_blank bs) (onto_first b (slice_split is_blank bs)))) h

-- what the first word ends at is a blank
end_is_blank : (text : List ℕ) (n : ℕ) → n ≡ position_or_len is_blank text → n < length text → is_blank (get_or text n 0) ≡ true
end_is_blank text n e h = turned (is_blank (get_or text n 0)) (subst (λ (m : ℕ). not (is_blank (get_or text m 0)) ≡ false) (sym e) (prefix_len_stops (λ b. not (is_blank b)) text 0 (omega arith)))
  where
    turned : (q : Bool) → not q ≡ false → q ≡ true
    turned true h = refl
    turned false h = cc

words-inside : (text : List ℕ) (n : ℕ) → n ≡ position_or_len is_blank text → 1 ≤ n → n < length text → words text ≡ take n text ∷ words (drop n text)
words-inside text n e h few =
    let at : position_or_len is_blank text < length text = omega arith in
    let more : length (take n text) ≡ n = length-take-le n text (omega arith) in
    ap kept (slice_split_first is_blank text 0 at)
    ∙ ap (λ m. kept (take m text ∷ slice_split is_blank (drop (m + 1) text))) (sym e)
    ∙ kept-first (take n text) (slice_split is_blank (drop (n + 1) text)) (omega arith)
    ∙ ap (λ m. take n text ∷ words (drop m text)) (add-one n)
    ∙ ap (λ ws. take n text ∷ ws) (sym (words-blank (get_or text n 0) (drop (suc n) text) (end_is_blank text n e few)) ∙ ap words (sym (drop-cons text n 0 few)))

words-all : (text : List ℕ) (n : ℕ) → n ≡ position_or_len is_blank text → 1 ≤ n → n ≡ length text → words text ≡ take n text ∷ words (drop n text)
words-all text n e h all =
    ap kept (split_none is_blank text (sym e ∙ all))
    ∙ kept-first text [] (omega arith)
    ∙ ap (λ w. w ∷ []) (sym (take_all n text (omega arith)))
    ∙ ap (λ r. take n text ∷ words r) (sym (drop_all n text (omega arith)))

-- the first word
pub words-front : (text : List ℕ) (n : ℕ) → n ≡ prefix_len (λ b. not (is_blank b)) text → 1 ≤ n → words text ≡ take n text ∷ words (drop n text)
words-front text n e h =
    let le = prefix_len-le-length (λ b. not (is_blank b)) text in
    elim (cases_lt n (length text)) [ inl few ↦ words-inside text n e h few | inr all ↦ words-all text n e h (omega arith) ]
