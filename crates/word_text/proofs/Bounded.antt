-- The tokens of a query line are within bounds, and what is read of them is well shaped.
--   is_bounded n k    a generator up to n or unknown, an integer within bounds or without a value, or anything else
--   AreBounded n ts   all of them are
use Rattle.std.proofs.Common.{◌≡◌, ℕ, zero, suc, ◌+◌, ◌==◌, ◌<◌, nat_le, Bool, true, false, cond, ◌&&◌, ◌||◌, pos, neg_ℤ, Option, Some, None, option_map, unwrap_or, position, List, [], ◌∷◌, length, Result, Ok, Err, IfOk, refl, arith, if◌then◌else◌}
use Rattle.std.specs.Prelude.{codes}
use Rattle.std.specs.List.{prefix_len, take_while}
use Rattle.std.specs.Str.{bytes_eq}
use Rattle.std.proofs.lemmas.Bool.Decides.{nat_tests}
use Rattle.std.proofs.lemmas.List.Quantifiers.{position-Some}
use Rattle.nil_num.specs.Bound.{overflows}
use Rattle.nil_word.specs.declared.query.Query.{Query}
use Rattle.nil_word.specs.Expressions.{is_within}
use Rattle.nil_pres.specs.Presented.{is_letter, is_name_byte}
use Rattle.line_tokens.specs.declared.kind.Kind.{Kind}
use Rattle.line_tokens.specs.declared.kind.Kind.TheVariants as k
use Rattle.line_tokens.specs.declared.token.Token.{Token}
use Rattle.line_tokens.specs.Tokens.{is_blank, is_digit, number_from, integer, generator_of, single, token_at, tokens_from}
use Rattle.word_text.specs.declared.query_fault.QueryFault.{QueryFault}
use Rattle.word_text.specs.declared.query_fault.QueryFault.TheVariants as fault
use Rattle.word_text.specs.Words.{query_word, query_tokens}
use Rattle.word_text.specs.Faults.{kinds_of, deeper, is_caret}
use Rattle.word_text.specs.Lines.{ReadsAs, blank, says}
use Rattle.word_text.specs.State.{State}
use Rattle.word_text.specs.Machine.{next, start}
use Rattle.word_text.specs.Shaping.{IsShapedQuery}
use Rattle.word_text.specs.Verdict.{trouble, judged, verdict_from}
use Rattle.word_text.proofs.Judged.{read_verdict}
use Rattle.word_text.proofs.Shaped.{is_good, AreGood, both_true, line_shaped}

abbrev is_bounded : ℕ → Kind → Bool
is_bounded n (k.Name g) = nat_le g n
is_bounded n (k.Integer is_one None) = true
is_bounded n (k.Integer is_one (Some z)) = is_within z
is_bounded n _ = true

abbrev AreBounded : ℕ → List Token → Type 0
AreBounded n [] = Unit {0}
AreBounded n (t ∷ ts) = (is_bounded n t.kind ≡ true) × AreBounded n ts

generator_bounded : (names : List (List ℕ)) (w : List ℕ) (o : Option ℕ) → position (bytes_eq w) names ≡ o → nat_le (unwrap_or (option_map (λ i. i + 1) o) 0) (length names) ≡ true
generator_bounded names w None e = grind (arith, nat_tests)
generator_bounded names w (Some i) e = let below : i < length names = (position-Some (bytes_eq w) names i [] e).0 in grind (arith, nat_tests)

word_bounded : (names : List (List ℕ)) (w : List ℕ) → is_bounded (length names) (query_word names w) ≡ true
word_bounded names w =
    chosen (length names) (generator_of names w) (generator_bounded names w (position (bytes_eq w) names) refl)
    (bytes_eq w (codes "solve")) (bytes_eq w (codes "quotient")) (bytes_eq w (codes "root") || bytes_eq w (codes "image"))
  where
    chosen : (n g : ℕ) → nat_le g n ≡ true → (s q r : Bool) → is_bounded n (cond s k.Solve (cond q k.Quotient (cond r k.Other (k.Name g)))) ≡ true
    chosen n g h true q r = refl
    chosen n g h false true r = refl
    chosen n g h false false true = refl
    chosen n g h false false false = h

single_bounded : (n b : ℕ) → is_bounded n (single b) ≡ true
single_bounded n b = chosen (b == 42) (b == 94) (b == 40) (b == 41) (b == 91) (b == 93) (b == 44) (b == 61) (b == 124)
  where
    chosen : (star caret left right first last comma equal bar : Bool)
        → is_bounded n
        (cond star k.Star (cond caret k.Caret (cond left k.Open (cond right k.Close
        (cond first k.SquareOpen (cond last k.SquareClose (cond comma k.Comma
        (cond equal k.Equal (cond bar k.Bar k.Other)))))))))
        ≡ true
    chosen true _ _ _ _ _ _ _ _ = refl
    chosen false true _ _ _ _ _ _ _ = refl
    chosen false false true _ _ _ _ _ _ = refl
    chosen false false false true _ _ _ _ _ = refl
    chosen false false false false true _ _ _ _ = refl
    chosen false false false false false true _ _ _ = refl
    chosen false false false false false false true _ _ = refl
    chosen false false false false false false false true _ = refl
    chosen false false false false false false false false true = refl
    chosen false false false false false false false false false = refl

within_of : (m : ℕ) → overflows m ≡ false → is_within (pos m) ≡ true
within_of m h = grind (arith, nat_tests)

negative_within : (m : ℕ) → overflows m ≡ false → is_within (neg_ℤ (pos m)) ≡ true
negative_within zero h = refl
negative_within (suc m) h = grind (arith, nat_tests)

integer_bounded : (n : ℕ) (is_one negative : Bool) (m : ℕ) (over : Bool) → overflows m ≡ over
    → is_bounded n (k.Integer is_one (if over then None else Some (cond negative (neg_ℤ (pos m)) (pos m)))) ≡ true
integer_bounded n is_one negative m true h = refl
integer_bounded n is_one false m false h = within_of m h
integer_bounded n is_one true m false h = negative_within m h

token_bounded : (names : List (List ℕ)) (b : ℕ) (bs : List ℕ) → is_bounded (length names) (token_at (query_word names) b bs).0 ≡ true
token_bounded names b bs =
    chosen (is_letter b) (is_digit b) ((b == 45) && nat_le 1 (prefix_len is_digit bs))
  where
    chosen : (word digits minus : Bool) → is_bounded (length names)
        (cond {A = Kind × ℕ} word (query_word names (b ∷ take_while is_name_byte bs), prefix_len is_name_byte bs)
        (cond digits (integer false (b ∷ take_while is_digit bs), prefix_len is_digit bs)
        (cond minus (integer true (take_while is_digit bs), prefix_len is_digit bs) (single b, 0)))).0 ≡ true
    chosen true digits minus = word_bounded names (b ∷ take_while is_name_byte bs)
    chosen false true minus =
        integer_bounded (length names) (bytes_eq (b ∷ take_while is_digit bs) (codes "1")) false (number_from 0 (b ∷ take_while is_digit bs)) (overflows (number_from 0 (b ∷ take_while is_digit bs))) refl
    chosen false false true =
        integer_bounded (length names) false true (number_from 0 (take_while is_digit bs)) (overflows (number_from 0 (take_while is_digit bs))) refl
    chosen false false false = single_bounded (length names) b

either_bounded : (n : ℕ) (b : Bool) (ts us : List Token) → AreBounded n ts → AreBounded n us → AreBounded n (cond b ts us)
either_bounded n true ts us h i = h
either_bounded n false ts us h i = i

tokens_bounded : (names : List (List ℕ)) (skip place : ℕ) (bs : List ℕ) → AreBounded (length names) (tokens_from (query_word names) skip place bs)
tokens_bounded names skip place [] = tt
tokens_bounded names (suc skip) place (b ∷ bs) = tokens_bounded names skip (place + 1) bs
tokens_bounded names zero place (b ∷ bs) =
    let t : Kind × ℕ = token_at (query_word names) b bs in
    either_bounded (length names) (is_blank b) (tokens_from (query_word names) 0 (place + 1) bs)
    (record { kind = t.0; place = place } ∷ tokens_from (query_word names) t.1 (place + 1) bs)
    (tokens_bounded names 0 (place + 1) bs)
    (token_bounded names b bs, tokens_bounded names t.1 (place + 1) bs)

-- a token without fault is good
good_token : (n d : ℕ) (raised : Bool) (place : ℕ) (kind : Kind) → trouble d raised place kind ≡ None → is_bounded n kind ≡ true → is_good n kind ≡ true
good_token n d raised place (k.Name g) e h = both_true (nat_le 1 g) (nat_le g n) (known g place e) h
  where
    known : (g place : ℕ) → cond (g == 0) (Some (fault.Unknown place)) None ≡ None → nat_le 1 g ≡ true
    known zero place e = cc
    known (suc g) place e = grind (arith, nat_tests)
good_token n d raised place (k.Integer is_one None) e h = refl
good_token n d raised place (k.Integer is_one (Some z)) e h = h
good_token n d raised place _ e h = refl

judged_well : (o : Option State) (e : Option QueryFault) (place : ℕ) (f : State → Result Query QueryFault) (q : Query) → judged o e place f ≡ Ok q
    → (e ≡ None) × ((s : State) × (f s ≡ Ok q))
judged_well None e place f q h = cc
judged_well (Some s) (Some e) place f q h = cc
judged_well (Some s) None place f q h = (refl, (s, h))

-- tokens that are read are good
good_tokens : (n bytes : ℕ) (s : State) (d : ℕ) (raised : Bool) (ts : List Token) (q : Query) → verdict_from s d raised bytes ts ≡ Ok q → AreBounded n ts → AreGood n (kinds_of ts)
good_tokens n bytes s d raised [] q e h = tt
good_tokens n bytes s d raised (t ∷ ts) q e h =
    let well = judged_well (next s t.kind) (trouble d raised t.place t.kind) t.place (λ u. verdict_from u (deeper d t.kind) (is_caret t.kind) bytes ts) q e in (
      good_token n d raised t.place t.kind well.0 h.0,
      good_tokens n bytes well.1.0 (deeper d t.kind) (is_caret t.kind) ts q well.1.1 h.1,
    )

pub read_shaped : (names : List (List ℕ)) (line : List ℕ) (q : Query) → ReadsAs names line q → IsShapedQuery (length names) q
read_shaped names line _ (blank silent) = tt
read_shaped names line _ (says q said r) =
    line_shaped (length names) (kinds_of (query_tokens names line)) q r.line
    (good_tokens (length names) 0 start 0 false (query_tokens names line) q (read_verdict 0 (query_tokens names line) q r) (tokens_bounded names 0 1 line))

-- what a reader gives is well shaped
pub result_shaped : (names : List (List ℕ)) (line : List ℕ) (r : Result Query QueryFault) → IfOk r (λ q. ReadsAs names line q) → IfOk r (λ q. IsShapedQuery (length names) q)
result_shaped names line (Ok q) h = read_shaped names line q h
result_shaped names line (Err f) h = tt
