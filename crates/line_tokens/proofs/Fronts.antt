-- The kinds of a line from its front.
use Rattle.std.proofs.Common.{◌≡◌, ℕ, zero, suc, ◌+◌, ◌^◌, ◌==◌, ◌&&◌, nat_le, ◌<◌, ◌≤◌, Bool, true, false, cond, ℤ, pos, negsuc, neg_ℤ, unsigned_abs, Some, None, List, [], ◌∷◌, ◌++◌, length, map, drop, take, refl, sym, ◌∙◌, ap, arith}
use Rattle.std.specs.Fmt.{decimal, signed_decimal}
use Rattle.std.specs.Ordering.{int_eq}
use Rattle.std.proofs.Math.Seq.{take-append_seam, drop-append_seam}
use Rattle.std.proofs.lemmas.Bool.Decides.{nat_tests, Decides-eqb, Decides-int_eq, Decides-like, same_from_decides}
use Rattle.std.specs.List.{list_all, prefix_len, take_while}
use Rattle.std.specs.Char.{is_ascii_alphabetic}
use Rattle.line_tokens.specs.declared.kind.Kind.{Kind}
use Rattle.line_tokens.specs.declared.kind.Kind.TheVariants as k
use Rattle.line_tokens.specs.declared.token.Token.{Token}
use Rattle.nil_num.specs.Bound.{Fits, overflows}
use Rattle.line_tokens.specs.Tokens.{is_blank, is_digit, number_from, fitting, integer, single, token_at, tokens_from, kinds, is_word_byte}
use Rattle.line_tokens.proofs.Cuts.{tokens_from-drop, token_of}
use Rattle.line_tokens.proofs.Decimals.{decimal-digits}
use Rattle.line_tokens.proofs.Runs.{letter_token, digit_token}

abbrev kind_list : List Token → List Kind
kind_list ts = map (λ t. t.kind) ts

-- places don't matter
kinds-place : (word : List ℕ → Kind) (skip a b : ℕ) (bs : List ℕ) → kind_list (tokens_from word skip a bs) ≡ kind_list (tokens_from word skip b bs)
kinds-place word skip a b [] = refl
kinds-place word (suc skip) a b (x ∷ bs) = kinds-place word skip (a + 1) (b + 1) bs
kinds-place word zero a b (x ∷ bs) = kinds_either (is_blank x) (kinds-place word 0 (a + 1) (b + 1) bs) (kinds-place word (token_at word x bs).1 (a + 1) (b + 1) bs)
  where
    kinds_either : (q : Bool) → kind_list (tokens_from word 0 (a + 1) bs) ≡ kind_list (tokens_from word 0 (b + 1) bs)
        → kind_list (tokens_from word (token_at word x bs).1 (a + 1) bs) ≡ kind_list (tokens_from word (token_at word x bs).1 (b + 1) bs)
        → kind_list (cond q (tokens_from word 0 (a + 1) bs) (token_of (token_at word x bs).0 a ∷ tokens_from word (token_at word x bs).1 (a + 1) bs))
        ≡ kind_list (cond q (tokens_from word 0 (b + 1) bs) (token_of (token_at word x bs).0 b ∷ tokens_from word (token_at word x bs).1 (b + 1) bs))
    kinds_either true e f = e
    kinds_either false e f = ap (λ ks. (token_at word x bs).0 ∷ ks) f

-- behind a blank
pub kinds-blank : (word : List ℕ → Kind) (b : ℕ) (bs : List ℕ) → is_blank b ≡ true → kinds word (b ∷ bs) ≡ kinds word bs
kinds-blank word b bs h =
    ap (λ q. kind_list (cond q (tokens_from word 0 2 bs) (token_of (token_at word b bs).0 1 ∷ tokens_from word (token_at word b bs).1 2 bs))) h
    ∙ kinds-place word 0 2 1 bs

-- a token, and those behind it
pub kinds-token : (word : List ℕ → Kind) (b : ℕ) (bs : List ℕ) → is_blank b ≡ false → kinds word (b ∷ bs) ≡ (token_at word b bs).0 ∷ kinds word (drop (token_at word b bs).1 bs)
kinds-token word b bs h =
    ap (λ q. kind_list (cond q (tokens_from word 0 2 bs) (token_of (token_at word b bs).0 1 ∷ tokens_from word (token_at word b bs).1 2 bs))) h
    ∙ ap (λ ks. (token_at word b bs).0 ∷ ks) (ap kind_list (tokens_from-drop word (token_at word b bs).1 2 bs) ∙ kinds-place word 0 (2 + (token_at word b bs).1) 1 (drop (token_at word b bs).1 bs))

left_of_and : (a b : Bool) → (a && b) ≡ true → a ≡ true
left_of_and true b h = refl
left_of_and false b h = h

right_of_and : (a b : Bool) → (a && b) ≡ true → b ≡ true
right_of_and true b h = h
right_of_and false b h = cc

-- a run of bytes that pass, before one that doesn't
pub prefix_len-run : (p : ℕ → Bool) (xs rest : List ℕ) → list_all p xs ≡ true → prefix_len p rest ≡ 0 → prefix_len p (xs ++ rest) ≡ length xs
prefix_len-run p [] rest h e = e
prefix_len-run p (x ∷ xs) rest h e =
    let a : p x ≡ true = left_of_and (p x) (list_all p xs) h in
    let k : prefix_len p (xs ++ rest) ≡ length xs = prefix_len-run p xs rest (right_of_and (p x) (list_all p xs) h) e in
    ap (λ q. cond q (1 + prefix_len p (xs ++ rest)) 0) a ∙ (omega arith)

take_while-run : (p : ℕ → Bool) (xs rest : List ℕ) → list_all p xs ≡ true → prefix_len p rest ≡ 0 → take_while p (xs ++ rest) ≡ xs
take_while-run p xs rest h e = ap (λ n. take n (xs ++ rest)) (prefix_len-run p xs rest h e) ∙ take-append_seam xs rest

drop-run : (p : ℕ → Bool) (xs rest : List ℕ) → list_all p xs ≡ true → prefix_len p rest ≡ 0 → drop (prefix_len p (xs ++ rest)) (xs ++ rest) ≡ rest
drop-run p xs rest h e = ap (λ n. drop n (xs ++ rest)) (prefix_len-run p xs rest h e) ∙ drop-append_seam xs rest

letter_sticks : (b : ℕ) → is_ascii_alphabetic b ≡ true → is_blank b ≡ false
letter_sticks b h = grind (arith, nat_tests)

digit_sticks : (b : ℕ) → is_digit b ≡ true → (is_blank b ≡ false) × (is_ascii_alphabetic b ≡ false)
digit_sticks b h = (grind (arith, nat_tests), grind (arith, nat_tests))

-- a word, where no word byte stands behind it
pub kinds-word : (word : List ℕ → Kind) (b : ℕ) (bs rest : List ℕ) → is_ascii_alphabetic b ≡ true → list_all is_word_byte bs ≡ true → prefix_len is_word_byte rest ≡ 0
    → kinds word (b ∷ bs ++ rest) ≡ word (b ∷ bs) ∷ kinds word rest
kinds-word word b bs rest l h e =
    kinds-token word b (bs ++ rest) (letter_sticks b l)
    ∙ ap (λ t. t.0 ∷ kinds word (drop t.1 (bs ++ rest))) (letter_token word b (bs ++ rest) l)
    ∙ ap (λ w. word (b ∷ w) ∷ kinds word (drop (prefix_len is_word_byte (bs ++ rest)) (bs ++ rest))) (take_while-run is_word_byte bs rest h e)
    ∙ ap (λ r. word (b ∷ bs) ∷ kinds word r) (drop-run is_word_byte bs rest h e)

-- digits, where no digit stands behind them
kinds-digits : (word : List ℕ → Kind) (bs rest : List ℕ) → 1 ≤ length bs → list_all is_digit bs ≡ true → prefix_len is_digit rest ≡ 0
    → kinds word (bs ++ rest) ≡ integer false bs ∷ kinds word rest
kinds-digits word [] rest l h e = absurd (omega arith)
kinds-digits word (b ∷ bs) rest l h e =
    let s = digit_sticks b (left_of_and (is_digit b) (list_all is_digit bs) h) in
    kinds-token word b (bs ++ rest) s.0
    ∙ ap (λ t. t.0 ∷ kinds word (drop t.1 (bs ++ rest))) (digit_token word b (bs ++ rest) s.1 (left_of_and (is_digit b) (list_all is_digit bs) h))
    ∙ ap (λ w. integer false (b ∷ w) ∷ kinds word (drop (prefix_len is_digit (bs ++ rest)) (bs ++ rest))) (take_while-run is_digit bs rest (right_of_and (is_digit b) (list_all is_digit bs) h) e)
    ∙ ap (λ r. integer false (b ∷ bs) ∷ kinds word r) (drop-run is_digit bs rest (right_of_and (is_digit b) (list_all is_digit bs) h) e)

minus_token : (word : List ℕ → Kind) (bs : List ℕ) → nat_le 1 (prefix_len is_digit bs) ≡ true → token_at word 45 bs ≡ (integer true (take_while is_digit bs), prefix_len is_digit bs)
minus_token word bs h = rw h refl

-- and with a `-` before them
kinds-minus : (word : List ℕ → Kind) (bs rest : List ℕ) → 1 ≤ length bs → list_all is_digit bs ≡ true → prefix_len is_digit rest ≡ 0
    → kinds word (45 ∷ bs ++ rest) ≡ integer true bs ∷ kinds word rest
kinds-minus word bs rest l h e =
    let n : nat_le 1 (prefix_len is_digit (bs ++ rest)) ≡ true = ap (nat_le 1) (prefix_len-run is_digit bs rest h e) ∙ (grind (arith, nat_tests)) in
    kinds-token word 45 (bs ++ rest) refl
    ∙ ap (λ t. t.0 ∷ kinds word (drop t.1 (bs ++ rest))) (minus_token word (bs ++ rest) n)
    ∙ ap (λ w. integer true w ∷ kinds word (drop (prefix_len is_digit (bs ++ rest)) (bs ++ rest))) (take_while-run is_digit bs rest h e)
    ∙ ap (λ r. integer true bs ∷ kinds word r) (drop-run is_digit bs rest h e)

single_token : (word : List ℕ → Kind) (b : ℕ) (bs : List ℕ) → is_ascii_alphabetic b ≡ false → is_digit b ≡ false → (b == 45) ≡ false → token_at word b bs ≡ (single b, 0)
single_token word b bs l d m = rw (l, d, m) refl

-- a byte that is a token by itself
pub kinds-single : (word : List ℕ → Kind) (b : ℕ) (bs : List ℕ) → is_blank b ≡ false → is_ascii_alphabetic b ≡ false → is_digit b ≡ false → (b == 45) ≡ false
    → kinds word (b ∷ bs) ≡ single b ∷ kinds word bs
kinds-single word b bs s l d m = kinds-token word b bs s ∙ ap (λ t. t.0 ∷ kinds word (drop t.1 bs)) (single_token word b bs l d m)

fitting-small : (negative : Bool) (n : ℕ) → Fits n → fitting negative n ≡ Some (cond negative (neg_ℤ (pos n)) (pos n))
fitting-small negative n h = let e : overflows n ≡ false = grind (arith, nat_tests) in
    ap (λ q. cond q None (Some (cond negative (neg_ℤ (pos n)) (pos n)))) e

int_eq-one : (n : ℕ) → int_eq (pos n) (pos 1) ≡ (n == 1)
int_eq-one n = same_from_decides (int_eq (pos n) (pos 1)) (n == 1) (Decides-int_eq (pos n) (pos 1)) (Decides-like (n == 1) (λ e. ap pos e) (λ e. cc) (Decides-eqb n 1))

is_wide : (n : ℕ) → Fits n → n < 10 ^ 64
is_wide n h = omega arith

-- a written number reads back
pub kinds-signed : (word : List ℕ → Kind) (e : ℤ) (rest : List ℕ) → Fits (unsigned_abs e) → prefix_len is_digit rest ≡ 0
    → kinds word (signed_decimal e ++ rest) ≡ k.Integer (int_eq e (pos 1)) (Some e) ∷ kinds word rest
kinds-signed word (pos n) rest h s =
    let own = decimal-digits n (is_wide n h) in
    kinds-digits word (decimal n) rest own.some own.digits s
    ∙ ap (λ q. k.Integer q (fitting false (number_from 0 (decimal n))) ∷ kinds word rest) (own.one ∙ sym (int_eq-one n))
    ∙ ap (λ m. k.Integer (int_eq (pos n) (pos 1)) (fitting false m) ∷ kinds word rest) own.number
    ∙ ap (λ o. k.Integer (int_eq (pos n) (pos 1)) o ∷ kinds word rest) (fitting-small false n h)
kinds-signed word (negsuc n) rest h s =
    let own = decimal-digits (suc n) (is_wide (suc n) h) in
    kinds-minus word (decimal (suc n)) rest own.some own.digits s
    ∙ ap (λ m. k.Integer false (fitting true m) ∷ kinds word rest) own.number
    ∙ ap (λ o. k.Integer false o ∷ kinds word rest) (fitting-small true (suc n) h)
