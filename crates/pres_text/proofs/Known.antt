-- The generators of a line are those that have names.
use Rattle.std.proofs.Common.{◌≡◌, ℕ, zero, suc, ◌+◌, ◌<◌, ◌≤◌, ◌==◌, ◌&&◌, nat_le, nat_lt, Bool, true, false, cond, List, [], ◌∷◌, length, map, Option, Some, None, option_map, unwrap_or, refl, sym, subst, arith}
use Rattle.std.specs.List.{prefix_len, take_while, position_or_len}
use Rattle.std.specs.Str.{bytes_eq}
use Rattle.std.proofs.lemmas.Bool.Decides.{nat_tests}
use Rattle.nil_pres.specs.Presented.{is_letter, is_name_byte}
use Rattle.line_tokens.specs.declared.kind.Kind.{Kind}
use Rattle.line_tokens.specs.declared.kind.Kind.TheVariants as k
use Rattle.line_tokens.specs.declared.token.Token.{Token}
use Rattle.line_tokens.specs.Tokens.{is_blank, is_digit, generator_of, integer, single, token_at, tokens_from, kinds}
use Rattle.pres_text.specs.Relation.{Power, Spelled, IsPower, plain, raised, ArePowers, last, times, IsRightSide, empty, powers, IsSpelled, relation, spelled_by, relation_word}
use Rattle.pres_text.specs.Spelling.{Clipped, syllable_of, syllables_of, spelled_clipped}
use Rattle.pres_text.proofs.Grammar.{spelled_by-sound}
use Rattle.nil_pres.specs.Rights.{AreUpTo}
use Rattle.std.proofs.lemmas.List.Elements.{All-cons}
use Rattle.nil_pres.specs.declared.syllable.Syllable.{Syllable}

-- the generator of a name, and 0 of other tokens
abbrev number_of : Kind → ℕ
number_of (k.Name g) = g
number_of _ = 0

abbrev AreKnown : ℕ → List Kind → Type 0
AreKnown n [] = Unit {0}
AreKnown n (x ∷ xs) = (number_of x ≤ n) × AreKnown n xs

place_within : (q : Bool) (i n : ℕ) → (q ≡ true → i < n) → unwrap_or (option_map (λ j. j + 1) (cond q (Some i) None)) 0 ≤ n
place_within true i n h = let l : i < n = h refl in omega arith
place_within false i n h = omega arith

is_below : (i n : ℕ) → nat_lt i n ≡ true → i < n
is_below i n h = grind (arith, nat_tests)

generator_of-le : (names : List (List ℕ)) (w : List ℕ) → generator_of names w ≤ length names
generator_of-le names w =
    let i : ℕ = position_or_len (bytes_eq w) names in
    place_within (nat_lt i (length names)) i (length names) (is_below i (length names))

known_either : (q : Bool) (x y : Kind) (n : ℕ) → number_of x ≤ n → number_of y ≤ n → number_of (cond q x y) ≤ n
known_either true x y n h k = h
known_either false x y n h k = k

none : (n : ℕ) → 0 ≤ n
none n = omega arith

single_known : (b n : ℕ) → number_of (single b) ≤ n
single_known b n =
    known_either (b == 42) k.Star _ n (none n) (known_either (b == 94) k.Caret _ n (none n) (known_either (b == 40) k.Open _ n (none n)
    (known_either (b == 41) k.Close _ n (none n) (known_either (b == 91) k.SquareOpen _ n (none n) (known_either (b == 93) k.SquareClose _ n (none n)
    (known_either (b == 44) k.Comma _ n (none n) (known_either (b == 61) k.Equal _ n (none n) (known_either (b == 124) k.Bar k.Other n (none n) (none n)))))))))

token_either : (q : Bool) (x y : Kind × ℕ) (n : ℕ) → number_of x.0 ≤ n → number_of y.0 ≤ n → number_of (cond q x y).0 ≤ n
token_either true x y n h k = h
token_either false x y n h k = k

token_known : (names : List (List ℕ)) (b : ℕ) (bs : List ℕ) → number_of (token_at (relation_word names) b bs).0 ≤ length names
token_known names b bs =
    let n : ℕ = length names in
    token_either (is_letter b) (relation_word names (b ∷ take_while is_name_byte bs), prefix_len is_name_byte bs) _ n (generator_of-le names (b ∷ take_while is_name_byte bs))
    (token_either (is_digit b) (integer false (b ∷ take_while is_digit bs), prefix_len is_digit bs) _ n (none n)
    (token_either ((b == 45) && nat_le 1 (prefix_len is_digit bs)) (integer true (take_while is_digit bs), prefix_len is_digit bs) (single b, 0) n (none n) (single_known b n)))

abbrev kind_list : List Token → List Kind
kind_list ts = map (λ t. t.kind) ts

abbrev token_of : Kind → ℕ → Token
token_of kind place = record { kind = kind; place = place }

known_step : (q : Bool) (n place : ℕ) (x : Kind) (blank more : List Token) → number_of x ≤ n → AreKnown n (kind_list blank) → AreKnown n (kind_list more)
    → AreKnown n (kind_list (cond q blank (token_of x place ∷ more)))
known_step true n place x blank more h a b = a
known_step false n place x blank more h a b = (h, b)

tokens_known : (names : List (List ℕ)) (skip place : ℕ) (bs : List ℕ) → AreKnown (length names) (kind_list (tokens_from (relation_word names) skip place bs))
tokens_known names skip place [] = tt
tokens_known names (suc skip) place (b ∷ bs) = tokens_known names skip (place + 1) bs
tokens_known names zero place (b ∷ bs) =
    known_step (is_blank b) (length names) place (token_at (relation_word names) b bs).0 _ _ (token_known names b bs)
    (tokens_known names 0 (place + 1) bs) (tokens_known names (token_at (relation_word names) b bs).1 (place + 1) bs)

kinds_known : (names : List (List ℕ)) (line : List ℕ) → AreKnown (length names) (kinds (relation_word names) line)
kinds_known names line = tokens_known names 0 1 line

power_known : (n : ℕ) (ks rest : List Kind) (p : Power) → IsPower ks rest p → AreKnown n ks → (p.number ≤ n) × AreKnown n rest
power_known n _ _ _ (plain g rest) h = (h.0, h.1)
power_known n _ _ _ (raised g one v rest) h = (h.0, h.1.1.1)

powers_known : (n : ℕ) (ks : List Kind) (ps : List Power) → ArePowers ks ps → AreKnown n ks → AreUpTo n (syllables_of ps)
powers_known n _ _ (last ks p d) h = All-cons (λ (s : Syllable). s.number ≤ n) (syllable_of p) [] (power_known n ks [] p d h).0 (λ k d l. absurd (omega arith))
powers_known n _ _ (times ks more p ps d ds) h =
    let own = power_known n ks (k.Star ∷ more) p d h in
    All-cons (λ (s : Syllable). s.number ≤ n) (syllable_of p) (syllables_of ps) own.0 (powers_known n more ps ds own.1.1)

right_known : (n : ℕ) (ks : List Kind) (ps : List Power) → IsRightSide ks ps → AreKnown n ks → AreUpTo n (syllables_of ps)
right_known n _ _ (empty v) h = λ k d l. absurd (omega arith)
right_known n _ _ (powers ks ps d) h = powers_known n ks ps d h

-- the numbers of a relation
pub record IsUpTo (n : ℕ) (c : Clipped) : Type 0 where
  pub above : c.above ≤ n
  pub below : c.below ≤ n
  pub right : AreUpTo n c.right

spelled_known : (n : ℕ) (ks : List Kind) (s : Spelled) → IsSpelled ks s → AreKnown n ks → IsUpTo n (spelled_clipped s)
spelled_known n _ _ (relation j i ks ps d) h = record {
  above = h.1.0;
  below = h.1.1.1.0;
  right = right_known n ks ps d h.1.1.1.1.1.1;
}

known_found : (n : ℕ) (ks : List Kind) (c : Clipped) (o : Option Spelled) → o ≡ spelled_by ks → Some c ≡ option_map spelled_clipped o → AreKnown n ks → IsUpTo n c
known_found n ks c None e h k = cc
known_found n ks c (Some s) e h k = let same : spelled_clipped s ≡ c = cc in subst (IsUpTo n) same (spelled_known n ks s (spelled_by-sound ks s (sym e)) k)

-- a relation of a line
pub found_known : (names : List (List ℕ)) (line : List ℕ) (c : Clipped) → Some c ≡ option_map spelled_clipped (spelled_by (kinds (relation_word names) line)) → IsUpTo (length names) c
found_known names line c h = known_found (length names) (kinds (relation_word names) line) c (spelled_by (kinds (relation_word names) line)) refl h (kinds_known names line)
