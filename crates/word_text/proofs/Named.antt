-- Each generator's name is a word of the query language that means the generator.
use Rattle.std.proofs.Common.{◌≡◌, ℕ, ◌+◌, ◌-◌, ◌<◌, ◌≤◌, nat_le, Bool, true, false, not, cond, ◌&&◌, ◌||◌, List, [], ◌∷◌, length, get_or, option_map, unwrap_or, refl, ◌∙◌, ap, arith}
use Rattle.std.specs.Prelude.{codes}
use Rattle.std.specs.List.{list_all, list_any}
use Rattle.std.specs.Str.{bytes_eq}
use Rattle.std.proofs.lemmas.Bool.Decides.{nat_tests}
use Rattle.nil_pres.specs.Presented.{AreNames, is_name, is_letter, is_name_byte, reserved}
use Rattle.nil_pres.proofs.Finding.{position-own}
use Rattle.line_tokens.specs.declared.kind.Kind.TheVariants as k
use Rattle.line_tokens.specs.Tokens.{generator_of}
use Rattle.word_text.specs.Words.{query_word}
use Rattle.word_text.proofs.Spelled.{IsWord}
use Rattle.word_text.proofs.Rewriting.{AreWords}

left_of : (a b : Bool) → (a && b) ≡ true → a ≡ true
left_of true b h = refl
left_of false b h = h

right_of : (a b : Bool) → (a && b) ≡ true → b ≡ true
right_of true b h = h
right_of false b h = cc

is_off : (a : Bool) → not a ≡ true → a ≡ false
is_off true h = cc
is_off false h = refl

left_off : (a b : Bool) → (a || b) ≡ false → a ≡ false
left_off true b h = h
left_off false b h = refl

right_off : (a b : Bool) → (a || b) ≡ false → b ≡ false
right_off true b h = cc
right_off false b h = h

-- what no word of the language is, is a name
plain_word : (names : List (List ℕ)) (w : List ℕ) → list_any (bytes_eq w) reserved ≡ false → query_word names w ≡ k.Name (generator_of names w)
plain_word names w h =
    let s : Bool = bytes_eq w (codes "solve") in
    let q : Bool = bytes_eq w (codes "quotient") in
    let r : Bool = bytes_eq w (codes "root") in
    let i : Bool = bytes_eq w (codes "image") in
    let behind_s : (q || (r || (i || false))) ≡ false = right_off s (q || (r || (i || false))) h in
    let behind_q : (r || (i || false)) ≡ false = right_off q (r || (i || false)) behind_s in
    let no_s : s ≡ false = left_off s (q || (r || (i || false))) h in
    let no_q : q ≡ false = left_off q (r || (i || false)) behind_s in
    let no_r : r ≡ false = left_off r (i || false) behind_q in
    let no_i : i ≡ false = left_off i false (right_off r (i || false) behind_q) in
    chosen s q r i no_s no_q no_r no_i
  where
    chosen : (s q r i : Bool) → s ≡ false → q ≡ false → r ≡ false → i ≡ false
        → cond s k.Solve (cond q k.Quotient (cond (r || i) k.Other (k.Name (generator_of names w)))) ≡ k.Name (generator_of names w)
    chosen false false false false _ _ _ _ = refl
    chosen true q r i e _ _ _ = cc
    chosen false true r i _ e _ _ = cc
    chosen false false true i _ _ e _ = cc
    chosen false false false true _ _ _ e = cc

own_number : (names : List (List ℕ)) (g : ℕ) → AreNames names → 1 ≤ g → g ≤ length names → generator_of names (get_or names (g - 1) []) ≡ g
own_number names g h low high =
    let below : g - 1 < length names = omega arith in
    let back : (g - 1) + 1 ≡ g = omega arith in
    ap (λ o. unwrap_or (option_map (λ i. i + 1) o) 0) (position-own names (g - 1) h below) ∙ back

word_of : (names : List (List ℕ)) (g : ℕ) (name : List ℕ) → get_or names (g - 1) [] ≡ name → is_name name ≡ true → generator_of names name ≡ g → nat_le 1 g ≡ true → IsWord names g
word_of names g [] is h own low = absurd (nothing h)
  where
    nothing : is_name [] ≡ true → ⊥
    nothing e = cc
word_of names g (b ∷ bs) is h own low =
    let size : Bool = nat_le (length (b ∷ bs)) 32 in
    let all : Bool = is_name_byte b && list_all is_name_byte bs in
    let free : Bool = not (list_any (bytes_eq (b ∷ bs)) reserved) in
    let parts : (((size && is_letter b) && all) && free) ≡ true = h in
    let front : ((size && is_letter b) && all) ≡ true = left_of ((size && is_letter b) && all) free parts in
    record {
      first = b;
      others = bs;
      text = is;
      letter = right_of size (is_letter b) (left_of (size && is_letter b) all front);
      bytes = right_of (is_name_byte b) (list_all is_name_byte bs) (right_of (size && is_letter b) all front);
      meaning = plain_word names (b ∷ bs) (is_off (list_any (bytes_eq (b ∷ bs)) reserved) (right_of ((size && is_letter b) && all) free parts)) ∙ ap k.Name own;
      counted = low;
    }

pub are_words : (names : List (List ℕ)) → AreNames names → AreWords names (length names)
are_words names h g low high =
    let least : 1 ≤ g = grind (arith, nat_tests) in
    let most : g ≤ length names = grind (arith, nat_tests) in
    let below : g - 1 < length names = omega arith in
    word_of names g (get_or names (g - 1) []) refl (h.lawful (g - 1) below) (own_number names g h least most) low
