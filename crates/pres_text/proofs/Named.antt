-- Each generator's name is a word that means the generator.
use Rattle.std.proofs.Common.{◌≡◌, ℕ, ◌+◌, ◌-◌, ◌<◌, ◌≤◌, nat_le, Bool, true, false, not, ◌&&◌, List, [], ◌∷◌, length, option_map, unwrap_or, refl, ◌∙◌, ap, arith}
use Rattle.std.specs.List.{list_all, list_any}
use Rattle.std.specs.Str.{bytes_eq}
use Rattle.nil_pres.specs.Presented.{AreNames, is_name, is_letter, is_name_byte, reserved}
use Rattle.nil_pres.proofs.Finding.{position-own}
use Rattle.line_tokens.specs.Tokens.{generator_of}
use Rattle.pres_text.specs.Text.{name_of}

pub record IsWord (names : List (List ℕ)) (g : ℕ) : Type 0 where
  pub first : ℕ
  pub others : List ℕ
  pub text : name_of names g ≡ first ∷ others
  pub letter : is_letter first ≡ true
  pub bytes : list_all is_name_byte others ≡ true
  pub number : generator_of names (first ∷ others) ≡ g

-- each generator up to a number has one
abbrev pub AreWords : List (List ℕ) → ℕ → Type 0
AreWords names n = (g : ℕ) → 1 ≤ g → g ≤ n → IsWord names g

pub left_of : (a b : Bool) → (a && b) ≡ true → a ≡ true
left_of true b h = refl
left_of false b h = h

pub right_of : (a b : Bool) → (a && b) ≡ true → b ≡ true
right_of true b h = h
right_of false b h = cc

own_number : (names : List (List ℕ)) (g : ℕ) → AreNames names → 1 ≤ g → g ≤ length names → generator_of names (name_of names g) ≡ g
own_number names g h low high =
    let below : g - 1 < length names = omega arith in
    let back : (g - 1) + 1 ≡ g = omega arith in
    ap (λ o. unwrap_or (option_map (λ i. i + 1) o) 0) (position-own names (g - 1) h below) ∙ back

word_of : (names : List (List ℕ)) (g : ℕ) (name : List ℕ) → name_of names g ≡ name → is_name name ≡ true → generator_of names name ≡ g → IsWord names g
word_of names g [] is h own = absurd (nothing h)
  where
    nothing : is_name [] ≡ true → ⊥
    nothing e = cc
word_of names g (b ∷ bs) is h own =
    let size : Bool = nat_le (length (b ∷ bs)) 32 in
    let all : Bool = is_name_byte b && list_all is_name_byte bs in
    let free : Bool = not (list_any (bytes_eq (b ∷ bs)) reserved) in
    let parts : (((size && is_letter b) && all) && free) ≡ true = h in
    let front : ((size && is_letter b) && all) ≡ true = left_of ((size && is_letter b) && all) free parts in
    record {
      first = b;
      others = bs;
      text = is;
      letter = right_of size (is_letter b) (left_of (size && is_letter b) all front);
      bytes = right_of (is_name_byte b) (list_all is_name_byte bs) (right_of (size && is_letter b) all front);
      number = own;
    }

pub are_words : (names : List (List ℕ)) → AreNames names → AreWords names (length names)
are_words names h g low high =
    let below : g - 1 < length names = omega arith in
    word_of names g (name_of names g) refl (h.lawful (g - 1) below) (own_number names g h low high)
