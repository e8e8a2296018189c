-- Written texts have no byte but 32 to 126.
use Rattle.std.proofs.Common.{◌≡◌, ℕ, zero, suc, ◌-◌, ◌^◌, ◌<◌, ◌≤◌, ◌==◌, ◌&&◌, not, nat_le, Bool, true, false, if◌then◌else◌, ℤ, pos, negsuc, unsigned_abs, List, [], ◌∷◌, ◌++◌, length, get_or, take, codes, refl, ◌∙◌, ap, arith}
use Rattle.std.specs.List.{list_all, flat_map}
use Rattle.std.specs.Ordering.{int_eq}
use Rattle.std.specs.Fmt.{decimal, signed_decimal}
use Rattle.std.specs.Str.Lines.{strip_carriage_return}
use Rattle.std.proofs.lemmas.Bool.Decides.{nat_tests}
use Rattle.std.proofs.lemmas.List.Folds.{list_all-append}
use Rattle.nil_pres.specs.declared.syllable.Syllable.{Syllable}
use Rattle.nil_pres.specs.Presented.{is_letter, is_name_byte}
use Rattle.nil_pres.specs.Rights.{IsRight}
use Rattle.line_tokens.specs.Tokens.{is_digit}
use Rattle.line_tokens.proofs.Decimals.{decimal-digits}
use Rattle.pres_text.specs.Lines.{is_text_byte, is_text}
use Rattle.pres_text.specs.File.{Relation}
use Rattle.pres_text.specs.Text.{name_of, power_text, right_text, bracket_text}
use Rattle.pres_text.proofs.Named.{IsWord, AreWords, left_of, right_of}
use Rattle.pres_text.proofs.Tokens.{relation_text}

abbrev pub is_plain_byte : ℕ → Bool
is_plain_byte b = nat_le 32 b && nat_le b 126

abbrev pub is_plain : List ℕ → Bool
is_plain text = list_all is_plain_byte text

both : (a b : Bool) → a ≡ true → b ≡ true → (a && b) ≡ true
both true b h k = k
both false b h k = cc

pub weaker : (p q : ℕ → Bool) (xs : List ℕ) → ((b : ℕ) → p b ≡ true → q b ≡ true) → list_all p xs ≡ true → list_all q xs ≡ true
weaker p q [] h all = refl
weaker p q (x ∷ xs) h all = both (q x) (list_all q xs) (h x (left_of (p x) (list_all p xs) all)) (weaker p q xs h (right_of (p x) (list_all p xs) all))

pub plain-append : (xs ys : List ℕ) → is_plain xs ≡ true → is_plain ys ≡ true → is_plain (xs ++ ys) ≡ true
plain-append xs ys h k = list_all-append is_plain_byte xs ys ∙ both (is_plain xs) (is_plain ys) h k

letter_plain : (b : ℕ) → is_letter b ≡ true → is_plain_byte b ≡ true
letter_plain b h = grind (arith, nat_tests)

name_byte_plain : (b : ℕ) → is_name_byte b ≡ true → is_plain_byte b ≡ true
name_byte_plain b h = grind (arith, nat_tests)

digit_plain : (b : ℕ) → is_digit b ≡ true → is_plain_byte b ≡ true
digit_plain b h = grind (arith, nat_tests)

pub name_plain : (names : List (List ℕ)) (g : ℕ) → IsWord names g → is_plain (name_of names g) ≡ true
name_plain names g w =
    ap is_plain w.text ∙ both (is_plain_byte w.first) (is_plain w.others) (letter_plain w.first w.letter) (weaker is_name_byte is_plain_byte w.others name_byte_plain w.bytes)

wide : (n : ℕ) → n ≤ 2 ^ 63 - 1 → n < 10 ^ 64
wide n h = omega arith

decimal_plain : (e : ℤ) → unsigned_abs e ≤ 2 ^ 63 - 1 → is_plain (signed_decimal e) ≡ true
decimal_plain (pos n) h = weaker is_digit is_plain_byte (decimal n) digit_plain (decimal-digits n (wide n h)).digits
decimal_plain (negsuc n) h = weaker is_digit is_plain_byte (decimal (suc n)) digit_plain (decimal-digits (suc n) (wide (suc n) h)).digits

exponent_plain : (q : Bool) (e : ℤ) → unsigned_abs e ≤ 2 ^ 63 - 1 → is_plain (if q then [] else codes "^" ++ signed_decimal e) ≡ true
exponent_plain true e h = refl
exponent_plain false e h = decimal_plain e h

power_plain : (names : List (List ℕ)) (s : Syllable) → IsWord names s.number → unsigned_abs s.exp ≤ 2 ^ 63 - 1 → is_plain (power_text names s) ≡ true
power_plain names s w h =
    plain-append (name_of names s.number) (if int_eq s.exp (pos 1) then [] else codes "^" ++ signed_decimal s.exp) (name_plain names s.number w) (exponent_plain (int_eq s.exp (pos 1)) s.exp h)

behind_plain : (names : List (List ℕ)) (low : ℕ) (right : List Syllable) → AreWords names (length names) → IsRight low (length names) right
    → is_plain (flat_map (λ t. codes "*" ++ power_text names t) right) ≡ true
behind_plain names low [] words h = refl
behind_plain names low (s ∷ right) words h =
    plain-append (power_text names s) (flat_map (λ t. codes "*" ++ power_text names t) right)
    (power_plain names s (words s.number (omega (arith, h.0)) h.1) h.3) (behind_plain names s.number right words h.4)

right_plain : (names : List (List ℕ)) (low : ℕ) (right : List Syllable) → AreWords names (length names) → IsRight low (length names) right → is_plain (right_text names right) ≡ true
right_plain names low [] words h = refl
right_plain names low (s ∷ right) words h =
    plain-append (power_text names s) (flat_map (λ t. codes "*" ++ power_text names t) right)
    (power_plain names s (words s.number (omega (arith, h.0)) h.1) h.3) (behind_plain names s.number right words h.4)

bracket_plain : (a b : List ℕ) → is_plain a ≡ true → is_plain b ≡ true → is_plain (codes "[" ++ a ++ codes "," ++ b ++ codes "] = ") ≡ true
bracket_plain a b h k =
    plain-append (codes "[" ++ a ++ codes "," ++ b) (codes "] = ")
    (plain-append (codes "[" ++ a ++ codes ",") b (plain-append (codes "[" ++ a) (codes ",") (plain-append (codes "[") a refl h) refl) k) refl

pub relation_plain : (names : List (List ℕ)) (r : Relation) → AreWords names (length names) → 1 ≤ r.below → r.below < r.above → r.above ≤ length names
    → IsRight r.above (length names) r.right → is_plain (relation_text names r) ≡ true
relation_plain names r words low order high right =
    plain-append (bracket_text names r.above r.below) (right_text names r.right)
    (bracket_plain (name_of names r.above) (name_of names r.below) (name_plain names r.above (words r.above (omega arith) high)) (name_plain names r.below (words r.below low (omega arith))))
    (right_plain names r.above r.right words right)

-- what plain texts are
text_byte : (b : ℕ) → is_plain_byte b ≡ true → is_text_byte b ≡ true
text_byte b h = grind (arith, nat_tests)

pub plain_text : (text : List ℕ) → is_plain text ≡ true → is_text text ≡ true
plain_text text h = weaker is_plain_byte is_text_byte text text_byte h

no_feed : (b : ℕ) → is_plain_byte b ≡ true → not (b == 10) ≡ true
no_feed b h = grind (arith, nat_tests)

pub plain_line : (text : List ℕ) → is_plain text ≡ true → list_all (λ b. not (b == 10)) text ≡ true
plain_line text h = weaker is_plain_byte (λ b. not (b == 10)) text no_feed h

no_return : (b : ℕ) → is_plain_byte b ≡ true → (b == 13) ≡ false
no_return b h = grind (arith, nat_tests)

no_return_at : (text : List ℕ) (i : ℕ) → is_plain text ≡ true → (get_or text i 0 == 13) ≡ false
no_return_at [] i h = refl
no_return_at (b ∷ bs) zero h = no_return b (left_of (is_plain_byte b) (is_plain bs) h)
no_return_at (b ∷ bs) (suc i) h = no_return_at bs i (right_of (is_plain_byte b) (is_plain bs) h)

pub plain_stripped : (text : List ℕ) → is_plain text ≡ true → strip_carriage_return text ≡ text
plain_stripped text h = ap (λ (q : Bool). if q then take (length text - 1) text else text) (no_return_at text (length text - 1) h)
