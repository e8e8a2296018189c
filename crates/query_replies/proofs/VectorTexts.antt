-- Vectors with one text are one vector.
--   spaced es          each entry behind a space
--   HasNoSpace text    no byte of it is a space
--   IsCut text         it is empty, or begins with a space
use Rattle.std.proofs.Common.{◌≡◌, ◌≢◌, ℕ, suc, ◌^◌, ◌<◌, ℤ, pos, negsuc, unsigned_abs, List, [], ◌∷◌, ◌++◌, length, refl, sym, ◌∙◌, ap, append-nil, arith}
use Rattle.std.specs.Fmt.{decimal, signed_decimal}
use Rattle.std.specs.Str.Parse.{AllDigits, digits_value}
use Rattle.std.proofs.lemmas.Fmt.{decimal_is_IsNumeral_wide}
use Rattle.std.proofs.lemmas.Str.Parse.{digit_from_value}
use Rattle.word_text.specs.Vectors.{text_of_entries}
use Rattle.group_eval.specs.Right.{AreSmall}

abbrev spaced : List ℤ → List ℕ
spaced [] = []
spaced (e ∷ es) = 32 ∷ (signed_decimal e ++ spaced es)

text_of_entries-cons : (e : ℤ) (es : List ℤ)
    → text_of_entries (e ∷ es) ≡ signed_decimal e ++ spaced es
text_of_entries-cons e [] = sym (append-nil (signed_decimal e))
text_of_entries-cons e (d ∷ es) =
    ap (λ (t : List ℕ). signed_decimal e ++ (32 ∷ t)) (text_of_entries-cons d es)

abbrev HasNoSpace : List ℕ → Type 0
HasNoSpace [] = Unit {0}
HasNoSpace (c ∷ cs) = (c ≢ 32) × HasNoSpace cs

abbrev IsCut : List ℕ → Type 0
IsCut [] = Unit {0}
IsCut (c ∷ cs) = c ≡ 32

-- texts without a space, in front of what begins with one
cut : (a b x y : List ℕ) → HasNoSpace a → HasNoSpace b → IsCut x → IsCut y → a ++ x ≡ b ++ y
    → (a ≡ b) × (x ≡ y)
cut [] [] x y ha hb hx hy e = (refl, e)
cut [] (d ∷ b) [] y ha hb hx hy e = cc
cut [] (d ∷ b) (c ∷ x) y ha hb hx hy e = let same : d ≡ c = cc in absurd (hb.0 (same ∙ hx))
cut (c ∷ a) [] x [] ha hb hx hy e = cc
cut (c ∷ a) [] x (d ∷ y) ha hb hx hy e = let same : c ≡ d = cc in absurd (ha.0 (same ∙ hy))
cut (c ∷ a) (d ∷ b) x y ha hb hx hy e =
    let same : c ≡ d = cc in
    let tails : a ++ x ≡ b ++ y = cc in
    let rest = cut a b x y ha.1 hb.1 hx hy tails in
    (ap (λ (k : ℕ). k ∷ a) same ∙ ap (λ (t : List ℕ). d ∷ t) rest.0, rest.1)

digits_no_space : (ds : List ℕ) → AllDigits 10 ds → HasNoSpace ds
digits_no_space [] h = tt
digits_no_space (c ∷ cs) h = ((λ e. omega (arith, digit_from_value c h.0, e)), digits_no_space cs h.1)

wide : (n : ℕ) → n < 2 ^ 127 → n < 10 ^ 64
wide n h = omega (arith, h)

signed_no_space : (e : ℤ) → unsigned_abs e < 2 ^ 127 → HasNoSpace (signed_decimal e)
signed_no_space (pos n) h = digits_no_space (decimal n) (decimal_is_IsNumeral_wide n (wide n h)).0.1
signed_no_space (negsuc n) h = (
  (λ e. omega (arith, e)),
  digits_no_space (decimal (suc n)) (decimal_is_IsNumeral_wide (suc n) (wide (suc n) h)).0.1,
)

decimal_same : (m n : ℕ) → m < 2 ^ 127 → n < 2 ^ 127 → decimal m ≡ decimal n → m ≡ n
decimal_same m n h k e =
    sym (decimal_is_IsNumeral_wide m (wide m h)).1 ∙ ap (digits_value 10) e
    ∙ (decimal_is_IsNumeral_wide n (wide n k)).1

no_minus : (ds tail : List ℕ) → AllDigits 10 ds → ds ≡ 45 ∷ tail → ⊥
no_minus [] tail h e = cc
no_minus (c ∷ cs) tail h e = let same : c ≡ 45 = cc in omega (arith, digit_from_value c h.0, same)

signed_same : (y z : ℤ) → unsigned_abs y < 2 ^ 127 → unsigned_abs z < 2 ^ 127
    → signed_decimal y ≡ signed_decimal z → y ≡ z
signed_same (pos m) (pos n) h k e = ap pos (decimal_same m n h k e)
signed_same (pos m) (negsuc n) h k e =
    absurd (no_minus (decimal m) (decimal (suc n)) (decimal_is_IsNumeral_wide m (wide m h)).0.1 e)
signed_same (negsuc m) (pos n) h k e =
    absurd (no_minus (decimal n) (decimal (suc m)) (decimal_is_IsNumeral_wide n (wide n k)).0.1
    (sym e))
signed_same (negsuc m) (negsuc n) h k e =
    let tails : decimal (suc m) ≡ decimal (suc n) = cc in
    ap negsuc (omega (arith, decimal_same (suc m) (suc n) h k tails))

cut_spaced : (v : List ℤ) → IsCut (spaced v)
cut_spaced [] = tt
cut_spaced (e ∷ v) = refl

-- first entries behind no space, and the others behind one each
spaced_same : (v w : List ℤ) → AreSmall v → AreSmall w → spaced v ≡ spaced w → v ≡ w
spaced_same [] [] h k e = refl
spaced_same [] (d ∷ w) h k e = cc
spaced_same (c ∷ v) [] h k e = cc
spaced_same (c ∷ v) (d ∷ w) h k e =
    let tails : signed_decimal c ++ spaced v ≡ signed_decimal d ++ spaced w = cc in
    let parts =
    cut (signed_decimal c) (signed_decimal d) (spaced v) (spaced w)
    (signed_no_space c (h 0 c (omega arith))) (signed_no_space d (k 0 d (omega arith)))
    (cut_spaced v) (cut_spaced w) tails in
    ap (λ (z : ℤ). z ∷ v) (signed_same c d (h 0 c (omega arith)) (k 0 d (omega arith)) parts.0)
    ∙ ap (λ (u : List ℤ). d ∷ u)
    (spaced_same v w (λ i x below. h (suc i) x (omega arith))
    (λ i x below. k (suc i) x (omega arith)) parts.1)

pub text_of_entries-same : (v w : List ℤ) → length v ≡ length w → AreSmall v → AreSmall w
    → text_of_entries v ≡ text_of_entries w → v ≡ w
text_of_entries-same [] [] l h k e = refl
text_of_entries-same [] (d ∷ w) l h k e = absurd (omega (arith, l))
text_of_entries-same (c ∷ v) [] l h k e = absurd (omega (arith, l))
text_of_entries-same (c ∷ v) (d ∷ w) l h k e =
    let both : spaced (c ∷ v) ≡ spaced (d ∷ w) =
    ap (λ (t : List ℕ). 32 ∷ t) (sym (text_of_entries-cons c v) ∙ e ∙ text_of_entries-cons d w) in
    spaced_same (c ∷ v) (d ∷ w) h k both
