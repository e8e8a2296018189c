-- Decimals of numbers: each is read back, and no two are equal.
--   z integer · k generator · c text · r what parsing answers
use Rattle.std.proofs.Common.{◌≡◌, ℕ, suc, ◌^◌, ◌<◌, ℤ, pos, negsuc, neg_ℤ, unsigned_abs, SFits, to_z, of_z, to_z-of_z, List, [], ◌∷◌, Result, Ok, sym, ◌∙◌, ap, subst, refl, arith}
use Rattle.std.specs.Int.{w128}
use Rattle.std.specs.Fmt.{decimal, signed_decimal}
use Rattle.std.specs.Str.Parse.{AllDigits, digits_value, ParsesSigned, ParsesUnsigned}
use Rattle.std.proofs.lemmas.Fmt.{decimal_is_IsNumeral_wide, parse-decimal}
use Rattle.std.proofs.lemmas.Result.{Ok-from_Ok_iff}
use Rattle.std.proofs.lemmas.Str.Parse.{digit_from_value, numerals_by_value, parse_signed_digits, parse_signed_minus, tells_digits}
use Rattle.table_json.specs.TermRules.{IsCoefficient}

wide : (n : ℕ) → n < 2 ^ 127 → n < 10 ^ 64
wide n h = omega (arith, h)

decimal_same : (m n : ℕ) → m < 2 ^ 127 → n < 2 ^ 127 → decimal m ≡ decimal n → m ≡ n
decimal_same m n h k e =
    sym (decimal_is_IsNumeral_wide m (wide m h)).1 ∙ ap (digits_value 10) e
    ∙ (decimal_is_IsNumeral_wide n (wide n k)).1

no_minus : (ds rest : List ℕ) → AllDigits 10 ds → ds ≡ 45 ∷ rest → ⊥
no_minus [] rest h e = cc
no_minus (c ∷ cs) rest h e = let same : c ≡ 45 = cc in omega (arith, digit_from_value c h.0, same)

pub signed_same : (y z : ℤ) → unsigned_abs y < 2 ^ 127 → unsigned_abs z < 2 ^ 127
    → signed_decimal y ≡ signed_decimal z → y ≡ z
signed_same (pos m) (pos n) h k e = ap pos (decimal_same m n h k e)
signed_same (pos m) (negsuc n) h k e =
    absurd (no_minus (decimal m) (decimal (suc n)) (decimal_is_IsNumeral_wide m (wide m h)).0.1 e)
signed_same (negsuc m) (pos n) h k e =
    absurd (no_minus (decimal n) (decimal (suc m)) (decimal_is_IsNumeral_wide n (wide n k)).0.1
    (sym e))
signed_same (negsuc m) (negsuc n) h k e =
    let tails : decimal (suc m) ≡ decimal (suc n) = cc in
    ap negsuc (omega (arith, decimal_same (suc m) (suc n) h k tails))

read_back : {E : Type 0} (z : ℤ) (c : List ℕ) (r : Result ℤ E) → unsigned_abs z < 2 ^ 127
    → c ≡ signed_decimal z → ParsesSigned w128 10 c r → r ≡ Ok z
read_back (pos n) c r small is h =
    let k = decimal_is_IsNumeral_wide n (wide n small) in
    let read = parse_signed_digits (numerals_by_value _ tells_digits) w128 (decimal n) r
    (subst (λ l. ParsesSigned w128 10 l r) is h) k.0.1 in
    Ok-from_Ok_iff r _ _ read (k.0.0, omega (arith, k.1, small)) ∙ ap (λ m. Ok (pos m)) k.1
read_back (negsuc n) c r small is h =
    let k = decimal_is_IsNumeral_wide (suc n) (wide (suc n) small) in
    let read = parse_signed_minus (numerals_by_value _ tells_digits) w128 (45 ∷ decimal (suc n)) r
    (subst (λ l. ParsesSigned w128 10 l r) is h) refl in
    Ok-from_Ok_iff r _ _ read (k.0.1, k.0.0, omega (arith, k.1, small))
    ∙ ap (λ m. Ok (neg_ℤ (pos m))) k.1

-- a coefficient is parsed as its number
pub coefficient_parses : {E : Type 0} (c : List ℕ) (z : ℤ) (r : Result ℤ E)
    → ParsesSigned w128 10 c r → IsCoefficient c z → r ≡ Ok z
coefficient_parses c z r h is = read_back z c r is.within is.decimal h

-- so is the number of a generator
pub generator_parses : {E : Type 0} (c : List ℕ) (k : ℕ) (r : Result ℕ E)
    → ParsesUnsigned 32 10 c r → k < 2 ^ 32 → c ≡ decimal k → r ≡ Ok k
generator_parses c k r h small is = parse-decimal 32 k c r small (omega arith) is h

-- ---- numbers as the machine holds them
fits : (z : ℤ) → unsigned_abs z < 2 ^ 127 → SFits w128 z
fits (pos n) h = record { sfits = h }
fits (negsuc n) h = record { sfits = omega (arith, h) }

pub held : (z : ℤ) → unsigned_abs z < 2 ^ 127 → to_z w128 (of_z w128 z) ≡ z
held z h = to_z-of_z (fits z h)

pub machine_is : (z : ℤ) (m : ℕ) → unsigned_abs z < 2 ^ 127 → of_z w128 z ≡ m → z ≡ to_z w128 m
machine_is z m h e = sym (held z h) ∙ ap (to_z w128) e
