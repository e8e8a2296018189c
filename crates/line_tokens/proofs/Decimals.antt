-- The decimals of a number, read back.
use Rattle.std.proofs.Common.{◌≡◌, ℕ, ◌+◌, ◌-◌, ◌*◌, ◌^◌, ◌/◌, ◌%◌, ◌==◌, ◌<◌, ◌≤◌, true, false, List, [], ◌∷◌, ◌++◌, length, refl, sym, ◌∙◌, arith, length-append}
use Rattle.std.specs.List.{list_all}
use Rattle.std.specs.Str.{bytes_eq}
use Rattle.std.specs.Fmt.{decimal}
use Rattle.std.proofs.lemmas.Bool.Decides.{nat_tests}
use Rattle.std.proofs.lemmas.Fmt.{decimal_by_steps_wide}
use Rattle.std.proofs.lemmas.List.Folds.{list_all-append}
use Rattle.line_tokens.specs.Tokens.{is_digit, number_from}

-- what the digits of a number say
pub record AreDigitsOf (n : ℕ) (ds : List ℕ) : Type 0 where
  pub some : 1 ≤ length ds
  pub digits : list_all is_digit ds ≡ true
  pub number : number_from 0 ds ≡ n
  pub one : bytes_eq ds (49 ∷ []) ≡ (n == 1)

digit : (d : ℕ) → d < 10 → is_digit (48 + d) ≡ true
digit d h = grind (arith, nat_tests)

one_digit : (n : ℕ) → n < 10 → AreDigitsOf n ((48 + n) ∷ [])
one_digit n h = record {
  some = omega arith;
  digits = let e = digit n h in grind (arith, nat_tests);
  number = omega arith;
  one = grind (arith, nat_tests);
}

number_from-append : (m : ℕ) (ds : List ℕ) (x : ℕ) → number_from m (ds ++ x ∷ []) ≡ number_from m ds * 10 + (x - 48)
number_from-append m [] x = refl
number_from-append m (d ∷ ds) x = number_from-append (m * 10 + (d - 48)) ds x

two_digits : (ds : List ℕ) (x : ℕ) → 1 ≤ length ds → bytes_eq (ds ++ x ∷ []) (49 ∷ []) ≡ false
two_digits [] x h = absurd (omega arith)
two_digits (d ∷ []) x h = grind (arith, nat_tests)
two_digits (d ∷ e ∷ ds) x h = grind (arith, nat_tests)

above_one : (n : ℕ) → 10 ≤ n → (n == 1) ≡ false
above_one n h = grind (arith, nat_tests)

more_digits : (n : ℕ) (ds : List ℕ) → 10 ≤ n → AreDigitsOf (n / 10) ds → AreDigitsOf n (ds ++ (48 + n % 10) ∷ [])
more_digits n ds h own = record {
  some = omega (arith, length-append ds ((48 + n % 10) ∷ []));
  digits = list_all-append is_digit ds ((48 + n % 10) ∷ []) ∙ (let e = digit (n % 10) (omega arith) in rw (own.digits, e) refl);
  number = number_from-append 0 ds (48 + n % 10) ∙ (let e = own.number in omega arith);
  one = two_digits ds (48 + n % 10) own.some ∙ sym (above_one n h);
}

pub decimal-digits : (n : ℕ) → n < 10 ^ 64 → AreDigitsOf n (decimal n)
decimal-digits = decimal_by_steps_wide AreDigitsOf one_digit more_digits
