-- Words of digits are parsed.
use Rattle.std.proofs.Common.{◌≡◌, ℕ, ◌<◌, ◌≤◌, ◌^◌, ◌&&◌, cond, true, List, [], ◌∷◌, length, Some, None, Result, Ok, refl, sym, ◌∙◌, ap, le-leb, arith}
use Rattle.std.specs.Char.{is_ascii_digit}
use Rattle.std.specs.List.{list_all}
use Rattle.std.specs.Str.{all_ascii_digits}
use Rattle.std.specs.Str.Parse.{digits_value, ParsesUnsigned}
use Rattle.std.specs.Result.{result_ok}
use Rattle.std.proofs.lemmas.Bool.{and_from}
use Rattle.query_session.specs.Numbers.{number_of}
use Rattle.std.proofs.lemmas.Str.Parse.{numerals_by_value, tells_all_ascii_digits, parse_gives, digits_value_short}

all_ascii_digits-list_all : (ds : List ℕ) → all_ascii_digits ds ≡ list_all is_ascii_digit ds
all_ascii_digits-list_all [] = refl
all_ascii_digits-list_all (c ∷ cs) = ap (λ b. is_ascii_digit c && b) (all_ascii_digits-list_all cs)

pub parse-digits : {E : Type 0} (ds : List ℕ) (r : Result ℕ E) → 1 ≤ length ds → length ds ≤ 18
    → list_all is_ascii_digit ds ≡ true → ParsesUnsigned 64 10 ds r → r ≡ Ok (digits_value 10 ds)
parse-digits ds r some few all parsed =
    let digits : all_ascii_digits ds ≡ true = all_ascii_digits-list_all ds ∙ all in
    let small : digits_value 10 ds < 10 ^ 18 =
    digits_value_short (numerals_by_value _ tells_all_ascii_digits) ds 18 digits few in
    parse_gives (numerals_by_value _ tells_all_ascii_digits) 64 ds r parsed digits some
    (omega (arith, small))

pub number_of-digits : {E : Type 0} (ds : List ℕ) (r : Result ℕ E) → 1 ≤ length ds
    → length ds ≤ 18 → list_all is_ascii_digit ds ≡ true → ParsesUnsigned 64 10 ds r
    → result_ok r ≡ number_of ds
number_of-digits ds r some few all parsed =
    ap result_ok (parse-digits ds r some few all parsed)
    ∙ sym (ap (λ b. cond b (Some (digits_value 10 ds)) None)
    (and_from _ _ (and_from _ _ (le-leb 1 (length ds) some) (le-leb (length ds) 18 few)) all))
