-- The pairs of a line among others.
use Rattle.std.proofs.Common.{◌≡◌, ℕ, zero, suc, Bool, true, false, cond, not, List, [], ◌∷◌, ◌++◌, take, filter, bytes_eq, is_some, refl, sym, ap, subst, ◌∙◌}
use Rattle.std.specs.List.{IsDistinct, AllByRecursion}
use Rattle.std.proofs.lemmas.Slice.Eq.{bytes_eq-Decides}
use Rattle.reply_memo.specs.Kept.{Kept, lines_of, is_of, kept_for, of_line, without, in_front, AreApart}

module _ (P : List ℕ → Type 0) where
  -- each line of the pairs meets P
  abbrev pub AllLines : List Kept → Type 0
  AllLines pairs = AllByRecursion P (lines_of pairs)

  AllLines-filter : (p : Kept → Bool) (pairs : List Kept) → AllLines pairs
      → AllLines (filter p pairs)
  AllLines-filter p [] all = tt
  AllLines-filter p (k ∷ pairs) all =
      elim (p k) as (λ b. AllLines (cond b (k ∷ filter p pairs) (filter p pairs))) [
        | true ↦ (all.0, AllLines-filter p pairs all.1)
        | false ↦ AllLines-filter p pairs all.1
      ]

  AllLines-take : (n : ℕ) (pairs : List Kept) → AllLines pairs → AllLines (take n pairs)
  AllLines-take zero pairs all = tt
  AllLines-take (suc n) [] all = tt
  AllLines-take (suc n) (k ∷ pairs) all = (all.0, AllLines-take n pairs all.1)

  AllLines-append : (front rest : List Kept) → AllLines front → AllLines rest
      → AllLines (front ++ rest)
  AllLines-append [] rest all more = more
  AllLines-append (k ∷ front) rest all more = (all.0, AllLines-append front rest all.1 more)

module _ (line : List ℕ) where
  -- no pair has the line
  abbrev pub NoneOf : List Kept → Type 0
  NoneOf = AllLines (λ l. bytes_eq line l ≡ false)

  -- each pair has it
  abbrev pub AllOf : List Kept → Type 0
  AllOf = AllLines (λ l. bytes_eq line l ≡ true)

  pub of_line-none : (pairs : List Kept) → NoneOf pairs → of_line line pairs ≡ []
  of_line-none [] none = refl
  of_line-none (k ∷ pairs) none = rw none.0 (of_line-none pairs none.1)

  pub without-none : (pairs : List Kept) → NoneOf pairs → without line pairs ≡ pairs
  without-none [] none = refl
  without-none (k ∷ pairs) none = rw none.0 (ap (λ l. k ∷ l) (without-none pairs none.1))

  pub NoneOf-without : (pairs : List Kept) → NoneOf (without line pairs)
  NoneOf-without [] = tt
  NoneOf-without (k ∷ pairs) =
      let others = without line pairs in
      (elim (is_of line k) as (λ b. is_of line k ≡ b → NoneOf (cond (not b) (k ∷ others) others)) [
        | true ↦ λ same. NoneOf-without pairs
        | false ↦ λ other. (other, NoneOf-without pairs)
      ]) refl

  AllOf-of_line : (pairs : List Kept) → AllOf (of_line line pairs)
  AllOf-of_line [] = tt
  AllOf-of_line (k ∷ pairs) =
      let front = of_line line pairs in
      (elim (is_of line k) as (λ b. is_of line k ≡ b → AllOf (cond b (k ∷ front) front)) [
        | true ↦ λ same. (same, AllOf-of_line pairs)
        | false ↦ λ other. AllOf-of_line pairs
      ]) refl

  -- no pair has the line that is asked for where no reply is found
  NoneOf-kept_for : (pairs : List Kept) → is_some (kept_for line pairs) ≡ false → NoneOf pairs
  NoneOf-kept_for [] none = tt
  NoneOf-kept_for (k ∷ pairs) none =
      (elim (is_of line k) as (λ b. is_of line k ≡ b → NoneOf (k ∷ pairs)) [
        | true ↦ λ same. let found = rw same at none in cc
        | false ↦ λ other. (other, NoneOf-kept_for pairs (rw other at none))
      ]) refl

  pub in_front-none : (pairs : List Kept) → is_some (kept_for line pairs) ≡ false
      → in_front line pairs ≡ pairs
  in_front-none pairs none =
      let off = NoneOf-kept_for pairs none in
      ap (λ l. l ++ without line pairs) (of_line-none pairs off) ∙ without-none pairs off

-- the same of a line and of one that is equal to it
NoneOf-same : (l m : List ℕ) (pairs : List Kept) → bytes_eq l m ≡ true → NoneOf l pairs
    → NoneOf m pairs
NoneOf-same l m pairs same none =
    subst (λ n. NoneOf n pairs) ((bytes_eq-Decides l m).0 same) none

pub AreApart-tail : (k : Kept) (pairs : List Kept) → AreApart (k ∷ pairs) → AreApart pairs
unfolding IsDistinct
AreApart-tail k pairs apart = apart.1

-- after a pair of the line come no more of it
pub NoneOf-after : (line : List ℕ) (k : Kept) (pairs : List Kept) → is_of line k ≡ true
    → AreApart (k ∷ pairs) → NoneOf line pairs
unfolding IsDistinct
NoneOf-after line k pairs same apart =
    subst (λ l. NoneOf l pairs) (sym ((bytes_eq-Decides line k.line).0 same)) apart.0

pub AreApart-filter : (p : Kept → Bool) (pairs : List Kept) → AreApart pairs
    → AreApart (filter p pairs)
unfolding IsDistinct
AreApart-filter p [] apart = tt
AreApart-filter p (k ∷ pairs) apart =
    let rest = AreApart-filter p pairs apart.1 in
    elim (p k) as (λ b. AreApart (cond b (k ∷ filter p pairs) (filter p pairs))) [
      | true ↦ (AllLines-filter (λ l. bytes_eq k.line l ≡ false) p pairs apart.0, rest)
      | false ↦ rest
    ]

pub AreApart-take : (n : ℕ) (pairs : List Kept) → AreApart pairs → AreApart (take n pairs)
unfolding IsDistinct
AreApart-take zero pairs apart = tt
AreApart-take (suc n) [] apart = tt
AreApart-take (suc n) (k ∷ pairs) apart =
    (AllLines-take (λ l. bytes_eq k.line l ≡ false) n pairs apart.0, AreApart-take n pairs apart.1)

AreApart-append : (line : List ℕ) (front rest : List Kept) → AllOf line front → AreApart front
    → NoneOf line rest → AreApart rest → AreApart (front ++ rest)
unfolding IsDistinct
AreApart-append line [] rest all apart none others = others
AreApart-append line (k ∷ front) rest all apart none others =
    let none' = NoneOf-same line k.line rest all.0 none in (
      AllLines-append (λ l. bytes_eq k.line l ≡ false) front rest apart.0 none',
      AreApart-append line front rest all.1 apart.1 none others,
    )

pub AreApart-in_front : (line : List ℕ) (pairs : List Kept) → AreApart pairs
    → AreApart (in_front line pairs)
AreApart-in_front line pairs apart =
    AreApart-append line (of_line line pairs) (without line pairs) (AllOf-of_line line pairs)
    (AreApart-filter (is_of line) pairs apart) (NoneOf-without line pairs)
    (AreApart-filter (λ k. not (is_of line k)) pairs apart)
