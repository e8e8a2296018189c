-- The first of results that isn't Agree.
--   t what each overlap says · xs ys before after overlaps · o x overlap · r s results
--   n generators · j generator · low high numbers
use Rattle.std.proofs.Common.{◌≡◌, ◌≢◌, ℕ, ◌+◌, ◌-◌, ◌<◌, List, [], ◌∷◌, ◌++◌, ◌⊎◌, length, map, flat_map, All, refl, sym, ◌∙◌, ap, inl, inr}
use Rattle.std.proofs.lemmas.List.Elements.{All-nil, All-cons, All-head, All-tail}
use Rattle.nil_word.specs.Exponents.{numbers}
use Rattle.hall_table.specs.Multiplies.{Paired}
use Rattle.overlap_test.specs.declared.overlap.Overlap.{Overlap}
use Rattle.overlap_test.specs.declared.level_result.LevelResult.{LevelResult}
use Rattle.overlap_test.specs.declared.level_result.LevelResult.TheVariants.{Agree, Differ, Wide}
use Rattle.overlap_test.specs.Verdict.{row, overlaps, tried, or_later, first_event, verdict, IsFirst, IsVerdict}
use Rattle.overlap_test.proofs.Numbers.{numbers_next}

or_later-assoc : (q r s : LevelResult) → or_later q (or_later r s) ≡ or_later (or_later q r) s
or_later-assoc Agree r s = refl
or_later-assoc (Differ o) r s = refl
or_later-assoc (Wide j k) r s = refl

first_event-append : (t : ℕ × ℕ → LevelResult) (xs ys : List (ℕ × ℕ))
    → first_event (map t (xs ++ ys))
    ≡ or_later (first_event (map t xs)) (first_event (map t ys))
first_event-append t [] ys = refl
first_event-append t (x ∷ xs) ys =
    ap (or_later (t x)) (first_event-append t xs ys)
    ∙ or_later-assoc (t x) (first_event (map t xs)) (first_event (map t ys))

-- what later overlaps say doesn't count
abbrev pub IsEvent : LevelResult → Type 0
IsEvent r = (s : LevelResult) → or_later r s ≡ r

agrees_or_not : (r : LevelResult) → (r ≡ Agree) ⊎ IsEvent r
agrees_or_not Agree = inl refl
agrees_or_not (Differ o) = inr (λ s. refl)
agrees_or_not (Wide j k) = inr (λ s. refl)

is_event : (r : LevelResult) → r ≢ Agree → IsEvent r
is_event r h = elim (agrees_or_not r) [ inl e ↦ absurd (h e) | inr e ↦ e ]

-- ---- the overlaps of a row from low on
abbrev left_in_row : (ℕ × ℕ → LevelResult) → ℕ → ℕ → ℕ → LevelResult
left_in_row t j low high = first_event (map t (map (λ k. (j, k)) (numbers low (high - low))))

row_next : (t : ℕ × ℕ → LevelResult) (j low high : ℕ) (r : LevelResult) → low < high
    → r ≡ t (j, low) → left_in_row t j low high ≡ or_later r (left_in_row t j (low + 1) high)
row_next t j low high r h is =
    ap (λ (ks : List ℕ). first_event (map t (map (λ k. (j, k)) ks))) (numbers_next low high h)
    ∙ ap (λ (s : LevelResult). or_later s (left_in_row t j (low + 1) high)) (sym is)

pub row_event : (t : ℕ × ℕ → LevelResult) (j low high : ℕ) (r : LevelResult) → low < high
    → r ≡ t (j, low) → r ≢ Agree → left_in_row t j low high ≡ r
row_event t j low high r h is event =
    row_next t j low high r h is ∙ is_event r event (left_in_row t j (low + 1) high)

pub row_skipped : (t : ℕ × ℕ → LevelResult) (j low high : ℕ) (r : LevelResult) → low < high
    → r ≡ t (j, low) → r ≡ Agree → left_in_row t j low high ≡ left_in_row t j (low + 1) high
row_skipped t j low high r h is e =
    row_next t j low high r h is
    ∙ ap (λ (s : LevelResult). or_later s (left_in_row t j (low + 1) high)) e

-- ---- the rows from low on
abbrev left_in_rows : (ℕ × ℕ → LevelResult) → ℕ → ℕ → ℕ → LevelResult
left_in_rows t n low high = first_event (map t (flat_map (row n) (numbers low (high - low))))

rows_next : (t : ℕ × ℕ → LevelResult) (n low high : ℕ) (r : LevelResult) → low < high
    → r ≡ first_event (map t (row n low))
    → left_in_rows t n low high ≡ or_later r (left_in_rows t n (low + 1) high)
rows_next t n low high r h is =
    ap (λ (js : List ℕ). first_event (map t (flat_map (row n) js))) (numbers_next low high h)
    ∙ first_event-append t (row n low) (flat_map (row n) (numbers (low + 1) (high - (low + 1))))
    ∙ ap (λ (s : LevelResult). or_later s (left_in_rows t n (low + 1) high)) (sym is)

pub rows_event : (t : ℕ × ℕ → LevelResult) (n low high : ℕ) (r : LevelResult) → low < high
    → r ≡ first_event (map t (row n low)) → r ≢ Agree → left_in_rows t n low high ≡ r
rows_event t n low high r h is event =
    rows_next t n low high r h is ∙ is_event r event (left_in_rows t n (low + 1) high)

pub rows_skipped : (t : ℕ × ℕ → LevelResult) (n low high : ℕ) (r : LevelResult) → low < high
    → r ≡ first_event (map t (row n low)) → r ≡ Agree
    → left_in_rows t n low high ≡ left_in_rows t n (low + 1) high
rows_skipped t n low high r h is e =
    rows_next t n low high r h is
    ∙ ap (λ (s : LevelResult). or_later s (left_in_rows t n (low + 1) high)) e

-- ---- where it stands
record IsFirstIn (t : ℕ × ℕ → LevelResult) (xs : List (ℕ × ℕ)) (r : LevelResult) : Type 0 where
  before : List (ℕ × ℕ)
  overlap : ℕ × ℕ
  after : List (ℕ × ℕ)
  listed : xs ≡ before ++ overlap ∷ after
  agree : All (λ o. t o ≡ Agree) before
  says : t overlap ≡ r

skipped : (t : ℕ × ℕ → LevelResult) (x : ℕ × ℕ) (xs : List (ℕ × ℕ)) (r : LevelResult) → t x ≡ Agree
    → first_event (map t (x ∷ xs)) ≡ r → first_event (map t xs) ≡ r
skipped t x xs r e h = sym (ap (λ (v : LevelResult). or_later v (first_event (map t xs))) e) ∙ h

first_in : (t : ℕ × ℕ → LevelResult) (xs : List (ℕ × ℕ)) (r : LevelResult) → r ≢ Agree
    → first_event (map t xs) ≡ r → IsFirstIn t xs r
first_in t [] r event h = absurd (event (sym h))
first_in t (x ∷ xs) r event h =
    elim (agrees_or_not (t x)) [
      | inl e ↦
          let later = first_in t xs r event (skipped t x xs r e h) in
          record {
            before = x ∷ later.before;
            overlap = later.overlap;
            after = later.after;
            listed = ap (λ (ys : List (ℕ × ℕ)). x ∷ ys) later.listed;
            agree = All-cons (λ o. t o ≡ Agree) x later.before e later.agree;
            says = later.says;
          }
      | inr e ↦
          record {
            before = [];
            overlap = x;
            after = xs;
            listed = refl;
            agree = All-nil (λ o. t o ≡ Agree);
            says = sym (e (first_event (map t xs))) ∙ h;
          }
    ]

first_says : (t : ℕ × ℕ → LevelResult) (before : List (ℕ × ℕ)) (o : ℕ × ℕ) (after : List (ℕ × ℕ))
    (r : LevelResult) → IsEvent r → All (λ x. t x ≡ Agree) before → t o ≡ r
    → first_event (map t (before ++ o ∷ after)) ≡ r
first_says t [] o after r event h e =
    ap (λ (v : LevelResult). or_later v (first_event (map t after))) e
    ∙ event (first_event (map t after))
first_says t (x ∷ xs) o after r event h e =
    ap (λ (v : LevelResult). or_later v (first_event (map t (xs ++ o ∷ after))))
    (All-head (λ y. t y ≡ Agree) x xs h)
    ∙ first_says t xs o after r event (All-tail (λ y. t y ≡ Agree) x xs h) e

pub each_agrees : (t : ℕ × ℕ → LevelResult) (xs : List (ℕ × ℕ)) → first_event (map t xs) ≡ Agree
    → All (λ o. t o ≡ Agree) xs
each_agrees t [] h = All-nil (λ o. t o ≡ Agree)
each_agrees t (x ∷ xs) h =
    let here : t x ≡ Agree =
    elim (agrees_or_not (t x)) [ inl e ↦ e | inr e ↦ sym (e (first_event (map t xs))) ∙ h ] in
    All-cons (λ o. t o ≡ Agree) x xs here (each_agrees t xs (skipped t x xs Agree here h))

all_agree : (t : ℕ × ℕ → LevelResult) (xs : List (ℕ × ℕ)) → All (λ o. t o ≡ Agree) xs
    → first_event (map t xs) ≡ Agree
all_agree t [] h = refl
all_agree t (x ∷ xs) h =
    ap (λ (v : LevelResult). or_later v (first_event (map t xs)))
    (All-head (λ o. t o ≡ Agree) x xs h)
    ∙ all_agree t xs (All-tail (λ o. t o ≡ Agree) x xs h)

module _ (c : Paired) (i : ℕ) where
  abbrev here : List (ℕ × ℕ)
  here = overlaps (length c.pres.names) i

  pub first_of_verdict : (r : LevelResult) → r ≢ Agree → verdict c i ≡ r → IsFirst c i r
  first_of_verdict r event h =
      let f = first_in (tried c i) here r event h in
      record {
        before = f.before;
        overlap = f.overlap;
        after = f.after;
        listed = f.listed;
        agree = f.agree;
        says = f.says;
      }

  verdict_of_first : (r : LevelResult) → IsEvent r → IsFirst c i r → verdict c i ≡ r
  verdict_of_first r event f =
      ap (λ (xs : List (ℕ × ℕ)). first_event (map (tried c i) xs)) f.listed
      ∙ first_says (tried c i) f.before f.overlap f.after r event f.agree f.says

  pub differs_not : (o : Overlap) → Differ o ≢ Agree
  differs_not o h = cc

  wide_not : (j k : ℕ) → Wide j k ≢ Agree
  wide_not j k h = cc

  pub is_verdict : IsVerdict c i (verdict c i)
  is_verdict = record {
    agree = (each_agrees (tried c i) here, all_agree (tried c i) here);
    differ = λ o. (
      first_of_verdict (Differ o) (differs_not o),
      verdict_of_first (Differ o) (λ s. refl),
    );
    wide = λ j k. (
      first_of_verdict (Wide j k) (wide_not j k),
      verdict_of_first (Wide j k) (λ s. refl),
    );
  }
