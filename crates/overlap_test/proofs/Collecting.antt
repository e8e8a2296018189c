-- The first way, syllable by syllable.
--   c presentation with a table above level i · j < k generators above it · ss right syllables
--   m place · none a syllable · v w vectors · at place that overflows
use Rattle.std.proofs.Common.{◌≡◌, ℕ, suc, ◌+◌, ◌<◌, ◌≤◌, ℤ, List, length, drop, get_or, add-one, drop-cons, sym, ◌∙◌, ap}
use Rattle.std.specs.Prelude.{Ok, Err}
use Rattle.std.proofs.lemmas.List.{drop_all}
use Rattle.nil_word.specs.Factors.{Factor}
use Rattle.nil_pres.specs.declared.syllable.Syllable.{Syllable}
use Rattle.nil_pres.specs.Presented.{right_of}
use Rattle.nil_pres.specs.Relations.{factors_of, between}
use Rattle.hall_table.specs.declared.wide_at.WideAt.{WideAt}
use Rattle.hall_table.specs.Multiplies.{Paired}
use Rattle.hall_table.specs.Order.{multiplied}
use Rattle.group_eval.specs.Order.{Outcome, and_then}
use Rattle.overlap_test.specs.Ways.{image, collected_written, power_joined, first_written}
use Rattle.overlap_test.proofs.Imaging.{between-pair}

module _ (c : Paired) (i : ℕ) where
  -- what the syllables make of a vector
  abbrev pub collected : List Syllable → List ℤ → Outcome
  collected ss v = collected_written c.table (image c.pres i) (factors_of ss) v

  abbrev after : List Syllable → Outcome → Outcome
  after ss r = and_then r (λ v. collected ss v)

  pub first_begins : (j k : ℕ) (right : List Syllable) (v : List ℤ) → 1 ≤ j → j < k
      → k ≤ length c.pres.names → right ≡ right_of c.pres j k
      → multiplied c.table (image c.pres i j) (image c.pres i k) ≡ Ok v
      → collected right v ≡ first_written c i j k
  first_begins j k right v low mid high is h =
      let factors : factors_of right ≡ between c.pres j k =
      ap factors_of is ∙ sym (between-pair c.pres j k low mid high) in
      ap (λ (ss : List Factor). collected_written c.table (image c.pres i) ss v) factors
      ∙ sym (ap (λ (r : Outcome).
      and_then r (λ w. collected_written c.table (image c.pres i) (between c.pres j k) w)) h)

  pub first_err : (j k : ℕ) (at : WideAt)
      → multiplied c.table (image c.pres i j) (image c.pres i k) ≡ Err at
      → first_written c i j k ≡ Err at
  first_err j k at h =
      ap (λ (r : Outcome).
      and_then r (λ w. collected_written c.table (image c.pres i) (between c.pres j k) w)) h

  -- the syllable at a place, and those behind it
  collected-drop : (ss : List Syllable) (m : ℕ) (none : Syllable) (v : List ℤ) → m < length ss
      → collected (drop m ss) v
      ≡ after (drop (suc m) ss) (power_joined c i v (get_or ss m none))
  collected-drop ss m none v h =
      ap (λ (rs : List Syllable). collected rs v) (drop-cons ss m none h)

  pub collected_next : (ss : List Syllable) (m : ℕ) (none : Syllable) (v w : List ℤ) → m < length ss
      → power_joined c i v (get_or ss m none) ≡ Ok w
      → collected (drop (m + 1) ss) w ≡ collected (drop m ss) v
  collected_next ss m none v w h is =
      ap (λ (k : ℕ). collected (drop k ss) w) (add-one m)
      ∙ sym (collected-drop ss m none v h ∙ ap (after (drop (suc m) ss)) is)

  pub collected_err : (ss : List Syllable) (m : ℕ) (none : Syllable) (v : List ℤ) (at : WideAt)
      → m < length ss → power_joined c i v (get_or ss m none) ≡ Err at
      → collected (drop m ss) v ≡ Err at
  collected_err ss m none v at h is =
      collected-drop ss m none v h ∙ ap (after (drop (suc m) ss)) is

  pub collected_done : (ss : List Syllable) (m : ℕ) (v : List ℤ) → length ss ≤ m
      → collected (drop m ss) v ≡ Ok v
  collected_done ss m v h = ap (λ (rs : List Syllable). collected rs v) (drop_all m ss h)
