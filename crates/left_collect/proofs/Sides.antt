-- A right side whose pieces spend the budget, as the clauses say it.
--   a letter · b budget · v vector · ss ts right sides · t whether it is taken forward
use Rattle.std.proofs.Common.{◌≡◌, ℕ, ℤ, Bool, true, false, List, None, sym, ◌∙◌, ap}
use Rattle.nil_word.specs.declared.letter.Letter.{Letter}
use Rattle.nil_word.specs.Words.{inverse}
use Rattle.nil_word.specs.Congruence.{Relations}
use Rattle.nil_pres.specs.declared.syllable.Syllable.{Syllable}
use Rattle.left_collect.specs.Collected.{collected}
use Rattle.left_collect.specs.Pieces.{pieces, turned}

module _ (rels : Relations) (b : ℕ) (v : List ℤ) (a : Letter) (ss ts : List Syllable)
    (same : ss ≡ ts) where
  pub onward_stops : (t : Bool) → t ≡ true → collected rels b v (pieces rels a ss) ≡ None
      → collected rels b v (turned t (pieces rels a ts)) ≡ None
  onward_stops t e h =
      ap (λ (s : Bool). collected rels b v (turned s (pieces rels a ts))) e
      ∙ (ap (λ (u : List Syllable). collected rels b v (pieces rels a u)) (sym same) ∙ h)

  pub back_stops : (t : Bool) → t ≡ false → collected rels b v (inverse (pieces rels a ss)) ≡ None
      → collected rels b v (turned t (pieces rels a ts)) ≡ None
  back_stops t e h =
      ap (λ (s : Bool). collected rels b v (turned s (pieces rels a ts))) e
      ∙ (ap (λ (u : List Syllable). collected rels b v (inverse (pieces rels a u))) (sym same)
      ∙ h)
