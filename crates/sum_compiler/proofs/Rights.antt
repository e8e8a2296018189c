-- The product for a right side: its first power, and the later ones.
--   p presentation · i < j generators · made the images · t table · s first factor, ss the later ones
--   all the factors · w the first power · product all of it
use Rattle.std.proofs.Common.{◌≡◌, ℕ, ◌<◌, ◌≤◌, List, [], ◌∷◌, length, map, sym, ap, ◌∙◌, subst}
use Rattle.std.specs.Prelude.{All}
use Rattle.std.proofs.lemmas.Bool.{le-leb, lt-ltb}
use Rattle.nil_word.specs.Factors.{Factor}
use Rattle.nil_pres.specs.declared.syllable.Syllable.{Syllable}
use Rattle.nil_pres.specs.Presented.{Presented}
use Rattle.nil_pres.specs.Presented as presented
use Rattle.nil_pres.specs.Relations.{between, factors_of}
use Rattle.binom_poly.specs.declared.term.Term.{Term}
use Rattle.hall_table.specs.Tabled.{Tabled}
use Rattle.hall_table.specs.Order.{generators}
use Rattle.std.proofs.lemmas.List.{length-replicate}
use Rattle.sum_compiler.proofs.JoinedSoFar.{length-power_of, length-joined}
use Rattle.sum_compiler.specs.declared.sum_step.SumStep.TheVariants as step
use Rattle.sum_compiler.specs.declared.sum_place.SumPlace.{SumPlace}
use Rattle.sum_compiler.specs.Calls.{IsFirstAt, IsMade}
use Rattle.sum_compiler.specs.Joining.{power_of, power_calls, joined, joined_calls}
use Rattle.sum_compiler.specs.Powers.{powers}
use Rattle.sum_compiler.specs.Images.{right_power, right_of, right_calls}
use Rattle.sum_compiler.proofs.Walking.{first_sooner, first_later, made_both}

abbrev pub factor_of : Syllable → Factor
factor_of s = record { number = s.number; exp = s.exp }

pub between_is : (p : Presented) (i j : ℕ) (right : List Syllable) → 1 ≤ i → i < j
    → j ≤ length p.names → right ≡ presented.right_of p i j → between p i j ≡ factors_of right
between_is p i j right a b d e =
    rw (le-leb 1 i a, lt-ltb i j b, le-leb j (length p.names) d) (ap factors_of (sym e))

pub length-right_of : (made : List (List (List Term))) (t : Tabled) (j : ℕ) (ss : List Factor)
    → length (right_of made t j ss) ≡ generators t
length-right_of made t j [] = length-replicate (generators t) []
length-right_of made t j (s ∷ ss) =
    length-joined t (powers t) (power_of t (powers t) (right_power made t j s))
    (map (right_power made t j) ss) (length-power_of t (right_power made t j s))

module _ (made : List (List (List Term))) (t : Tabled) (j : ℕ) (s : Factor) (ss all : List Factor)
    (w : List (List Term)) (all_is : all ≡ s ∷ ss)
    (w_is : w ≡ power_of t (powers t) (right_power made t j s)) where
  pub stops_first : (place : SumPlace)
      → IsFirstAt (power_calls step.Image t (powers t) (right_power made t j s)) place
      → IsFirstAt (right_calls made t j all) place
  stops_first place f =
      subst (λ (fs : List Factor). IsFirstAt (right_calls made t j fs) place) (sym all_is)
      (first_sooner (power_calls step.Image t (powers t) (right_power made t j s))
      (joined_calls step.Image t (powers t) (power_of t (powers t) (right_power made t j s))
      (map (right_power made t j) ss)) place f)

  pub stops_later : (place : SumPlace)
      → All IsMade (power_calls step.Image t (powers t) (right_power made t j s))
      → IsFirstAt (joined_calls step.Image t (powers t) w (map (right_power made t j) ss)) place
      → IsFirstAt (right_calls made t j all) place
  stops_later place m f =
      subst (λ (fs : List Factor). IsFirstAt (right_calls made t j fs) place) (sym all_is)
      (first_later (power_calls step.Image t (powers t) (right_power made t j s))
      (joined_calls step.Image t (powers t) (power_of t (powers t) (right_power made t j s))
      (map (right_power made t j) ss)) place m
      (subst (λ (u : List (List Term)).
      IsFirstAt (joined_calls step.Image t (powers t) u (map (right_power made t j) ss)) place) w_is f))

  pub right_is : (product : List (List Term))
      → product ≡ joined t (powers t) w (map (right_power made t j) ss)
      → product ≡ right_of made t j all
  right_is product e =
      e ∙ ap (λ (u : List (List Term)). joined t (powers t) u (map (right_power made t j) ss)) w_is
      ∙ sym (ap (right_of made t j) all_is)

  pub right_made : All IsMade (power_calls step.Image t (powers t) (right_power made t j s))
      → All IsMade (joined_calls step.Image t (powers t) w (map (right_power made t j) ss))
      → All IsMade (right_calls made t j all)
  right_made m n =
      subst (λ (fs : List Factor). All IsMade (right_calls made t j fs)) (sym all_is)
      (made_both (power_calls step.Image t (powers t) (right_power made t j s))
      (joined_calls step.Image t (powers t) (power_of t (powers t) (right_power made t j s))
      (map (right_power made t j) ss)) m
      (subst (λ (u : List (List Term)).
      All IsMade (joined_calls step.Image t (powers t) u (map (right_power made t j) ss))) w_is n))
