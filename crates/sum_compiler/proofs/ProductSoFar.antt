-- What the loop keeps that multiplies one power of an image after another.
--   made images of all generators · t table · i level below it · j k generators
--   bs the lists that were made · base that of a generator
--   Q powers of the table · w the first power, z a later one · product all of it
use Rattle.std.proofs.Common.{◌≡◌, ℕ, suc, ◌+◌, ◌-◌, ◌<◌, ◌≤◌, List, ◌++◌, length, map, take, get_or, set, ap, ◌∙◌, subst, arith}
use Rattle.std.specs.Prelude.{All}
use Rattle.std.proofs.lemmas.List.{get_or-map, length-map, take_all, set-get_or}
use Rattle.nil_word.specs.Exponents.{numbers}
use Rattle.binom_poly.specs.declared.term.Term.{Term}
use Rattle.poly_subst.specs.declared.assign.Assign.{Assign}
use Rattle.hall_table.specs.Tabled.{Tabled}
use Rattle.hall_table.specs.Order.{generators}
use Rattle.sum_compiler.specs.declared.sum_step.SumStep.TheVariants as step
use Rattle.sum_compiler.specs.declared.sum_place.SumPlace.{SumPlace}
use Rattle.sum_compiler.specs.Calls.{Call, IsFirstAt, IsMade}
use Rattle.sum_compiler.specs.Putting.{put_in, calls_in}
use Rattle.sum_compiler.specs.Joining.{power_of, power_calls, joined, joined_calls}
use Rattle.sum_compiler.specs.Powers.{powers}
use Rattle.sum_compiler.specs.Products.{product_power, base_of, later_powers, product, all_at_y_calls, product_plan}
use Rattle.sum_compiler.proofs.Numbers.{length-numbers, get-numbers}
use Rattle.sum_compiler.proofs.Walking.{first_sooner, first_later, made_both}
use Rattle.sum_compiler.proofs.BasesSoFar.{base_at}

-- a list that is kept at its place
pub unchanged : (bs : List (List Assign)) (k : ℕ) (old new : List Assign) → old ≡ get_or bs k old
    → new ≡ old → set bs k new ≡ bs
unchanged bs k old new e f = ap (set bs k) (f ∙ e) ∙ set-get_or bs k old

module _ (made : List (List (List Term))) (t : Tabled) (i : ℕ) where
  pub base_is : (bs : List (List Assign)) (base : List Assign) (level j : ℕ)
      → bs ≡ map (base_of made t i) (numbers t.level (generators t)) → level ≡ t.level
      → t.level ≤ j → j < t.level + generators t → base ≡ get_or bs (j - level) base
      → base ≡ base_of made t i j
  base_is bs base level j h e l m f =
      f ∙ ap (λ (d : ℕ). get_or bs (j - d) base) e
      ∙ base_at made t i (generators t) (j - t.level) bs base h (omega arith)
      ∙ ap (base_of made t i) (let same : t.level + (j - t.level) ≡ j = omega arith in same)

  -- ---- a power
  pub power_is : (j : ℕ) (base : List Assign) (Q z : List (List Term)) → base ≡ base_of made t i j
      → Q ≡ powers t → z ≡ put_in base Q
      → z ≡ power_of t (powers t) (product_power made t i j)
  power_is j base Q z e f g =
      g ∙ ap (λ (ss : List Assign). put_in ss Q) e ∙ ap (put_in (base_of made t i j)) f

  pub power-calls : (level j : ℕ) (base : List Assign) (Q : List (List Term)) → level ≡ t.level
      → base ≡ base_of made t i j → Q ≡ powers t
      → calls_in step.Product j level base Q
      ≡ power_calls step.Product t (powers t) (product_power made t i j)
  power-calls level j base Q e f g =
      ap (λ (l : ℕ). calls_in step.Product j l base Q) e
      ∙ ap (λ (ss : List Assign). calls_in step.Product j t.level ss Q) f
      ∙ ap (calls_in step.Product j t.level (base_of made t i j)) g

  -- ---- the later powers
  pub length-later : length (later_powers made t i) ≡ generators t - 1
  length-later =
      length-map (numbers (suc t.level) (generators t - 1)) (product_power made t i)
      ∙ length-numbers (suc t.level) (generators t - 1)

  pub later_at : (j : ℕ) → t.level < j → j < t.level + generators t
      → get_or (later_powers made t i) (j - t.level - 1) (product_power made t i j)
      ≡ product_power made t i j
  later_at j l m =
      let ks = numbers (suc t.level) (generators t - 1) in
      let d = j - t.level - 1 in
      let n = length-numbers (suc t.level) (generators t - 1) in
      get_or-map (product_power made t i) ks d 0 (product_power made t i j) (omega arith)
      ∙ ap (product_power made t i)
      (get-numbers (suc t.level) (generators t - 1) d (omega arith)
      ∙ (let same : suc t.level + d ≡ j = omega arith in same))

  pub later_whole : (j : ℕ) → t.level + generators t ≤ j
      → take (j - t.level - 1) (later_powers made t i) ≡ later_powers made t i
  later_whole j l =
      let n = length-later in take_all (j - t.level - 1) (later_powers made t i) (omega arith)

  -- ---- the plan
  abbrev before : List Call
  before = all_at_y_calls made t i (numbers t.level (generators t))

  abbrev first : List (List Term)
  first = power_of t (powers t) (product_power made t i t.level)

  abbrev start : List Call
  start = power_calls step.Product t (powers t) (product_power made t i t.level)

  abbrev later : List (List Term) → List Call
  later w = joined_calls step.Product t (powers t) w (later_powers made t i)

  pub stops_bases : (place : SumPlace) → IsFirstAt before place
      → IsFirstAt (product_plan made t i) place
  stops_bases place f = first_sooner before (start ++ later first) place f

  pub stops_first : (place : SumPlace) → All IsMade before → IsFirstAt start place
      → IsFirstAt (product_plan made t i) place
  stops_first place m f =
      first_later before (start ++ later first) place m (first_sooner start (later first) place f)

  pub stops_later : (place : SumPlace) (w : List (List Term)) → w ≡ first → All IsMade before
      → All IsMade start → IsFirstAt (later w) place → IsFirstAt (product_plan made t i) place
  stops_later place w e m n f =
      first_later before (start ++ later first) place m
      (first_later start (later first) place n
      (subst (λ (u : List (List Term)). IsFirstAt (later u) place) e f))

  pub plan_made : (w : List (List Term)) → w ≡ first → All IsMade before → All IsMade start
      → All IsMade (later w) → All IsMade (product_plan made t i)
  plan_made w e m n k =
      made_both before (start ++ later first) m
      (made_both start (later first) n
      (subst (λ (u : List (List Term)). All IsMade (later u)) e k))

  pub product_is : (w whole : List (List Term)) → w ≡ first
      → whole ≡ joined t (powers t) w (later_powers made t i) → whole ≡ product made t i
  product_is w whole e f =
      f ∙ ap (λ (u : List (List Term)). joined t (powers t) u (later_powers made t i)) e
