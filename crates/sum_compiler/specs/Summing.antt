-- Sums of steps over t. Where xs are the first entries of a vector that moves with t, and each step
-- multiplies it by ys, the next entry is the sum of what a step adds to it.
--   next t xs              the generator of the next entry
--   next_list t ys xs      puts xs in place of the x below it, 0 in place of its x, and ys in place
--                          of the y
--   next_step t ys xs      what a step adds to it
--   with_sums t ys xs d    xs and the next d entries
--   next_calls step j t ys xs    the calls that make the next entry
--   sum_calls step j t ys xs d   the calls that make these
-- t table · xs ys polynomials, for the generators from the level of the table on · d number of
-- entries · step j of a place
use Rattle.std.specs.Prelude.{ℕ, zero, suc, ◌+◌, List, [], ◌∷◌, ◌++◌, length}
use Rattle.binom_poly.specs.declared.term.Term.{Term}
use Rattle.binom_poly.specs.Variable.{step_variable}
use Rattle.poly_subst.specs.declared.assign.Assign.{Assign}
use Rattle.poly_subst.specs.Substitute.{substituted}
use Rattle.poly_subst.specs.Steps.{summed}
use Rattle.hall_table.specs.Tabled.{Tabled, poly_at}
use Rattle.sum_compiler.specs.declared.sum_step.SumStep.{SumStep}
use Rattle.sum_compiler.specs.declared.sum_place.SumPlace.{SumPlace}
use Rattle.sum_compiler.specs.Calls.{Call}
use Rattle.sum_compiler.specs.Calls.Call.{puts_in, sums}
use Rattle.sum_compiler.specs.Putting.{into}

abbrev pub next : Tabled → List (List Term) → ℕ
next t xs = t.level + length xs

abbrev pub next_list : Tabled → List (List Term) → List (List Term) → List Assign
next_list t ys xs = into t.level (xs ++ [] ∷ []) ys

abbrev pub next_step : Tabled → List (List Term) → List (List Term) → List Term
next_step t ys xs = substituted (poly_at t (next t xs)) (next_list t ys xs)

unfoldable pub with_sums : Tabled → List (List Term) → List (List Term) → ℕ → List (List Term)
with_sums t ys xs zero = xs
with_sums t ys xs (suc d) =
    with_sums t ys xs d ++ summed step_variable (next_step t ys (with_sums t ys xs d)) ∷ []

abbrev pub next_calls : SumStep → ℕ → Tabled → List (List Term) → List (List Term) → List Call
next_calls step j t ys xs =
    let at : SumPlace = record { step = step; j = j; k = next t xs } in
    puts_in at (poly_at t (next t xs)) (next_list t ys xs) ∷ sums at (next_step t ys xs) ∷ []

unfoldable pub sum_calls : SumStep → ℕ → Tabled → List (List Term) → List (List Term) → ℕ → List Call
sum_calls step j t ys xs zero = []
sum_calls step j t ys xs (suc d) =
    sum_calls step j t ys xs d ++ next_calls step j t ys (with_sums t ys xs d)
