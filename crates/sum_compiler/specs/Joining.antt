-- Products of powers by a table, one power after another.
--   Powering             a vector of polynomials to the power of one, at a generator j of the plan
--   power_of t Q g       the powers Q with the vector in place of z and the exponent in place of t
--   times t xs ys        the product by the table
--   joined t Q w gs      w, then the product with each power
--   power_calls, times_calls, next_calls, joined_calls    the calls that make these, for a step and
--                        its j; next_calls those of one more power
-- t table · Q its powers · g power · gs powers · w xs ys vectors of polynomials · step j of a place
use Rattle.std.specs.Prelude.{ℕ, List, [], ◌∷◌, ◌++◌}
use Rattle.binom_poly.specs.declared.term.Term.{Term}
use Rattle.hall_table.specs.Tabled.{Tabled}
use Rattle.sum_compiler.specs.declared.sum_step.SumStep.{SumStep}
use Rattle.sum_compiler.specs.Calls.{Call}
use Rattle.sum_compiler.specs.Putting.{into, to_power, put_in, calls_in}

pub record Powering : Type 0 where
  pub j : ℕ
  pub vector : List (List Term)
  pub exponent : List Term

abbrev pub power_of : Tabled → List (List Term) → Powering → List (List Term)
power_of t Q g = put_in (to_power t.level g.vector g.exponent) Q

abbrev pub times : Tabled → List (List Term) → List (List Term) → List (List Term)
times t xs ys = put_in (into t.level xs ys) t.polys

unfoldable pub joined : Tabled → List (List Term) → List (List Term) → List Powering
    → List (List Term)
joined t Q w [] = w
joined t Q w (g ∷ gs) = joined t Q (times t w (power_of t Q g)) gs

abbrev pub power_calls : SumStep → Tabled → List (List Term) → Powering → List Call
power_calls step t Q g = calls_in step g.j t.level (to_power t.level g.vector g.exponent) Q

abbrev pub times_calls : SumStep → ℕ → Tabled → List (List Term) → List (List Term) → List Call
times_calls step j t xs ys = calls_in step j t.level (into t.level xs ys) t.polys

-- the whole power first, and then the whole product
abbrev pub next_calls : SumStep → Tabled → List (List Term) → List (List Term) → Powering → List Call
next_calls step t Q w g = power_calls step t Q g ++ times_calls step g.j t w (power_of t Q g)

unfoldable pub joined_calls : SumStep → Tabled → List (List Term) → List (List Term) → List Powering
    → List Call
joined_calls step t Q w [] = []
joined_calls step t Q w (g ∷ gs) =
    next_calls step t Q w g ++ joined_calls step t Q (times t w (power_of t Q g)) gs
