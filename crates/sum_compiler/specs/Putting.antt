-- Polynomials of the generators from a level on, put in place of variables.
--   in_place v ps           puts ps in place of the variables v, v + 1 and so on
--   into level xs ys        puts xs in place of the x, and ys in place of the y, from the level on
--   to_power level zs s     puts zs in place of the z from the level on, and s in place of t
--   put_in list ps          each of ps with the listed polynomials put in
--   calls_in step j k list ps    the calls that make these, the first of them for generator k
-- k generator · v variable · ps xs ys zs polynomials · s polynomial · step j of a place
use Rattle.std.specs.Prelude.{ℕ, suc, List, [], ◌∷◌, ◌++◌, map}
use Rattle.binom_poly.specs.declared.term.Term.{Term}
use Rattle.binom_poly.specs.Variable.{x_of, y_of, z_of, step_variable}
use Rattle.poly_subst.specs.declared.assign.Assign.{Assign}
use Rattle.poly_subst.specs.Substitute.{substituted}
use Rattle.sum_compiler.specs.declared.sum_step.SumStep.{SumStep}
use Rattle.sum_compiler.specs.Calls.{Call}
use Rattle.sum_compiler.specs.Calls.Call.{puts_in}

unfoldable pub in_place : ℕ → List (List Term) → List Assign
in_place v [] = []
in_place v (p ∷ ps) = record { var = v; to = p } ∷ in_place (suc v) ps

abbrev pub into : ℕ → List (List Term) → List (List Term) → List Assign
into level xs ys = in_place (y_of level) ys ++ in_place (x_of level) xs

abbrev pub to_power : ℕ → List (List Term) → List Term → List Assign
to_power level zs s = in_place (z_of level) zs ++ record { var = step_variable; to = s } ∷ []

abbrev pub put_in : List Assign → List (List Term) → List (List Term)
put_in list ps = map (λ p. substituted p list) ps

unfoldable pub calls_in : SumStep → ℕ → ℕ → List Assign → List (List Term) → List Call
calls_in step j k list [] = []
calls_in step j k list (p ∷ ps) =
    puts_in record { step = step; j = j; k = k } p list ∷ calls_in step j (suc k) list ps
