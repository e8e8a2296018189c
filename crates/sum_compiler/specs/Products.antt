-- The product of the images to the powers x, with y in place of t.
--   at_y t i                 puts y_i in place of t
--   product_power made t i j     A_j there, to the power x_j
--   base_of made t i j       puts A_j there in place of z, and x_j in place of t
--   later_powers made t i    the powers of the generators after the first
--   product made t i         P, the product of these, j ascending
--   at_y_calls, all_at_y_calls, product_plan    the calls that make these
-- t table · i level below it · j generator, js generators · made the images of all generators
use Rattle.std.specs.Prelude.{ℕ, suc, ◌-◌, List, [], ◌∷◌, ◌++◌, map}
use Rattle.nil_word.specs.Exponents.{numbers}
use Rattle.binom_poly.specs.declared.term.Term.{Term}
use Rattle.binom_poly.specs.Variable.{x_of, y_of}
use Rattle.binom_poly.specs.Collected.{var_terms}
use Rattle.poly_subst.specs.declared.assign.Assign.{Assign}
use Rattle.hall_table.specs.Tabled.{Tabled}
use Rattle.hall_table.specs.Order.{generators}
use Rattle.sum_compiler.specs.declared.sum_step.SumStep.TheVariants as step
use Rattle.sum_compiler.specs.Calls.{Call}
use Rattle.sum_compiler.specs.Putting.{to_power, put_in, calls_in}
use Rattle.sum_compiler.specs.Joining.{Powering, power_of, joined, power_calls, joined_calls}
use Rattle.sum_compiler.specs.Powers.{powers}
use Rattle.sum_compiler.specs.Images.{image_at}

abbrev pub at_y : Tabled → ℕ → List Assign
at_y t i = to_power t.level [] (var_terms (y_of i))

abbrev pub product_power : List (List (List Term)) → Tabled → ℕ → ℕ → Powering
product_power made t i j = record {
  j = j;
  vector = put_in (at_y t i) (image_at made t j);
  exponent = var_terms (x_of j);
}

abbrev pub base_of : List (List (List Term)) → Tabled → ℕ → ℕ → List Assign
base_of made t i j =
    to_power t.level (product_power made t i j).vector (product_power made t i j).exponent

abbrev pub later_powers : List (List (List Term)) → Tabled → ℕ → List Powering
later_powers made t i =
    map (product_power made t i) (numbers (suc t.level) (generators t - 1))

abbrev pub product : List (List (List Term)) → Tabled → ℕ → List (List Term)
product made t i =
    joined t (powers t) (power_of t (powers t) (product_power made t i t.level))
    (later_powers made t i)

abbrev pub at_y_calls : List (List (List Term)) → Tabled → ℕ → ℕ → List Call
at_y_calls made t i j = calls_in step.Product j t.level (at_y t i) (image_at made t j)

unfoldable pub all_at_y_calls : List (List (List Term)) → Tabled → ℕ → List ℕ → List Call
all_at_y_calls made t i [] = []
all_at_y_calls made t i (j ∷ js) = at_y_calls made t i j ++ all_at_y_calls made t i js

abbrev pub product_plan : List (List (List Term)) → Tabled → ℕ → List Call
product_plan made t i =
    all_at_y_calls made t i (numbers t.level (generators t))
    ++ (power_calls step.Product t (powers t) (product_power made t i t.level)
    ++ joined_calls step.Product t (powers t)
    (power_of t (powers t) (product_power made t i t.level)) (later_powers made t i))
