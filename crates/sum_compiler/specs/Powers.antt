-- The powers of a table, as polynomials in z and t.
--   zs t                     the variables z_k
--   powers t                 the entries Q_k of the power t of z
--   power_plan t             the calls that make them
-- t table
use Rattle.std.specs.Prelude.{List, [], map}
use Rattle.nil_word.specs.Exponents.{numbers}
use Rattle.binom_poly.specs.declared.term.Term.{Term}
use Rattle.binom_poly.specs.Variable.{z_of}
use Rattle.binom_poly.specs.Collected.{var_terms}
use Rattle.hall_table.specs.Tabled.{Tabled}
use Rattle.hall_table.specs.Order.{generators}
use Rattle.sum_compiler.specs.declared.sum_step.SumStep.TheVariants as step
use Rattle.sum_compiler.specs.Calls.{Call}
use Rattle.sum_compiler.specs.Summing.{with_sums, sum_calls}

abbrev pub zs : Tabled → List (List Term)
zs t = map (λ k. var_terms (z_of k)) (numbers t.level (generators t))

abbrev pub powers : Tabled → List (List Term)
powers t = with_sums t (zs t) [] (generators t)

abbrev pub power_plan : Tabled → List Call
power_plan t = sum_calls step.Power 0 t (zs t) [] (generators t)
