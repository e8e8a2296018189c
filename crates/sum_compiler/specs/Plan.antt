-- The sum plan of a level: the calls that make the table of the level from that of the level above.
--   first_poly i             x_i + y_i
--   level_polys made t i     this, and then F_k: each f_k with the product in place of x
--   last_plan made t i       the calls that make the F_k
--   image_plan_from t right  the calls up to the images
--   plan t right i           all calls: the powers, the images, the product, and the table
-- t table of the level above · i level · right the factors of the right side of each generator
-- made the images of all generators
use Rattle.std.specs.Prelude.{ℕ, List, [], ◌∷◌, ◌++◌}
use Rattle.nil_word.specs.Factors.{Factor}
use Rattle.binom_poly.specs.declared.term.Term.{Term}
use Rattle.binom_poly.specs.Variable.{x_of, y_of}
use Rattle.binom_poly.specs.Collected.{var_terms, sum_of}
use Rattle.hall_table.specs.Tabled.{Tabled}
use Rattle.sum_compiler.specs.declared.sum_step.SumStep.TheVariants as step
use Rattle.sum_compiler.specs.Calls.{Call}
use Rattle.sum_compiler.specs.Putting.{into, put_in, calls_in}
use Rattle.sum_compiler.specs.Powers.{power_plan}
use Rattle.sum_compiler.specs.Images.{all_images, image_plan}
use Rattle.sum_compiler.specs.Products.{product, product_plan}

abbrev pub first_poly : ℕ → List Term
first_poly i = sum_of (var_terms (x_of i)) (var_terms (y_of i))

abbrev pub level_polys : List (List (List Term)) → Tabled → ℕ → List (List Term)
level_polys made t i = first_poly i ∷ put_in (into t.level (product made t i) []) t.polys

abbrev pub last_plan : List (List (List Term)) → Tabled → ℕ → List Call
last_plan made t i = calls_in step.Last 0 t.level (into t.level (product made t i) []) t.polys

abbrev pub image_plan_from : Tabled → (ℕ → List Factor) → List Call
image_plan_from t right = power_plan t ++ image_plan t right

abbrev pub plan : Tabled → (ℕ → List Factor) → ℕ → List Call
plan t right i =
    (image_plan_from t right ++ product_plan (all_images t right) t i)
    ++ last_plan (all_images t right) t i
