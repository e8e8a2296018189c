-- The images A_j: what the power t of the new generator makes of a_j, as polynomials in t.
--   families images          the polynomials of each image
--   image_at made t l        A_l of the images that are made, that of the last generator first
--   right_power made t j s   the power of an image that stands for a factor of a right side
--   right_of made t j ss     W, the product of these; zero where there is none
--   first_of t j             the entries of A_j up to j: 0 below j, and 1 at j
--   next_generator t made    the generator of the next image
--   next_image t right made  A_j of that generator
--   images t right d         the first d images, from the last generator on
--   right_calls, next_image_calls, image_calls    the calls that make these
--   all_images, image_plan   all images, and the calls that make them
-- t table · j generator · right the factors of the right side of j · made images · s factor
-- ss factors · d how many images
use Rattle.std.specs.Prelude.{ℕ, suc, ◌-◌, List, [], ◌∷◌, ◌++◌, length, map, replicate, slice_index_or, pos, Vec}
use Rattle.std.specs.declared.alloc.Global.{Global}
use Rattle.std.proofs.Common.{zero}
use Rattle.nil_word.specs.Factors.{Factor}
use Rattle.binom_poly.specs.declared.poly.Poly.{Poly}
use Rattle.binom_poly.specs.declared.term.Term.{Term}
use Rattle.binom_poly.specs.Collected.{constant_terms}
use Rattle.hall_table.specs.Tabled.{Tabled, last_of}
use Rattle.hall_table.specs.Order.{generators}
use Rattle.sum_compiler.specs.declared.sum_step.SumStep.TheVariants as step
use Rattle.sum_compiler.specs.Calls.{Call}
use Rattle.sum_compiler.specs.Summing.{with_sums, sum_calls}
use Rattle.sum_compiler.specs.Joining.{Powering, power_of, joined, power_calls, joined_calls}
use Rattle.sum_compiler.specs.Powers.{powers}

abbrev pub families : List (Vec Poly Global) → List (List (List Term))
families images = map (λ image. image.items) images

abbrev pub image_at : List (List (List Term)) → Tabled → ℕ → List (List Term)
image_at made t l = slice_index_or made (last_of t - l) []

abbrev pub right_power : List (List (List Term)) → Tabled → ℕ → Factor → Powering
right_power made t j s =
    record { j = j; vector = image_at made t s.number; exponent = constant_terms s.exp }

abbrev pub right_of : List (List (List Term)) → Tabled → ℕ → List Factor → List (List Term)
right_of made t j [] = replicate (generators t) []
right_of made t j (s ∷ ss) =
    joined t (powers t) (power_of t (powers t) (right_power made t j s))
    (map (right_power made t j) ss)

abbrev pub right_calls : List (List (List Term)) → Tabled → ℕ → List Factor → List Call
right_calls made t j [] = []
right_calls made t j (s ∷ ss) =
    power_calls step.Image t (powers t) (right_power made t j s)
    ++ joined_calls step.Image t (powers t) (power_of t (powers t) (right_power made t j s))
    (map (right_power made t j) ss)

abbrev pub first_of : Tabled → ℕ → List (List Term)
first_of t j = replicate (j - t.level) [] ++ constant_terms (pos 1) ∷ []

abbrev pub next_generator : Tabled → List (List (List Term)) → ℕ
next_generator t made = last_of t - length made

abbrev pub next_image : Tabled → (ℕ → List Factor) → List (List (List Term)) → List (List Term)
next_image t right made =
    let j = next_generator t made in
    with_sums t (right_of made t j (right j)) (first_of t j) (last_of t - j)

abbrev pub next_image_calls : Tabled → (ℕ → List Factor) → List (List (List Term)) → List Call
next_image_calls t right made =
    let j = next_generator t made in
    right_calls made t j (right j)
    ++ sum_calls step.Image j t (right_of made t j (right j)) (first_of t j) (last_of t - j)

unfoldable pub images : Tabled → (ℕ → List Factor) → ℕ → List (List (List Term))
images t right zero = []
images t right (suc d) = images t right d ++ next_image t right (images t right d) ∷ []

unfoldable pub image_calls : Tabled → (ℕ → List Factor) → ℕ → List Call
image_calls t right zero = []
image_calls t right (suc d) =
    image_calls t right d ++ next_image_calls t right (images t right d)

abbrev pub all_images : Tabled → (ℕ → List Factor) → List (List (List Term))
all_images t right = images t right (generators t)

abbrev pub image_plan : Tabled → (ℕ → List Factor) → List Call
image_plan t right = image_calls t right (generators t)
