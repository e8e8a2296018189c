-- What the calls of a level's plan have made, and where they stop.
--   t table of the level above i, and u the one that it is · made images · ps their product
--   right the factors of the right side of each generator · qs polynomials of the level
--   place of a call
use Rattle.std.proofs.Common.{◌≡◌, ℕ, List, [], ◌∷◌, ◌++◌, ap, ◌∙◌, subst}
use Rattle.std.specs.Prelude.{All}
use Rattle.nil_word.specs.Factors.{Factor}
use Rattle.binom_poly.specs.declared.term.Term.{Term}
use Rattle.hall_table.specs.Tabled.{Tabled}
use Rattle.sum_compiler.specs.declared.sum_step.SumStep.TheVariants as step
use Rattle.sum_compiler.specs.declared.sum_place.SumPlace.{SumPlace}
use Rattle.sum_compiler.specs.Calls.{Call, IsFirstAt, IsMade}
use Rattle.sum_compiler.specs.Putting.{into, put_in, calls_in}
use Rattle.sum_compiler.specs.Powers.{power_plan}
use Rattle.sum_compiler.specs.Images.{all_images, image_plan}
use Rattle.sum_compiler.specs.Products.{product, product_plan}
use Rattle.sum_compiler.specs.Plan.{first_poly, level_polys, last_plan, image_plan_from, plan}
use Rattle.sum_compiler.proofs.Walking.{first_sooner, first_later, made_both}

abbrev pub last_calls : Tabled → List (List Term) → List Call
last_calls t ps = calls_in step.Last 0 t.level (into t.level ps []) t.polys

pub record ImagesMade (t : Tabled) (right : ℕ → List Factor) (made : List (List (List Term)))
    : Type 0 where
  pub powers : All IsMade (power_plan t)
  pub calls : All IsMade (image_plan t right)
  pub are : made ≡ all_images t right

pub record ProductMade (t : Tabled) (right : ℕ → List Factor) (i : ℕ)
    (made : List (List (List Term))) (ps : List (List Term)) : Type 0 where
  pub images : ImagesMade t right made
  pub calls : All IsMade (product_plan made t i)
  pub is : ps ≡ product made t i

pub record LevelMade (t : Tabled) (right : ℕ → List Factor) (i : ℕ)
    (made : List (List (List Term))) (ps qs : List (List Term)) : Type 0 where
  pub product : ProductMade t right i made ps
  pub calls : All IsMade (last_calls t ps)
  pub are : qs ≡ first_poly i ∷ put_in (into t.level ps []) t.polys

module _ (t u : Tabled) (e : t ≡ u) (right : ℕ → List Factor) (i : ℕ) where
  abbrev As : List (List (List Term))
  As = all_images t right

  abbrev before_last : List Call
  before_last = image_plan_from t right ++ product_plan As t i

  -- ---- the images
  sooner : (place : SumPlace) → IsFirstAt before_last place → IsFirstAt (plan u right i) place
  sooner place f =
      subst (λ (v : Tabled). IsFirstAt (plan v right i) place) e
      (first_sooner before_last (last_plan As t i) place f)

  pub stops_images : (place : SumPlace) → All IsMade (power_plan t)
      → IsFirstAt (image_plan t right) place → IsFirstAt (plan u right i) place
  stops_images place h f =
      sooner place
      (first_sooner (image_plan_from t right) (product_plan As t i) place
      (first_later (power_plan t) (image_plan t right) place h f))

  -- ---- the product
  images_made : (made : List (List (List Term))) → ImagesMade t right made
      → All IsMade (image_plan_from t right)
  images_made made images = made_both (power_plan t) (image_plan t right) images.powers images.calls

  pub stops_product : (place : SumPlace) (made : List (List (List Term))) → ImagesMade t right made
      → IsFirstAt (product_plan made t i) place → IsFirstAt (plan u right i) place
  stops_product place made images f =
      sooner place
      (first_later (image_plan_from t right) (product_plan As t i) place (images_made made images)
      (subst (λ (xs : List (List (List Term))). IsFirstAt (product_plan xs t i) place) images.are
      f))

  -- ---- the polynomials of the level
  module _ (made : List (List (List Term))) (ps : List (List Term))
      (product_made : ProductMade t right i made ps) where
    product_is : ps ≡ product As t i
    product_is =
        product_made.is
        ∙ ap (λ (xs : List (List (List Term))). product xs t i) product_made.images.are

    before_made : All IsMade before_last
    before_made =
        made_both (image_plan_from t right) (product_plan As t i)
        (images_made made product_made.images)
        (subst (λ (xs : List (List (List Term))). All IsMade (product_plan xs t i))
        product_made.images.are product_made.calls)

    pub stops_last : (place : SumPlace) → IsFirstAt (last_calls t ps) place
        → IsFirstAt (plan u right i) place
    stops_last place f =
        subst (λ (v : Tabled). IsFirstAt (plan v right i) place) e
        (first_later before_last (last_plan As t i) place before_made
        (subst (λ (xs : List (List Term)). IsFirstAt (last_calls t xs) place) product_is f))

  -- ---- the whole plan
  module _ (made : List (List (List Term))) (ps qs : List (List Term))
      (level : LevelMade t right i made ps qs) where
    pub plan_made : All IsMade (plan u right i)
    plan_made =
        subst (λ (v : Tabled). All IsMade (plan v right i)) e
        (made_both before_last (last_plan As t i) (before_made made ps level.product)
        (subst (λ (xs : List (List Term)). All IsMade (last_calls t xs))
        (product_is made ps level.product) level.calls))

    pub polys_are : qs ≡ level_polys (all_images u right) u i
    polys_are =
        subst (λ (v : Tabled). qs ≡ level_polys (all_images v right) v i) e
        (level.are
        ∙ ap (λ (xs : List (List Term)). first_poly i ∷ put_in (into t.level xs []) t.polys)
        (product_is made ps level.product))
