-- The images as lists of polynomials: their lengths, their entries, and the calls that make them.
--   t table · right the factors of the right side of each generator · d e how many images
--   made images · j l generators, that of place n - j and n - l · n last generator
use Rattle.std.proofs.Common.{◌≡◌, ℕ, zero, suc, ◌+◌, ◌-◌, ◌<◌, ◌≤◌, List, [], ◌∷◌, ◌++◌, length, get_or, replicate, refl, sym, ap, ◌∙◌, subst, arith}
use Rattle.std.specs.Prelude.{All}
use Rattle.std.proofs.lemmas.List.{get_or_append_left, length-append, length-replicate}
use Rattle.std.proofs.Math.Seq.{get_or-append_seam}
use lib.IntN.{pos}
use Rattle.nil_word.specs.Factors.{Factor}
use Rattle.binom_poly.specs.declared.term.Term.{Term}
use Rattle.binom_poly.specs.Collected.{constant_terms}
use Rattle.hall_table.specs.Tabled.{Tabled, IsTabled, last_of}
use Rattle.hall_table.specs.Order.{generators}
use Rattle.sum_compiler.specs.declared.sum_place.SumPlace.{SumPlace}
use Rattle.sum_compiler.specs.Calls.{IsFirstAt, IsMade}
use Rattle.sum_compiler.specs.Images.{right_of, first_of, next_generator, next_image, next_image_calls, images, image_calls}
use Rattle.sum_compiler.proofs.Walking.{made_left, made_right, made_both, first_sooner, first_later}
use Rattle.sum_compiler.proofs.SumsSoFar.{length-with_sums}
use Rattle.sum_compiler.proofs.ReadAt.{bounds_of}

abbrev none : List Term
none = []

pub length-images : (t : Tabled) (right : ℕ → List Factor) (d : ℕ) → length (images t right d) ≡ d
unfolding images
length-images t right zero = refl
length-images t right (suc d) =
    length-append (images t right d) (next_image t right (images t right d) ∷ [])
    ∙ (let e = length-images t right d in
    let f : length (images t right d) + 1 ≡ suc d = omega arith in f)

pub length-first_of : (t : Tabled) (j : ℕ) → t.level ≤ j → length (first_of t j) ≡ suc j - t.level
length-first_of t j l =
    length-append (replicate (j - t.level) []) (constant_terms (pos 1) ∷ [])
    ∙ (let e = length-replicate (j - t.level) none in
    let f : length (replicate (j - t.level) none) + 1 ≡ suc j - t.level = omega arith in f)

-- the generator of an image
pub generator_is : (t : Tabled) (right : ℕ → List Factor) (d : ℕ)
    → next_generator t (images t right d) ≡ last_of t - d
generator_is t right d = ap (λ (m : ℕ). last_of t - m) (length-images t right d)

pub length-next_image : (t : Tabled) (right : ℕ → List Factor) (d : ℕ) → IsTabled t → d < generators t
    → length (next_image t right (images t right d)) ≡ generators t
length-next_image t right d h l =
    let b = bounds_of t h in
    let end : t.level + length t.polys ≡ suc (last_of t) = b.end in
    let made = images t right d in
    let j = next_generator t made in
    let e : j ≡ last_of t - d = generator_is t right d in
    let first = length-first_of t j (omega arith) in
    length-with_sums t (right_of made t j (right j)) (first_of t j) (last_of t - j)
    ∙ (let f : length (first_of t j) + (last_of t - j) ≡ generators t = omega arith in f)

-- ---- earlier images stay
images-kept : (t : Tabled) (right : ℕ → List Factor) (c d i : ℕ) → i < d
    → get_or (images t right (c + d)) i [] ≡ get_or (images t right d) i []
unfolding images
images-kept t right zero d i l =
    ap (λ (n : ℕ). get_or (images t right n) i []) (let e : 0 + d ≡ d = omega arith in e)
images-kept t right (suc c) d i l =
    let before = images t right (c + d) in
    let size = length-images t right (c + d) in
    ap (λ (n : ℕ). get_or (images t right n) i []) (let e : suc c + d ≡ suc (c + d) = omega arith in e)
    ∙ get_or_append_left before (next_image t right before ∷ []) [] i (omega arith)
    ∙ images-kept t right c d i l

pub images-at : (t : Tabled) (right : ℕ → List Factor) (d end i : ℕ) → d ≤ end → i < d
    → get_or (images t right end) i [] ≡ get_or (images t right d) i []
images-at t right d end i l u =
    ap (λ (n : ℕ). get_or (images t right n) i [])
    (let e : end ≡ (end - d) + d = omega arith in e)
    ∙ images-kept t right (end - d) d i u

pub image-next : (t : Tabled) (right : ℕ → List Factor) (d end : ℕ) → d < end
    → get_or (images t right end) d [] ≡ next_image t right (images t right d)
unfolding images
image-next t right d end l =
    let before = images t right d in
    images-at t right (suc d) end d l (omega arith)
    ∙ ap (λ (i : ℕ). get_or (images t right (suc d)) i []) (sym (length-images t right d))
    ∙ get_or-append_seam before (next_image t right before) [] []

pub length-image : (t : Tabled) (right : ℕ → List Factor) (end i : ℕ) → IsTabled t → i < end
    → end ≤ generators t → length (get_or (images t right end) i []) ≡ generators t
length-image t right end i h l u =
    ap length (image-next t right i end l) ∙ length-next_image t right i h (omega arith)

-- ---- the calls
calls_upto : (t : Tabled) (right : ℕ → List Factor) (c d : ℕ)
    → All IsMade (image_calls t right (c + d)) → All IsMade (image_calls t right d)
unfolding image_calls
calls_upto t right zero d h =
    subst (λ (n : ℕ). All IsMade (image_calls t right n)) (let e : 0 + d ≡ d = omega arith in e) h
calls_upto t right (suc c) d h =
    calls_upto t right c d
    (made_left (image_calls t right (c + d)) (next_image_calls t right (images t right (c + d)))
    (subst (λ (n : ℕ). All IsMade (image_calls t right n))
    (let e : suc c + d ≡ suc (c + d) = omega arith in e) h))

pub calls_of : (t : Tabled) (right : ℕ → List Factor) (d end : ℕ) → d < end
    → All IsMade (image_calls t right end) → All IsMade (next_image_calls t right (images t right d))
unfolding image_calls
calls_of t right d end l h =
    made_right (image_calls t right d) (next_image_calls t right (images t right d))
    (calls_upto t right (end - suc d) (suc d)
    (subst (λ (n : ℕ). All IsMade (image_calls t right n))
    (let e : end ≡ (end - suc d) + suc d = omega arith in e) h))

pub first_upto : (t : Tabled) (right : ℕ → List Factor) (c d : ℕ) (place : SumPlace)
    → IsFirstAt (image_calls t right d) place → IsFirstAt (image_calls t right (c + d)) place
unfolding image_calls
first_upto t right zero d place f =
    subst (λ (n : ℕ). IsFirstAt (image_calls t right n) place) (let e : d ≡ 0 + d = omega arith in e) f
first_upto t right (suc c) d place f =
    subst (λ (n : ℕ). IsFirstAt (image_calls t right n) place)
    (let e : suc (c + d) ≡ suc c + d = omega arith in e)
    (first_sooner (image_calls t right (c + d)) (next_image_calls t right (images t right (c + d))) place
    (first_upto t right c d place f))

-- ---- one more image
pub first_next : (t : Tabled) (right : ℕ → List Factor) (d end : ℕ) (place : SumPlace) → d < end
    → All IsMade (image_calls t right d)
    → IsFirstAt (next_image_calls t right (images t right d)) place
    → IsFirstAt (image_calls t right end) place
unfolding image_calls
first_next t right d end place l made f =
    subst (λ (n : ℕ). IsFirstAt (image_calls t right n) place)
    (let e : (end - suc d) + suc d ≡ end = omega arith in e)
    (first_upto t right (end - suc d) (suc d) place
    (first_later (image_calls t right d) (next_image_calls t right (images t right d)) place made f))

pub images_more : (t : Tabled) (right : ℕ → List Factor) (d : ℕ)
    → images t right (d + 1) ≡ images t right d ++ next_image t right (images t right d) ∷ []
unfolding images
images_more t right d =
    ap (λ (n : ℕ). images t right n) (let e : d + 1 ≡ suc d = omega arith in e)

pub calls_more : (t : Tabled) (right : ℕ → List Factor) (d : ℕ) → All IsMade (image_calls t right d)
    → All IsMade (next_image_calls t right (images t right d))
    → All IsMade (image_calls t right (d + 1))
unfolding image_calls
calls_more t right d h k =
    subst (λ (n : ℕ). All IsMade (image_calls t right n)) (let e : suc d ≡ d + 1 = omega arith in e)
    (made_both (image_calls t right d) (next_image_calls t right (images t right d)) h k)
