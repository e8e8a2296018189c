-- What the loop keeps that puts y_i in place of t in one image after another.
--   made images · t table · i level below it · js ks generators · k generator · d how many
--   bs the lists that were made · place of a call
use Rattle.std.proofs.Common.{◌≡◌, ℕ, zero, suc, ◌+◌, ◌-◌, ◌<◌, ◌≤◌, List, [], ◌∷◌, ◌++◌, length, map, get_or, refl, sym, ap, ◌∙◌, subst, arith, append_assoc}
use Rattle.std.specs.Prelude.{All, AllPairs}
use Rattle.std.proofs.lemmas.List.{get_or-map, length-map, map-append}
use Rattle.std.proofs.lemmas.List.Elements.{All-nil, All-head, All-tail}
use Rattle.nil_word.specs.Exponents.{numbers}
use Rattle.binom_poly.specs.declared.term.Term.{Term}
use Rattle.binom_poly.specs.Variable.{x_of}
use Rattle.binom_poly.specs.Collected.{var_terms}
use Rattle.poly_subst.specs.declared.assign.Assign.{Assign}
use Rattle.poly_subst.specs.Substitute.{substituted}
use Rattle.hall_table.specs.Tabled.{Tabled, last_of}
use Rattle.hall_table.specs.Order.{generators}
use Rattle.sum_compiler.specs.declared.sum_place.SumPlace.{SumPlace}
use Rattle.sum_compiler.specs.declared.sum_step.SumStep.TheVariants as step
use Rattle.sum_compiler.specs.Calls.{Call, IsFirstAt, IsMade}
use Rattle.sum_compiler.specs.Putting.{to_power, put_in, calls_in}
use Rattle.sum_compiler.specs.Images.{image_at}
use Rattle.sum_compiler.specs.Products.{at_y, product_power, base_of, at_y_calls, all_at_y_calls}
use Rattle.sum_compiler.proofs.Numbers.{numbers-append, numbers-more, length-numbers, get-numbers}
use Rattle.sum_compiler.proofs.Listing.{Named, Apart, named-to_power, apart-to_power}
use Rattle.sum_compiler.proofs.Walking.{first_sooner, first_later, made_both, made_left, made_right}

module _ (made : List (List (List Term))) (t : Tabled) (i : ℕ) where
  calls-append : (js ks : List ℕ)
      → all_at_y_calls made t i (js ++ ks)
      ≡ all_at_y_calls made t i js ++ all_at_y_calls made t i ks
  unfolding all_at_y_calls
  calls-append [] ks = refl
  calls-append (j ∷ js) ks =
      ap (λ (cs : List Call). at_y_calls made t i j ++ cs) (calls-append js ks)
      ∙ sym (append_assoc (at_y_calls made t i j) (all_at_y_calls made t i js)
      (all_at_y_calls made t i ks))

  calls_none : All IsMade (all_at_y_calls made t i [])
  unfolding all_at_y_calls
  calls_none = All-nil IsMade

  pub bases_begin : (k : ℕ) → k ≡ t.level
      → All IsMade (all_at_y_calls made t i (numbers t.level (k - t.level)))
  bases_begin k e =
      subst (λ (d : ℕ). All IsMade (all_at_y_calls made t i (numbers t.level d)))
      (let z : 0 ≡ k - t.level = omega arith in z) calls_none

  calls-next : (k : ℕ) (ks : List ℕ)
      → all_at_y_calls made t i (numbers t.level (k - t.level) ++ k ∷ ks)
      ≡ all_at_y_calls made t i (numbers t.level (k - t.level))
      ++ (at_y_calls made t i k ++ all_at_y_calls made t i ks)
  unfolding all_at_y_calls
  calls-next k ks = calls-append (numbers t.level (k - t.level)) (k ∷ ks)

  pub bases_more : (k : ℕ) → t.level ≤ k
      → All IsMade (all_at_y_calls made t i (numbers t.level (k - t.level)))
      → All IsMade (at_y_calls made t i k)
      → All IsMade (all_at_y_calls made t i (numbers t.level (k + 1 - t.level)))
  bases_more k l h m =
      let before = all_at_y_calls made t i (numbers t.level (k - t.level)) in
      subst (λ (js : List ℕ). All IsMade (all_at_y_calls made t i js))
      (sym (numbers-more t.level k l))
      (subst (All IsMade) (sym (calls-next k []))
      (made_both before (at_y_calls made t i k ++ all_at_y_calls made t i []) h
      (made_both (at_y_calls made t i k) (all_at_y_calls made t i []) m calls_none)))

  split : (k d : ℕ) → t.level ≤ k → k < t.level + d
      → numbers t.level d
      ≡ numbers t.level (k - t.level) ++ k ∷ numbers (suc k) (d - suc (k - t.level))
  split k d l u =
      let rest = d - suc (k - t.level) in
      ap (numbers t.level) (let e : d ≡ (k - t.level) + suc rest = omega arith in e)
      ∙ numbers-append t.level (k - t.level) (suc rest)
      ∙ ap (λ (m : ℕ). numbers t.level (k - t.level) ++ m ∷ numbers (suc m) rest)
      (let e : t.level + (k - t.level) ≡ k = omega arith in e)

  pub bases_stop : (k d : ℕ) (place : SumPlace) → t.level ≤ k → k < t.level + d
      → All IsMade (all_at_y_calls made t i (numbers t.level (k - t.level)))
      → IsFirstAt (at_y_calls made t i k) place
      → IsFirstAt (all_at_y_calls made t i (numbers t.level d)) place
  bases_stop k d place l u h f =
      let ks = numbers (suc k) (d - suc (k - t.level)) in
      let before = all_at_y_calls made t i (numbers t.level (k - t.level)) in
      subst (λ (js : List ℕ). IsFirstAt (all_at_y_calls made t i js) place) (sym (split k d l u))
      (subst (λ (cs : List Call). IsFirstAt cs place) (sym (calls-next k ks))
      (first_later before (at_y_calls made t i k ++ all_at_y_calls made t i ks) place h
      (first_sooner (at_y_calls made t i k) (all_at_y_calls made t i ks) place f)))

  pub bases_at : (k d : ℕ) → t.level ≤ k → k < t.level + d
      → All IsMade (all_at_y_calls made t i (numbers t.level d))
      → All IsMade (at_y_calls made t i k)
  bases_at k d l u h =
      let ks = numbers (suc k) (d - suc (k - t.level)) in
      let before = all_at_y_calls made t i (numbers t.level (k - t.level)) in
      made_left (at_y_calls made t i k) (all_at_y_calls made t i ks)
      (made_right before (at_y_calls made t i k ++ all_at_y_calls made t i ks)
      (subst (All IsMade) (calls-next k ks)
      (subst (λ (js : List ℕ). All IsMade (all_at_y_calls made t i js)) (split k d l u) h)))

  -- the lists
  pub listed_none : (k : ℕ) (bs : List (List Assign)) → bs ≡ [] → k ≡ t.level
      → bs ≡ map (base_of made t i) (numbers t.level (k - t.level))
  listed_none k bs e f =
      e ∙ ap (λ (d : ℕ). map (base_of made t i) (numbers t.level d))
      (let z : 0 ≡ k - t.level = omega arith in z)

  pub listed_more : (k : ℕ) (bs new : List (List Assign)) (b : List Assign) → t.level ≤ k
      → new ≡ bs ++ b ∷ [] → b ≡ base_of made t i k
      → bs ≡ map (base_of made t i) (numbers t.level (k - t.level))
      → new ≡ map (base_of made t i) (numbers t.level (k + 1 - t.level))
  listed_more k bs new b l e f h =
      e ∙ ap (λ (xs : List (List Assign)). xs ++ b ∷ []) h
      ∙ ap (λ (x : List Assign). map (base_of made t i) (numbers t.level (k - t.level)) ++ x ∷ []) f
      ∙ sym (ap (map (base_of made t i)) (numbers-more t.level k l)
      ∙ map-append (base_of made t i) (numbers t.level (k - t.level)) (k ∷ []))

  pub length-bases : (d : ℕ) (bs : List (List Assign))
      → bs ≡ map (base_of made t i) (numbers t.level d) → length bs ≡ d
  length-bases d bs h =
      ap length h ∙ length-map (numbers t.level d) (base_of made t i) ∙ length-numbers t.level d

  pub base_at : (d k : ℕ) (bs : List (List Assign)) (b : List Assign)
      → bs ≡ map (base_of made t i) (numbers t.level d) → k < d
      → get_or bs k b ≡ base_of made t i (t.level + k)
  base_at d k bs b h l =
      let m = length-numbers t.level d in
      ap (λ (xs : List (List Assign)). get_or xs k b) h
      ∙ get_or-map (base_of made t i) (numbers t.level d) k 0 b (omega arith)
      ∙ ap (base_of made t i) (get-numbers t.level d k l)

  -- what the steps of the loop make
  pub base_made : (level k : ℕ) (list base : List Assign) (image vector : List (List Term))
      (exponent : List Term) → level ≡ t.level → list ≡ at_y t i → image ≡ image_at made t k
      → vector ≡ put_in list image → exponent ≡ var_terms (x_of k)
      → base ≡ to_power level vector exponent → base ≡ base_of made t i k
  base_made level k list base image vector exponent e f g h x b =
      b ∙ ap (λ (l : ℕ). to_power l vector exponent) e
      ∙ ap (λ (s : List Term). to_power t.level vector s) x
      ∙ ap (λ (zs : List (List Term)). to_power t.level zs (var_terms (x_of k)))
      (h ∙ ap (λ (ss : List Assign). put_in ss image) f ∙ ap (put_in (at_y t i)) g)

  pub calls-made : (level k : ℕ) (list : List Assign) (image : List (List Term)) → level ≡ t.level
      → list ≡ at_y t i → image ≡ image_at made t k
      → calls_in step.Product k level list image ≡ at_y_calls made t i k
  calls-made level k list image e f g =
      ap (λ (l : ℕ). calls_in step.Product k l list image) e
      ∙ ap (λ (ss : List Assign). calls_in step.Product k t.level ss image) f
      ∙ ap (calls_in step.Product k t.level (at_y t i)) g

  length-vector : (j : ℕ) → length (image_at made t j) ≡ generators t
      → length (product_power made t i j).vector ≡ generators t
  length-vector j n =
      length-map (image_at made t j) (λ (p : List Term). substituted p (at_y t i)) ∙ n

  pub named-base : (j : ℕ) (base : List Assign) → base ≡ base_of made t i j
      → length (image_at made t j) ≡ generators t → 1 ≤ t.level → t.level + generators t ≤ 49
      → All Named base
  named-base j base e n l m =
      let g = product_power made t i j in
      let size = length-vector j n in
      subst (All Named) (sym e) (named-to_power t.level g.vector g.exponent l (omega arith))

  pub apart-base : (j : ℕ) (base : List Assign) → base ≡ base_of made t i j
      → length (image_at made t j) ≡ generators t → t.level + generators t ≤ 49
      → AllPairs Apart base
  apart-base j base e n m =
      let g = product_power made t i j in
      let size = length-vector j n in
      subst (AllPairs Apart) (sym e) (apart-to_power t.level g.vector g.exponent (omega arith))

-- the image of a generator, behind those of the later ones
pub image_is : {X : Type 0} (items : X → List (List Term)) (images : List X) (image : X)
    (t : Tabled)
    (last j : ℕ) → last ≡ last_of t → last_of t - j < length images
    → image ≡ get_or images (last - j) image → items image ≡ image_at (map items images) t j
image_is items images image t last j e l f =
    ap items f ∙ ap (λ (m : ℕ). items (get_or images (m - j) image)) e
    ∙ sym (get_or-map items images (last_of t - j) image [] l)

sized : {X : Type 0} (items : X → List (List Term)) (images : List X) (n k : ℕ)
    → All (λ image. length (items image) ≡ n) images → k < length images
    → length (get_or (map items images) k []) ≡ n
sized items [] n k h l = absurd (omega arith)
sized items (x ∷ xs) n zero h l = All-head (λ image. length (items image) ≡ n) x xs h
sized items (x ∷ xs) n (suc k) h l =
    sized items xs n k (All-tail (λ image. length (items image) ≡ n) x xs h) (omega arith)

pub length-image_at : {X : Type 0} (items : X → List (List Term)) (images : List X) (t : Tabled)
    (j : ℕ) → length images ≡ generators t
    → All (λ image. length (items image) ≡ generators t) images → t.level ≤ j → j ≤ last_of t
    → 0 < generators t → length (image_at (map items images) t j) ≡ generators t
length-image_at items images t j n h l m p =
    sized items images (generators t) (last_of t - j) h (omega arith)
