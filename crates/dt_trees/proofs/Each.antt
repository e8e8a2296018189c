-- Joined lists: over lists that are appended, over the first numbers, and of maps that agree.
--   f g maps · xs ys lists · n number
use Rattle.std.proofs.Common.{◌≡◌, ℕ, suc, List, [], ◌∷◌, ◌++◌, map, refl, sym, ap, ◌∙◌, append_assoc, inl, inr}
use Rattle.std.proofs.lemmas.List.{append-nil, map-append}
use Rattle.dt_letters.specs.Listing.{each, upto, IsIn}

module _ {A B : Type 0} where
  pub each-append : (f : A → List B) (xs ys : List A) → each f (xs ++ ys) ≡ each f xs ++ each f ys
  each-append f [] ys = refl
  each-append f (x ∷ xs) ys =
      ap (λ (z : List B). f x ++ z) (each-append f xs ys) ∙ sym (append_assoc (f x) (each f xs) (each f ys))

  pub each-push : (f : A → List B) (xs : List A) (x : A) → each f (xs ++ x ∷ []) ≡ each f xs ++ f x
  each-push f xs x =
      each-append f xs (x ∷ []) ∙ ap (λ (z : List B). each f xs ++ z) (append-nil (f x))

  -- maps that agree on the elements of the list
  pub each-same : (f g : A → List B) (xs : List A) → ((x : A) → IsIn x xs → f x ≡ g x)
      → each f xs ≡ each g xs
  each-same f g [] h = refl
  each-same f g (x ∷ xs) h =
      ap (λ (z : List B). z ++ each f xs) (h x (inl refl))
      ∙ ap (λ (z : List B). g x ++ z) (each-same f g xs (λ y p. h y (inr p)))

pub map-upto : {B : Type 0} (f : ℕ → B) (n : ℕ)
    → map f (upto (suc n)) ≡ map f (upto n) ++ f (suc n) ∷ []
map-upto f n = map-append f (upto n) (suc n ∷ [])
