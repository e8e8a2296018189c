-- Lists that are copied element by element.
use Rattle.std.proofs.Common.{◌≡◌, ℕ, ◌+◌, ◌<◌, List, [], ◌∷◌, ◌++◌, length, map, take, get_or, sym, ◌∙◌, ap, arith}
use Rattle.std.proofs.lemmas.List.{map-append, get_or-map, length-map, take_more}

-- the images of the first elements, after one more
pub map-append_next : {X Y Z : Type 0} (f : X → Z) (g : Y → Z) (xs new : List X) (ys items : List Y) (k : ℕ) (x : X) (y : Y) → map f xs ≡ take k (map g ys) → new ≡ xs ++ x ∷ [] → items ≡ ys → k < length items → y ≡ get_or items k y → f x ≡ g y → map f new ≡ take (k + 1) (map g ys)
map-append_next {Z = Z} f g xs new ys items k x y h put are below is same =
    let k_is : k < length ys = omega (arith, ap length are) in
    let within : k < length (map g ys) = omega (arith, length-map ys g) in
    let at : get_or (map g ys) k (g y) ≡ g y = get_or-map g ys k y (g y) k_is ∙ ap g (sym (is ∙ ap (λ (l : List _). get_or l k y) are)) in
    ap (map f) put
    ∙ (map-append f xs (x ∷ [])
    ∙ (ap (λ (t : List Z). t ++ f x ∷ []) h
    ∙ (ap (λ (z : Z). take k (map g ys) ++ z ∷ []) (same ∙ sym at) ∙ sym (take_more (map g ys) k (g y) within))))
