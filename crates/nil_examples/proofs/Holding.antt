-- The relations of unitriangular matrices hold for matrices.
use Rattle.std.proofs.Common.{◌≡◌, ◌≢◌, ℕ, ◌<◌, inl, inr, pos, negsuc, List, [], ◌∷◌, length, refl, sym, subst, ap, ◌∙◌, arith}
use Rattle.std.proofs.lemmas.Bool.{cases_eq}
use Rattle.nil_pres.specs.declared.syllable.Syllable.{Syllable}
use Rattle.nil_pres.specs.Presented.{Presented, right_of}
use Rattle.nil_examples.specs.declared.places.Place.{Place}
use Rattle.nil_examples.specs.Places.{places, place_of}
use Rattle.nil_examples.specs.Matrices.{IsAbove, IsAt, AreMatrices}
use Rattle.nil_examples.specs.Products.{Matrix, generator, product, HoldForMatrices}
use Rattle.nil_examples.proofs.Rows.{length-numbered}
use Rattle.nil_examples.proofs.Columns.{at, backward-forward, forward-backward, commuting}

abbrev Holds : ℕ → ℕ → ℕ → List Syllable → Matrix → ℕ → ℕ → Type 0
Holds m i j right M row column =
    product m (generator j ∷ generator i ∷ []) M row column
    ≡ product m (generator i ∷ generator j ∷ right) M row column

-- a pair whose places meet, in the order of the places or turned, and one whose places don't
holds-product : (m p q r i j u : ℕ) (M : Matrix) (row column : ℕ) → p < q → q < r → IsAt m i (at p q) → IsAt m j (at q r) → IsAt m u (at p r) → Holds m i j (record { number = u; exp = negsuc 0 } ∷ []) M row column
holds-product m p q r i j u M row column first second at_i at_j at_u =
    rw (at_i.place, at_j.place, at_u.place) (backward-forward p q r M row column first second)

holds-turned : (m p q r i j u : ℕ) (M : Matrix) (row column : ℕ) → p < q → q < r → IsAt m i (at q r) → IsAt m j (at p q) → IsAt m u (at p r) → Holds m i j (record { number = u; exp = pos 1 } ∷ []) M row column
holds-turned m p q r i j u M row column first second at_i at_j at_u =
    rw (at_i.place, at_j.place, at_u.place) (forward-backward p q r M row column first second)

holds-others : (m i j : ℕ) (x y : Place) (M : Matrix) (row column : ℕ) → x.column ≢ y.row → y.column ≢ x.row → IsAt m i x → IsAt m j y → Holds m i j [] M row column
holds-others m i j x y M row column first second at_i at_j =
    rw (at_i.place, at_j.place) (commuting x y M row column first second)

-- the same with the right sides of a presentation
holds-met : (m i j : ℕ) (x y : Place) (pres : Presented) (M : Matrix) (row column : ℕ) → AreMatrices m pres → i < j → IsAt m i x → IsAt m j y → x.column ≡ y.row → Holds m i j (right_of pres i j) M row column
holds-met m i j x y pres M row column rels below at_i at_j meet =
    let one = rels.places.above i x at_i in
    let two = rels.places.above j y at_j in
    let above : IsAbove m (at x.row y.column) = record { least = one.least; above = omega arith; most = two.most } in
    let third = rels.places.all (at x.row y.column) above in
    let next : IsAt m j (at x.column y.column) = subst (IsAt m j) (ap (λ (p : ℕ). at p y.column) (sym meet)) at_j in
    let right = rels.product i j third.0 x.row x.column y.column below at_i next third.1 in
    subst (λ (w : List Syllable). Holds m i j w M row column) (sym right)
    (holds-product m x.row x.column y.column i j third.0 M row column one.above (omega arith) at_i next third.1)

holds-met_turned : (m i j : ℕ) (x y : Place) (pres : Presented) (M : Matrix) (row column : ℕ) → AreMatrices m pres → i < j → IsAt m i x → IsAt m j y → y.column ≡ x.row → Holds m i j (right_of pres i j) M row column
holds-met_turned m i j x y pres M row column rels below at_i at_j meet =
    let one = rels.places.above i x at_i in
    let two = rels.places.above j y at_j in
    let above : IsAbove m (at y.row x.column) = record { least = two.least; above = omega arith; most = one.most } in
    let third = rels.places.all (at y.row x.column) above in
    let next : IsAt m i (at y.column x.column) = subst (IsAt m i) (ap (λ (p : ℕ). at p x.column) (sym meet)) at_i in
    let right = rels.turned j i third.0 y.row y.column x.column below at_j next third.1 in
    subst (λ (w : List Syllable). Holds m i j w M row column) (sym right)
    (holds-turned m y.row y.column x.column i j third.0 M row column two.above (omega arith) next at_j third.1)

holds-pair : (m i j : ℕ) (x y : Place) (pres : Presented) (M : Matrix) (row column : ℕ) → AreMatrices m pres → i < j → IsAt m i x → IsAt m j y → Holds m i j (right_of pres i j) M row column
holds-pair m i j x y pres M row column rels below at_i at_j =
    elim (cases_eq x.column y.row) [
      | inl meet ↦ holds-met m i j x y pres M row column rels below at_i at_j meet
      | inr apart ↦ elim (cases_eq y.column x.row) [
        | inl meet ↦ holds-met_turned m i j x y pres M row column rels below at_i at_j meet
        | inr other ↦
            subst (λ (w : List Syllable). Holds m i j w M row column) (sym (rels.others i j x y below at_i at_j apart other))
            (holds-others m i j x y M row column apart other at_i at_j)
      ]
    ]

pub HoldForMatrices-from_places : (m : ℕ) (pres : Presented) → AreMatrices m pres → HoldForMatrices m pres
HoldForMatrices-from_places m pres rels =
    let size : length pres.names ≡ length (places m) = ap length rels.names ∙ length-numbered (length (places m)) in
    record {
      relation = λ i j least below most M row column.
          holds-pair m i j (place_of (places m) i) (place_of (places m) j) pres M row column rels below
          (record { least = least; most = omega arith; place = refl })
          (record { least = omega arith; most = omega arith; place = refl });
    }
