-- The relations of examples, pair by pair.
use Rattle.std.proofs.Common.{◌≡◌, ◌≢◌, ℕ, ◌-◌, ◌<◌, ◌≤◌, pos, negsuc, List, [], ◌∷◌, length, get_or, Option, Some, None, refl, ap, ◌∙◌, arith}
use Rattle.std.proofs.lemmas.Bool.{eq-eqb, ne_eqb}
use Rattle.std.proofs.lemmas.List.FromFn.{get_or-map-range_with_len}
use Rattle.nil_pres.specs.declared.syllable.Syllable.{Syllable}
use Rattle.nil_pres.specs.Presented.{right_of}
use Rattle.nil_examples.specs.declared.places.Place.{Place}
use Rattle.nil_examples.specs.Powers.{right_side, row, presentation}
use Rattle.nil_examples.specs.Places.{places, place_of, number_of, commutator, commutators, unitriangular}
use Rattle.nil_examples.specs.Matrices.{IsAt, AreMatrices}
use Rattle.nil_examples.proofs.Grid.{placed_at, AreNumbered-places}

pub right_of-presentation : (n i j : ℕ) (right : ℕ → ℕ → Option Syllable) → 1 ≤ i → i < j → j ≤ n → right_of (presentation n right) i j ≡ right_side (right i j)
right_of-presentation n i j right least below most =
    ap (λ (r : List (List Syllable)). get_or r (i - 1) []) (get_or-map-range_with_len (row right) 1 n (j - 1) j [] (omega arith) (omega arith))
    ∙ get_or-map-range_with_len (λ (k : ℕ). right_side (right k j)) 1 (j - 1) (i - 1) i [] (omega arith) (omega arith)

-- matrices
commutator-product : (xs : List Place) (p q r : ℕ) → commutator xs (record { row = p; column = q }) (record { row = q; column = r }) ≡ Some (record { number = number_of xs p r; exp = negsuc 0 })
commutator-product xs p q r = rw (eq-eqb q q refl)

commutator-turned : (xs : List Place) (p q r : ℕ) → r ≢ p → commutator xs (record { row = q; column = r }) (record { row = p; column = q }) ≡ Some (record { number = number_of xs p r; exp = pos 1 })
commutator-turned xs p q r apart = rw (ne_eqb r p apart, eq-eqb q q refl)

commutator-others : (xs : List Place) (x y : Place) → x.column ≢ y.row → y.column ≢ x.row → commutator xs x y ≡ None
commutator-others xs x y first second =
    rw (ne_eqb x.column y.row first, ne_eqb y.column x.row second)

-- the right side of the generators at two places
at_places : (m i j : ℕ) (x y : Place) → i < j → IsAt m i x → IsAt m j y → right_of (unitriangular m) i j ≡ right_side (commutator (places m) x y)
at_places m i j x y below first second =
    let xs = places m in
    right_of-presentation (length xs) i j (commutators xs) first.least below second.most
    ∙ ap (λ (z : Place). right_side (commutator xs z (place_of xs j))) first.place
    ∙ ap (λ (z : Place). right_side (commutator xs x z)) second.place

product : (m s t u p q r : ℕ) → 2 ≤ m → m ≤ 10 → s < t → IsAt m s (record { row = p; column = q }) → IsAt m t (record { row = q; column = r }) → IsAt m u (record { row = p; column = r }) → right_of (unitriangular m) s t ≡ record { number = u; exp = negsuc 0 } ∷ []
product m s t u p q r least most below first second third =
    let power : ℕ → List Syllable = λ k. record { number = k; exp = negsuc 0 } ∷ [] in
    at_places m s t (record { row = p; column = q }) (record { row = q; column = r }) below first second
    ∙ ap right_side (commutator-product (places m) p q r)
    ∙ ap power (placed_at m u (record { row = p; column = r }) least most third).number

turned : (m s t u p q r : ℕ) → 2 ≤ m → m ≤ 10 → t < s → IsAt m s (record { row = p; column = q }) → IsAt m t (record { row = q; column = r }) → IsAt m u (record { row = p; column = r }) → right_of (unitriangular m) t s ≡ record { number = u; exp = pos 1 } ∷ []
turned m s t u p q r least most below first second third =
    let power : ℕ → List Syllable = λ k. record { number = k; exp = pos 1 } ∷ [] in
    let above = (placed_at m u (record { row = p; column = r }) least most third).above in
    let apart : r ≢ p = omega (arith, above.above) in
    at_places m t s (record { row = q; column = r }) (record { row = p; column = q }) below second first
    ∙ ap right_side (commutator-turned (places m) p q r apart)
    ∙ ap power (placed_at m u (record { row = p; column = r }) least most third).number

others : (m i j : ℕ) (x y : Place) → i < j → IsAt m i x → IsAt m j y → x.column ≢ y.row → y.column ≢ x.row → right_of (unitriangular m) i j ≡ []
others m i j x y below first second one two =
    at_places m i j x y below first second ∙ ap right_side (commutator-others (places m) x y one two)

pub AreMatrices-unitriangular : (m : ℕ) → 2 ≤ m → m ≤ 10 → AreMatrices m (unitriangular m)
AreMatrices-unitriangular m least most = record {
  names = refl;
  places = AreNumbered-places m least most;
  product = λ s t u p q r below first second third. product m s t u p q r least most below first second third;
  turned = λ s t u p q r below first second third. turned m s t u p q r least most below first second third;
  others = λ i j x y below first second one two. others m i j x y below first second one two;
}
