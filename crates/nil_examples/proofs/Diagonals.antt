-- Places, diagonal by diagonal.
use Rattle.std.proofs.Common.{◌≡◌, ℕ, ◌+◌, List, [], ◌∷◌, ◌++◌, map, sym, ap, ◌∙◌, append_assoc}
use Rattle.std.specs.List.{range_with_len, flat_map}
use Rattle.std.proofs.lemmas.List.FromFn.{map-range_with_len_more}
use Rattle.nil_examples.specs.declared.places.Place.{Place}
use Rattle.nil_examples.specs.Places.{diagonal}
use Rattle.nil_examples.proofs.Numbering.{one_first, one_more, flat_map-more}

-- the first n places of a diagonal
abbrev pub along : ℕ → ℕ → List Place
along d n = map (λ p. record { row = p; column = p + d }) (range_with_len 1 n)

-- the first n diagonals
abbrev pub diagonals : ℕ → ℕ → List Place
diagonals m n = flat_map (diagonal m) (range_with_len 1 n)

pub along-next : (d n : ℕ) (before now : List Place) → now ≡ (before ++ along d n) ++ record { row = n + 1; column = n + 1 + d } ∷ [] → now ≡ before ++ along d (n + 1)
along-next d n before now is =
    let at : ℕ → Place = λ p. record { row = p; column = p + d } in
    is ∙ append_assoc before (along d n) (at (n + 1) ∷ [])
    ∙ ap (λ (t : List Place). before ++ t) (sym (map-range_with_len_more at 1 n (n + 1) (one_first n)))

pub diagonals-next : (m n : ℕ) → diagonals m n ++ diagonal m (n + 1) ≡ diagonals m (n + 1)
diagonals-next m n =
    ap (λ (i : ℕ). diagonals m n ++ diagonal m i) (sym (one_first n))
    ∙ flat_map-more (diagonal m) 1 n
    ∙ ap (λ (i : ℕ). diagonals m i) (one_more n)
