-- Texts that grow by one part.
use Rattle.std.proofs.Common.{◌≡◌, ℕ, ◌+◌, ◌≤◌, List, [], ◌∷◌, ◌++◌, length, take, drop, get_or, codes, refl, sym, ap, ◌∙◌, add-one, append_assoc, arith}
use Rattle.std.specs.List.{flat_map}
use Rattle.std.proofs.lemmas.List.{append-nil, drop_all}
use Rattle.nil_pres.specs.declared.syllable.Syllable.{Syllable}
use Rattle.nil_pres.specs.Presented.{Presented, right_of}
use Rattle.pres_text.specs.Text.{power_text, right_text, line_text, pairs_text}

pub pairs_text-next : (p : Presented) (j i : ℕ) → pairs_text p j (i + 1) ≡ pairs_text p j i ++ line_text p.names j (i + 1) (right_of p (i + 1) j)
pairs_text-next p j i = rw (add-one i) refl

abbrev times_text : List (List ℕ) → List Syllable → List ℕ
times_text names right = flat_map (λ t. codes "*" ++ power_text names t) right

-- a right side, behind its first power and those behind it
pub right_text-whole : (names : List (List ℕ)) (right front rest : List Syllable) (old first new : List ℕ) (d : Syllable) (k : ℕ) → 1 ≤ length right → front ≡ take 1 right → rest ≡ drop 1 right
    → first ≡ old ++ power_text names (get_or front 0 d) → new ++ times_text names (drop k rest) ≡ first ++ times_text names rest → length rest ≤ k → new ≡ old ++ right_text names right
right_text-whole names [] front rest old first new d k l f r e h all = absurd (omega arith)
right_text-whole names (s ∷ right) front rest old first new d k l f r e h all =
    let one : power_text names (get_or front 0 d) ≡ power_text names s = ap (λ (x : List Syllable). power_text names (get_or x 0 d)) f in
    sym (append-nil new)
    ∙ ap (λ (x : List Syllable). new ++ times_text names x) (sym (drop_all k rest all))
    ∙ h
    ∙ ap (λ x. x ++ times_text names rest) e
    ∙ ap (λ x. (old ++ x) ++ times_text names rest) one
    ∙ ap (λ (x : List Syllable). (old ++ power_text names s) ++ times_text names x) r
    ∙ append_assoc old (power_text names s) (times_text names right)
