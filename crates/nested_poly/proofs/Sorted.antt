-- Tails in another order: the same values, magnitudes and rows
use Rattle.std.proofs.Common.{◌≡◌, ℕ, ◌+◌, List, [], ◌∷◌, map, refl, sym, ap, ◌∙◌, subst}
use Rattle.std.specs.Prelude.{unsigned_abs, All, sum_by}
use Rattle.std.specs.List.Sorted.{IsPermutation}
use Rattle.std.proofs.lemmas.List.Elements.{All-nil, All-cons, All-head, All-tail}
use Rattle.std.proofs.lemmas.List.Sums.{sum_by-cons}
use Rattle.std.proofs.lemmas.List.Sorted.{IsPermutation-map, All-permutation, sum_by-IsPermutation}
use lib.IntN.{ℤ, ◌*ℤ◌}
use Rattle.binom_poly.specs.declared.term.Term.{Term}
use Rattle.binom_poly.specs.Polynomial.{monomial_value}
use Rattle.binom_poly.specs.Reading.{Reading}
use Rattle.binom_poly.specs.Readings.{magnitude_of, IsCoveredMonomial, IsCovered}
use Rattle.binom_poly.proofs.Sorting.{value_permuted}
use Rattle.nested_poly.specs.declared.tail.Tail.{Tail}
use Rattle.nested_poly.specs.Nodes.{IsNestOf}
use Rattle.nested_poly.specs.Tails.{tail_terms}

-- ---- the terms of tails, one by one
abbrev term_of : Tail → Term
term_of t = record { monomial = t.parts.now; coefficient = t.coefficient }

tail_terms-map : (ts : List Tail) → tail_terms ts ≡ map term_of ts
unfolding tail_terms
tail_terms-map [] = refl
tail_terms-map (t ∷ ts) = ap (λ xs. term_of t ∷ xs) (tail_terms-map ts)

terms-permuted : (ts us : List Tail) → IsPermutation ts us → IsPermutation (tail_terms ts) (tail_terms us)
terms-permuted ts us p =
    subst (λ xs. IsPermutation xs (tail_terms us)) (sym (tail_terms-map ts))
    (subst (IsPermutation (map term_of ts)) (sym (tail_terms-map us)) (IsPermutation-map term_of ts us p))

-- ---- the magnitude of terms as a sum, and their rows one by one
abbrev weight : (ℕ → ℤ) → Term → ℕ
weight a t = unsigned_abs (t.coefficient *ℤ monomial_value a t.monomial)

magnitude_of-sum : (a : ℕ → ℤ) (ts : List Term) → magnitude_of a ts ≡ sum_by (weight a) ts
unfolding magnitude_of
magnitude_of-sum a [] = refl
magnitude_of-sum a (t ∷ ts) = ap (λ n. weight a t + n) (magnitude_of-sum a ts) ∙ sym (sum_by-cons (weight a) t ts)

magnitude_permuted : (a : ℕ → ℤ) (ts us : List Term) → IsPermutation ts us → magnitude_of a us ≡ magnitude_of a ts
magnitude_permuted a ts us p =
    magnitude_of-sum a us ∙ sum_by-IsPermutation (weight a) ts us p ∙ sym (magnitude_of-sum a ts)

abbrev IsCoveredTerm : List Reading → Term → Type 0
IsCoveredTerm rows t = IsCoveredMonomial rows t.monomial

covered_each : (rows : List Reading) (ts : List Term) → IsCovered rows ts → All (IsCoveredTerm rows) ts
covered_each rows [] h = All-nil (IsCoveredTerm rows)
covered_each rows (t ∷ ts) h = All-cons (IsCoveredTerm rows) t ts h.0 (covered_each rows ts h.1)

covered_all : (rows : List Reading) (ts : List Term) → All (IsCoveredTerm rows) ts → IsCovered rows ts
covered_all rows [] h = tt
covered_all rows (t ∷ ts) h =
    (All-head (IsCoveredTerm rows) t ts h, covered_all rows ts (All-tail (IsCoveredTerm rows) t ts h))

covered_permuted : (rows : List Reading) (ts us : List Term) → IsPermutation ts us → IsCovered rows ts → IsCovered rows us
covered_permuted rows ts us p h =
    covered_all rows us (All-permutation (IsCoveredTerm rows) ts us p (covered_each rows ts h))

pub nest-permuted : (ts us : List Tail) (vs : List Term) → tail_terms ts ≡ vs → IsPermutation ts us → IsNestOf (tail_terms us) vs
nest-permuted ts us vs e p =
    let q : IsPermutation vs (tail_terms us) =
    subst (λ xs. IsPermutation xs (tail_terms us)) e (terms-permuted ts us p) in
    record {
      values = λ a. value_permuted a vs (tail_terms us) q;
      magnitudes = λ a. magnitude_permuted a vs (tail_terms us) q;
      covers = λ rows h. covered_permuted rows vs (tail_terms us) q h;
    }
