-- The polynomials x_g and x_g + y_g: their form, their values and their magnitudes.
--   g generator · v variable · a point
use Rattle.std.proofs.Common.{◌≡◌, ℕ, ◌+◌, ◌≤◌, [], ◌∷◌, refl, ap, arith}
use Rattle.std.specs.Prelude.{unsigned_abs}
use Rattle.std.specs.Ordering.{nat_cmp, ordering_then}
use Rattle.std.specs.declared.cmp.Ordering.{Ordering}
use Rattle.std.specs.declared.cmp.Ordering.TheVariants.{Less, Equal}
use Rattle.std.proofs.lemmas.Bool.{lt-ltb}
use Rattle.std.proofs.lemmas.Int.{ints}
use lib.IntN.{ℤ, pos, ◌+ℤ◌, ◌*ℤ◌}
use Rattle.binom_poly.specs.declared.term.Term.{Term}
use Rattle.binom_poly.specs.Collected.{var_terms}
use Rattle.binom_poly.specs.Dependence.{alone}
use Rattle.binom_poly.specs.Monomial.{degree, monomial_cmp}
use Rattle.binom_poly.specs.Polynomial.{monomial_value, value_of, IsPolynomial, IsPolynomialFrom}
use Rattle.binom_poly.specs.Readings.{magnitude_of}
use Rattle.binom_poly.specs.Variable.{y_of}
use Rattle.binom_poly.proofs.Canonical.{polynomial-var, value-var_terms}
use Rattle.hall_table.proofs.Widths.{x_variable, y_variable}

pub of_var : ℕ → Term
of_var v = record { monomial = alone v; coefficient = pos 1 }

x_before_y : (g : ℕ) → monomial_cmp (alone g) (alone (y_of g)) ≡ Less
unfolding degree
x_before_y g =
    let less : nat_cmp g (y_of g) ≡ Less = rw (lt-ltb g (y_of g) (omega arith)) refl in
    ap (λ (o : Ordering). ordering_then (ordering_then o Equal) Equal) less

pub IsPolynomial-one : (g : ℕ) → 1 ≤ g → g ≤ 48 → IsPolynomial (of_var g ∷ [])
unfolding of_var
IsPolynomial-one g low high = polynomial-var g (x_variable g low high) low

pub IsPolynomial-two : (g : ℕ) → 1 ≤ g → g ≤ 48 → IsPolynomial (of_var g ∷ of_var (y_of g) ∷ [])
unfolding of_var IsPolynomial IsPolynomialFrom
IsPolynomial-two g low high = (
  polynomial-var g (x_variable g low high) low,
  x_before_y g,
  polynomial-var (y_of g) (y_variable g low high) (omega arith),
)

pub value-one : (a : ℕ → ℤ) (g : ℕ) → value_of a (of_var g ∷ []) ≡ a g
unfolding of_var
value-one a g = value-var_terms a g

pub value-two : (a : ℕ → ℤ) (g : ℕ) → value_of a (of_var g ∷ of_var (y_of g) ∷ []) ≡ a g +ℤ a (y_of g)
unfolding of_var value_of
value-two a g =
    sum (pos 1 *ℤ monomial_value a (alone g)) (value_of a (var_terms (y_of g))) (a g) (a (y_of g)) (value-var_terms a g)
    (value-var_terms a (y_of g))
  where
    sum : (w u y z : ℤ) → w +ℤ pos 0 ≡ y → u ≡ z → w +ℤ u ≡ y +ℤ z
    sum w u y z e f = omega (arith, ints)

pub magnitude-one : (a : ℕ → ℤ) (g : ℕ) → magnitude_of a (of_var g ∷ []) ≡ unsigned_abs (a g)
unfolding of_var value_of magnitude_of
magnitude-one a g = own (pos 1 *ℤ monomial_value a (alone g)) (a g) (value-var_terms a g)
  where
    own : (w z : ℤ) → w +ℤ pos 0 ≡ z → unsigned_abs w + 0 ≡ unsigned_abs z
    own w z e = omega (arith, ints)

pub magnitude-two : (a : ℕ → ℤ) (g : ℕ)
    → magnitude_of a (of_var g ∷ of_var (y_of g) ∷ [])
    ≡ unsigned_abs (a g) + unsigned_abs (a (y_of g))
unfolding of_var value_of magnitude_of
magnitude-two a g =
    both (pos 1 *ℤ monomial_value a (alone g)) (pos 1 *ℤ monomial_value a (alone (y_of g))) (a g)
    (a (y_of g)) (value-var_terms a g) (value-var_terms a (y_of g))
  where
    both : (w u y z : ℤ) → w +ℤ pos 0 ≡ y → u +ℤ pos 0 ≡ z
        → unsigned_abs w + (unsigned_abs u + 0) ≡ unsigned_abs y + unsigned_abs z
    both w u y z e f = omega (arith, ints)
