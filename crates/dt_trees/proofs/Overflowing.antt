-- The tests of what overflows decide it.
--   x y tests · e exponents · c exponent · m n k numbers · t tree · ts trees · g group · cs contributions
use Rattle.std.proofs.Common.{◌≡◌, ℕ, zero, suc, ◌+◌, ◌<◌, ◌≤◌, Bool, true, false, ◌||◌, nat_lt, cond, ℤ, List, [], ◌∷◌, refl, ap, subst, arith, ◌⊎◌, inl, inr}
use Rattle.std.specs.Prelude.{unsigned_abs}
use Rattle.std.specs.List.{list_any}
use Rattle.std.proofs.lemmas.Bool.{cases_Bool, false≢true, le-leb, leb-true}
use Rattle.nil_num.specs.Bound.{Overflows, overflows}
use Rattle.nil_num.specs.Row.{written_product, RowOverflows}
use Rattle.binom_poly.specs.declared.part.Part.{Part}
use Rattle.binom_poly.specs.declared.term.Term.{Term}
use Rattle.binom_poly.specs.Variable.{exponent_limit}
use Rattle.binom_poly.specs.Monomial.{same_parts, same_parts_is}
use Rattle.binom_poly.specs.Weight.{weight, IsWide, HasLargePart, HasLargeExponent, DoOverflow}
use Rattle.dt_letters.specs.Letters.{Letter, kind_of, Group, leaves, nodes}
use Rattle.dt_letters.specs.Allowed.{Exponents}
use Rattle.dt_letters.specs.Least.{greatest_in}
use Rattle.dt_letters.specs.Listing.{trees}
use Rattle.dt_letters.specs.Terms.{groups_in}
use Rattle.dt_trees.specs.Polynomials.{terms_of, FactorOverflows, SomeOverflows, AnyOverflows, TreesOverflow, AnyPolyOverflows}
use Rattle.dt_trees.specs.Overflowing.{product_overflows, factor_overflows, constant_overflows, is_large, has_large_part, has_large_exponent, is_wide, do_overflow, trees_overflow, any_poly_overflows, TestsOverflow}

-- ---- one of two tests
either : (x y : Bool) → (x || y) ≡ true → (x ≡ true) ⊎ (y ≡ true)
either true y h = inl refl
either false y h = inr h

first : (x y : Bool) → x ≡ true → (x || y) ≡ true
first x y h = ap (λ (b : Bool). b || y) h

second : (x y : Bool) → y ≡ true → (x || y) ≡ true
second true y h = refl
second false y h = h

below_of_test : (m n : ℕ) → nat_lt m n ≡ true → m < n
below_of_test m n h = grind (arith, h)

test_of_below : (m n : ℕ) → m < n → nat_lt m n ≡ true
test_of_below m n h = grind (arith, h)

same_or_less : (i j : ℕ) → i ≤ j → (i ≡ j) ⊎ (i < j)
same_or_less i j l = grind (arith, l)

-- ---- factors
product_of_test : (c : ℤ) (m : ℕ) → product_overflows c m ≡ true → RowOverflows c (m + 1)
product_of_test c zero h = absurd (false≢true h)
product_of_test c (suc m) h =
    elim (either (overflows (unsigned_abs (written_product c m))) (product_overflows c m) h) [
      | inl p ↦ (m, omega arith, leb-true _ (unsigned_abs (written_product c m)) p)
      | inr p ↦ (let (k, low, q) = product_of_test c m p in (k, omega (arith, low), q))
    ]

test_of_product : (c : ℤ) (m k : ℕ) → k < m → Overflows (unsigned_abs (written_product c k))
    → product_overflows c m ≡ true
test_of_product c zero k low h = absurd (omega (arith, low))
test_of_product c (suc m) k low h =
    elim (same_or_less k m (omega (arith, low))) [
      | inl same ↦
          first (overflows (unsigned_abs (written_product c m))) (product_overflows c m)
          (le-leb _ (unsigned_abs (written_product c m))
          (subst (λ (j : ℕ). Overflows (unsigned_abs (written_product c j))) same h))
      | inr less ↦
          second (overflows (unsigned_abs (written_product c m))) (product_overflows c m)
          (test_of_product c m k less h)
    ]

factor_of_test : (e : Exponents) (t : Letter) (g : Group) → factor_overflows e t g ≡ true
    → FactorOverflows e t g
factor_of_test e t (leaves s k) h = absurd (false≢true h)
factor_of_test e t (nodes l r k) h =
    let m = greatest_in (nodes l r k) t in
    let c = e (kind_of r) (kind_of l) k in
    elim (either (nat_lt exponent_limit m) (product_overflows c m) h) [
      | inl p ↦ inl (below_of_test exponent_limit m p)
      | inr p ↦ inr (product_of_test c m p)
    ]

test_of_factor : (e : Exponents) (t : Letter) (g : Group) → FactorOverflows e t g
    → factor_overflows e t g ≡ true
test_of_factor e t (leaves s k) h = absurd h
test_of_factor e t (nodes l r k) h =
    let m = greatest_in (nodes l r k) t in
    let c = e (kind_of r) (kind_of l) k in
    elim h [
      | inl p ↦ first (nat_lt exponent_limit m) (product_overflows c m) (test_of_below exponent_limit m p)
      | inr p ↦
          second (nat_lt exponent_limit m) (product_overflows c m)
          (test_of_product c m p.0 (omega (arith, p.1)) p.2)
    ]

some_of_test : (e : Exponents) (t : Letter) (gs : List Group)
    → list_any (factor_overflows e t) gs ≡ true → SomeOverflows e t gs
some_of_test e t [] h = absurd (false≢true h)
some_of_test e t (g ∷ gs) h =
    elim (either (factor_overflows e t g) (list_any (factor_overflows e t) gs) h) [
      | inl p ↦ inl (factor_of_test e t g p)
      | inr p ↦ inr (some_of_test e t gs p)
    ]

test_of_some : (e : Exponents) (t : Letter) (gs : List Group) → SomeOverflows e t gs
    → list_any (factor_overflows e t) gs ≡ true
test_of_some e t [] h = absurd h
test_of_some e t (g ∷ gs) h =
    let rest = list_any (factor_overflows e t) gs in
    elim h [
      | inl p ↦ first (factor_overflows e t g) rest (test_of_factor e t g p)
      | inr p ↦ second (factor_overflows e t g) rest (test_of_some e t gs p)
    ]

any_of_test : (e : Exponents) (ts : List Letter) → list_any (constant_overflows e) ts ≡ true
    → AnyOverflows e ts
any_of_test e [] h = absurd (false≢true h)
any_of_test e (t ∷ ts) h =
    elim (either (constant_overflows e t) (list_any (constant_overflows e) ts) h) [
      | inl p ↦ inl (some_of_test e t (groups_in t) p)
      | inr p ↦ inr (any_of_test e ts p)
    ]

test_of_any : (e : Exponents) (ts : List Letter) → AnyOverflows e ts
    → list_any (constant_overflows e) ts ≡ true
test_of_any e [] h = absurd h
test_of_any e (t ∷ ts) h =
    let rest = list_any (constant_overflows e) ts in
    elim h [
      | inl p ↦ first (constant_overflows e t) rest (test_of_some e t (groups_in t) p)
      | inr p ↦ second (constant_overflows e t) rest (test_of_any e ts p)
    ]

-- ---- contributions
part_of_test : (ps : List Part) → list_any is_large ps ≡ true → HasLargePart ps
part_of_test [] h = absurd (false≢true h)
part_of_test (p ∷ ps) h =
    elim (either (is_large p) (list_any is_large ps) h) [
      | inl q ↦ inl (below_of_test exponent_limit p.exp q)
      | inr q ↦ inr (part_of_test ps q)
    ]

test_of_part : (ps : List Part) → HasLargePart ps → list_any is_large ps ≡ true
test_of_part [] h = absurd h
test_of_part (p ∷ ps) h =
    elim h [
      | inl q ↦ first (is_large p) (list_any is_large ps) (test_of_below exponent_limit p.exp q)
      | inr q ↦ second (is_large p) (list_any is_large ps) (test_of_part ps q)
    ]

exponent_of_test : (cs : List Term) → has_large_exponent cs ≡ true → HasLargeExponent cs
exponent_of_test [] h = absurd (false≢true h)
exponent_of_test (c ∷ cs) h =
    elim (either (has_large_part c) (has_large_exponent cs) h) [
      | inl p ↦ inl (part_of_test c.monomial p)
      | inr p ↦ inr (exponent_of_test cs p)
    ]

test_of_exponent : (cs : List Term) → HasLargeExponent cs → has_large_exponent cs ≡ true
test_of_exponent [] h = absurd h
test_of_exponent (c ∷ cs) h =
    elim h [
      | inl p ↦ first (has_large_part c) (has_large_exponent cs) (test_of_part c.monomial p)
      | inr p ↦ second (has_large_part c) (has_large_exponent cs) (test_of_exponent cs p)
    ]

wide_of_test : (all cs : List Term) → list_any (λ c. overflows (weight c.monomial all)) cs ≡ true
    → IsWide all
wide_of_test all [] h = absurd (false≢true h)
wide_of_test all (c ∷ cs) h =
    elim (either (overflows (weight c.monomial all))
    (list_any (λ d. overflows (weight d.monomial all)) cs) h) [
      | inl p ↦ (c.monomial, leb-true _ (weight c.monomial all) p)
      | inr p ↦ wide_of_test all cs p
    ]

-- a monomial that has weight is that of some contribution
test_of_wide : (ms : List Part) (all cs : List Term) → 1 ≤ weight ms cs
    → Overflows (weight ms all) → list_any (λ c. overflows (weight c.monomial all)) cs ≡ true
unfolding weight
test_of_wide ms all [] some h = absurd (omega (arith, some))
test_of_wide ms all (c ∷ cs) some h =
    let rest = list_any (λ d. overflows (weight d.monomial all)) cs in
    elim (cases_Bool (same_parts ms c.monomial)) [
      | inl p ↦
          first (overflows (weight c.monomial all)) rest
          (subst (λ (ns : List Part). overflows (weight ns all) ≡ true) ((same_parts_is ms c.monomial).0 p)
          (le-leb _ (weight ms all) h))
      | inr p ↦
          (let more : 1 ≤ weight ms cs = omega (
            arith,
            subst (λ (b : Bool).
                1 ≤ cond b (unsigned_abs c.coefficient) 0 + weight ms cs) p some,
          ) in
          second (overflows (weight c.monomial all)) rest (test_of_wide ms all cs more h))
    ]

do_of_test : (cs : List Term) → do_overflow cs ≡ true → DoOverflow cs
do_of_test cs h =
    elim (either (has_large_exponent cs) (is_wide cs) h) [
      | inl p ↦ inl (exponent_of_test cs p)
      | inr p ↦ inr (wide_of_test cs cs p)
    ]

test_of_do : (cs : List Term) → DoOverflow cs → do_overflow cs ≡ true
test_of_do cs h =
    elim h [
      | inl p ↦ first (has_large_exponent cs) (is_wide cs) (test_of_exponent cs p)
      | inr p ↦
          second (has_large_exponent cs) (is_wide cs)
          (test_of_wide p.0 cs cs (positive (weight p.0 cs) p.1) p.1)
    ]
  where
    positive : (n : ℕ) → Overflows n → 1 ≤ n
    positive n h = omega (arith, h)

-- ---- trees
trees_of_test : (e : Exponents) (ts : List Letter) → trees_overflow e ts ≡ true → TreesOverflow e ts
trees_of_test e ts h =
    elim (either (list_any (constant_overflows e) ts) (do_overflow (terms_of e ts)) h) [
      | inl p ↦ inl (any_of_test e ts p)
      | inr p ↦ inr (do_of_test (terms_of e ts) p)
    ]

test_of_trees : (e : Exponents) (ts : List Letter) → TreesOverflow e ts → trees_overflow e ts ≡ true
test_of_trees e ts h =
    let constants = list_any (constant_overflows e) ts in
    let sums = do_overflow (terms_of e ts) in
    elim h [
      | inl p ↦ first constants sums (test_of_any e ts p)
      | inr p ↦ second constants sums (test_of_do (terms_of e ts) p)
    ]

level_of_test : (e : Exponents) (level n : ℕ) → any_poly_overflows e level n ≡ true
    → AnyPolyOverflows e level n
level_of_test e level zero h = absurd (false≢true h)
level_of_test e level (suc n) h =
    elim (either (trees_overflow e (trees e level (level + n))) (any_poly_overflows e level n) h) [
      | inl p ↦ (n, omega arith, trees_of_test e (trees e level (level + n)) p)
      | inr p ↦ (let (i, low, q) = level_of_test e level n p in (i, omega (arith, low), q))
    ]

test_of_level : (e : Exponents) (level n i : ℕ) → i < n
    → TreesOverflow e (trees e level (level + i)) → any_poly_overflows e level n ≡ true
test_of_level e level zero i low h = absurd (omega (arith, low))
test_of_level e level (suc n) i low h =
    let here = trees_overflow e (trees e level (level + n)) in
    elim (same_or_less i n (omega (arith, low))) [
      | inl same ↦
          first here (any_poly_overflows e level n) (test_of_trees e (trees e level (level + n))
          (subst (λ (j : ℕ). TreesOverflow e (trees e level (level + j))) same h))
      | inr less ↦ second here (any_poly_overflows e level n) (test_of_level e level n i less h)
    ]

pub tests_overflow : TestsOverflow
tests_overflow = record {
  list = λ e ts. (trees_of_test e ts, test_of_trees e ts);
  types = λ e level n.
      (level_of_test e level n, λ h. test_of_level e level n h.0 h.1 h.2);
}
