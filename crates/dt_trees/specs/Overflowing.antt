-- The tests of what overflows.
--   product_overflows c m      a product in the row of c up to m overflows
--   factor_overflows e t g     a factor of t overflows
--   constant_overflows e t     one of its factors does
--   is_large, has_large_part, has_large_exponent   an exponent is above the limit
--   is_wide cs                 for some monomial the magnitudes of the contributions overflow
--   do_overflow cs             one of the two
--   trees_overflow e ts        a constant overflows, or the contributions do
--   any_poly_overflows e level n   one of the n polynomials from the level on does
--   TestsOverflow              the tests decide it
-- e exponents · c exponent · m number · t tree · ts trees · g group · p part · cs contributions
use Rattle.std.specs.Prelude.{◌≡◌, ◌↔◌, ℕ, zero, suc, ◌+◌, Bool, true, false, ◌||◌, nat_lt, ℤ, unsigned_abs, List}
use Rattle.std.specs.List.{list_any}
use Rattle.nil_num.specs.Bound.{overflows}
use Rattle.nil_num.specs.Row.{written_product}
use Rattle.binom_poly.specs.declared.part.Part.{Part}
use Rattle.binom_poly.specs.declared.term.Term.{Term}
use Rattle.binom_poly.specs.Variable.{exponent_limit}
use Rattle.binom_poly.specs.Weight.{weight}
use Rattle.dt_letters.specs.Letters.{Letter, kind_of, Group, leaves, nodes}
use Rattle.dt_letters.specs.Allowed.{Exponents}
use Rattle.dt_letters.specs.Least.{greatest_in}
use Rattle.dt_letters.specs.Listing.{trees}
use Rattle.dt_letters.specs.Terms.{groups_in}
use Rattle.dt_trees.specs.Polynomials.{terms_of, TreesOverflow, AnyPolyOverflows}

abbrev pub product_overflows : ℤ → ℕ → Bool
product_overflows c zero = false
product_overflows c (suc m) =
    overflows (unsigned_abs (written_product c m)) || product_overflows c m

abbrev pub factor_overflows : Exponents → Letter → Group → Bool
factor_overflows e t (leaves s k) = false
factor_overflows e t (nodes l r k) =
    nat_lt exponent_limit (greatest_in (nodes l r k) t)
    || product_overflows (e (kind_of r) (kind_of l) k) (greatest_in (nodes l r k) t)

abbrev pub constant_overflows : Exponents → Letter → Bool
constant_overflows e t = list_any (factor_overflows e t) (groups_in t)

abbrev pub is_large : Part → Bool
is_large p = nat_lt exponent_limit p.exp

abbrev pub has_large_part : Term → Bool
has_large_part c = list_any is_large c.monomial

abbrev pub has_large_exponent : List Term → Bool
has_large_exponent cs = list_any has_large_part cs

abbrev pub is_wide : List Term → Bool
is_wide cs = list_any (λ c. overflows (weight c.monomial cs)) cs

abbrev pub do_overflow : List Term → Bool
do_overflow cs = has_large_exponent cs || is_wide cs

abbrev pub trees_overflow : Exponents → List Letter → Bool
trees_overflow e ts = list_any (constant_overflows e) ts || do_overflow (terms_of e ts)

abbrev pub any_poly_overflows : Exponents → ℕ → ℕ → Bool
any_poly_overflows e level zero = false
any_poly_overflows e level (suc n) =
    trees_overflow e (trees e level (level + n)) || any_poly_overflows e level n

pub record TestsOverflow : Type 0 where
  pub list : (e : Exponents) (ts : List Letter)
      → (trees_overflow e ts ≡ true) ↔ TreesOverflow e ts
  pub types : (e : Exponents) (level n : ℕ)
      → (any_poly_overflows e level n ≡ true) ↔ AnyPolyOverflows e level n
