-- The polynomial of trees: their terms as contributions, and what overflows.
--   IsOver e n t            a letter, whose leaves and whose own type are generators up to n
--   HasTypes n t            each leaf's type is a generator up to n
--   groups_over a ms        the groups of letters of an arena, the last one first
--   variable_of s k         the variable of a side and a type
--   exponent_for t v        the exponent of the variable v: how many numbers its leaves have in t
--   part_at v m            the part with the exponent m of a variable, none where it is 0
--   parts_below t v         the parts of the variables below v that are in t
--   monomial_of t           those of the x_k, then those of the y_k
--   term_of e t             the monomial of t with its constant
--   terms_of e ts           those of trees: the contributions to their polynomial
--   FactorOverflows e t g   of a group of m nodes of range c: m is above the limit, or a product in
--                           the row of c up to m overflows
--   SomeOverflows e t groups   one of the groups does
--   ConstantOverflows e t   a factor of t overflows
--   AnyOverflows e ts       that of some tree does
--   TreesOverflow e ts      so, or the contributions overflow before anything cancels
--   poly_of e level k       the polynomial of type k at a level
--   polys_of e level n      those of the n types from the level on
--   AnyPolyOverflows e level n   one of them overflows
-- e exponents · n count · t tree · ts trees · v variable · g group
use Rattle.std.specs.Prelude.{ℕ, zero, suc, reverse, ◌+◌, ◌-◌, ◌*◌, ◌<◌, ◌≤◌, ◌⊎◌, ◌==◌, nat_lt, List, [], ◌∷◌, ◌++◌, map, if◌then◌else◌}
use Rattle.binom_poly.specs.declared.part.Part.{Part}
use Rattle.binom_poly.specs.declared.term.Term.{Term}
use Rattle.binom_poly.specs.Variable.{side, x_of, y_of, exponent_limit}
use Rattle.nil_num.specs.Row.{RowOverflows}
use Rattle.binom_poly.specs.Times.{contribution}
use Rattle.binom_poly.specs.Weight.{DoOverflow}
use Rattle.binom_poly.specs.Collected.{collected}
use Rattle.dt_letters.specs.declared.side.Side.{Side}
use Rattle.dt_letters.specs.declared.side.Side.TheVariants as sides
use Rattle.dt_letters.specs.Letters.{Letter, leaf, node, kind_of, Group, leaves, nodes, group_of}
use Rattle.dt_letters.specs.declared.tree.Tree.{Tree}
use Rattle.dt_letters.specs.Arena.{Arena, letter_in}
use Rattle.dt_letters.specs.Allowed.{Exponents, IsLetter, IsFrom}
use Rattle.dt_letters.specs.Least.{greatest_in}
use Rattle.dt_letters.specs.Terms.{exponent_at, groups_in, constant}
use Rattle.dt_letters.specs.Listing.{trees}

pub record IsOver (e : Exponents) (n : ℕ) (t : Letter) : Type 0 where
  pub letter : IsLetter e t
  pub leaves : IsFrom 1 t
  pub kind : kind_of t ≤ n

abbrev pub HasTypes : ℕ → Letter → Type 0
HasTypes n (leaf s k i) = (1 ≤ k) × (k ≤ n)
HasTypes n (node l r k i) = HasTypes n l × HasTypes n r

abbrev pub groups_over : Arena → List Tree → List Group
groups_over a ms = reverse (map (λ m. group_of (letter_in a m)) ms)

abbrev pub variable_of : Side → ℕ → ℕ
variable_of sides.X k = x_of k
variable_of sides.Y k = y_of k

abbrev pub exponent_for : Letter → ℕ → ℕ
exponent_for t v =
    if nat_lt v side then exponent_at t sides.X v else exponent_at t sides.Y (v - side)

abbrev pub part_at : ℕ → ℕ → List Part
part_at v m = if m == 0 then [] else record { var = v; exp = m } ∷ []

unfoldable pub parts_below : Letter → ℕ → List Part
parts_below t zero = []
parts_below t (suc v) = parts_below t v ++ part_at v (exponent_for t v)

abbrev pub monomial_of : Letter → List Part
monomial_of t = parts_below t (2 * side)

abbrev pub term_of : Exponents → Letter → Term
term_of e t = contribution (monomial_of t) (constant e t)

abbrev pub terms_of : Exponents → List Letter → List Term
terms_of e ts = map (term_of e) ts

abbrev pub FactorOverflows : Exponents → Letter → Group → Type 0
FactorOverflows e t (leaves s k) = ⊥
FactorOverflows e t (nodes l r k) =
    (exponent_limit < greatest_in (nodes l r k) t)
    ⊎ RowOverflows (e (kind_of r) (kind_of l) k) (greatest_in (nodes l r k) t + 1)

abbrev pub SomeOverflows : Exponents → Letter → List Group → Type 0
SomeOverflows e t [] = ⊥
SomeOverflows e t (g ∷ groups) = FactorOverflows e t g ⊎ SomeOverflows e t groups

abbrev pub ConstantOverflows : Exponents → Letter → Type 0
ConstantOverflows e t = SomeOverflows e t (groups_in t)

abbrev pub AnyOverflows : Exponents → List Letter → Type 0
AnyOverflows e [] = ⊥
AnyOverflows e (t ∷ ts) = ConstantOverflows e t ⊎ AnyOverflows e ts

abbrev pub TreesOverflow : Exponents → List Letter → Type 0
TreesOverflow e ts = AnyOverflows e ts ⊎ DoOverflow (terms_of e ts)

abbrev pub poly_of : Exponents → ℕ → ℕ → List Term
poly_of e level k = collected (terms_of e (trees e level k))

unfoldable pub polys_of : Exponents → ℕ → ℕ → List (List Term)
polys_of e level zero = []
polys_of e level (suc n) = polys_of e level n ++ poly_of e level (level + n) ∷ []

abbrev pub AnyPolyOverflows : Exponents → ℕ → ℕ → Type 0
AnyPolyOverflows e level n =
    (i : ℕ) × (i < n) × TreesOverflow e (trees e level (level + i))
