-- The terms that nodes denote, each node before those below it.
--   under p ts            each term of ts with the part p before its own
--   own_term n            the constant that a node adds to the terms below it
--   branch_terms n ts     a node's terms, where those below it have the terms ts
--   terms_within k ns     the terms of nodes, of which there are at most k: one for each node, whose
--                         coefficient may be 0
--   terms_of ns           the same, however many there are
--   constant_term c       the constant c as a term
--   nested_terms c ns     that term and those of the nodes
--   IsForestWithin k ns, IsForest ns
--                         no node counts more nodes below it than there are
--   IsWeighed w           the value is within the magnitude, and that within the greatest number
--   Weighs a ts result    the value of the terms at a and their magnitude; refused exactly where the
--                         latter overflows
--   IsNestOf n p          the terms n have the values, the magnitudes and the rows of p
-- p part · c coefficient · t term · ts terms · n node · ns nodes · k count · a point
use Rattle.std.specs.Prelude.{◌≡◌, ◌≤◌, ℕ, List, [], ◌∷◌, ◌++◌, ℤ, length, Result, MatchResult, unsigned_abs}
use Rattle.std.proofs.Common.{zero, suc, take, drop}
use Rattle.nil_num.specs.Bound.{Fits, Overflows}
use Rattle.binom_poly.specs.declared.part.Part.{Part}
use Rattle.binom_poly.specs.declared.term.Term.{Term}
use Rattle.binom_poly.specs.declared.fault.Wide.{Wide}
use Rattle.binom_poly.specs.Polynomial.{value_of}
use Rattle.binom_poly.specs.Reading.{Reading}
use Rattle.binom_poly.specs.Readings.{magnitude_of, IsCovered}
use Rattle.nested_poly.specs.declared.node.Node.{Node}
use Rattle.nested_poly.specs.declared.weighed.Weighed.{Weighed}

unfoldable pub under : Part → List Term → List Term
under p [] = []
under p (t ∷ ts) =
    record { monomial = p ∷ t.monomial; coefficient = t.coefficient } ∷ under p ts

abbrev pub own_term : Node → Term
own_term n = record { monomial = []; coefficient = n.coefficient }

abbrev pub branch_terms : Node → List Term → List Term
branch_terms n ts = under n.part (own_term n ∷ ts)

unfoldable pub terms_within : ℕ → List Node → List Term
terms_within zero ns = []
terms_within (suc k) [] = []
terms_within (suc k) (n ∷ ns) =
    branch_terms n (terms_within k (take n.below ns)) ++ terms_within k (drop n.below ns)

abbrev pub terms_of : List Node → List Term
terms_of ns = terms_within (length ns) ns

abbrev pub constant_term : ℤ → Term
constant_term c = record { monomial = []; coefficient = c }

abbrev pub nested_terms : ℤ → List Node → List Term
nested_terms c ns = constant_term c ∷ terms_of ns

unfoldable pub IsForestWithin : ℕ → List Node → Type 0
IsForestWithin zero ns = Unit {0}
IsForestWithin (suc k) [] = Unit {0}
IsForestWithin (suc k) (n ∷ ns) =
    (n.below ≤ length ns) × IsForestWithin k (take n.below ns) × IsForestWithin k (drop n.below ns)

abbrev pub IsForest : List Node → Type 0
IsForest ns = IsForestWithin (length ns) ns

pub record IsWeighed (w : Weighed) : Type 0 where
  pub bounded : unsigned_abs w.value ≤ w.magnitude
  pub within : Fits w.magnitude

abbrev pub Weighs : (ℕ → ℤ) → List Term → Result Weighed Wide → Type 0
Weighs a ts result =
    MatchResult result
    (λ w. (w.value ≡ value_of a ts) × (w.magnitude ≡ magnitude_of a ts) × IsWeighed w)
    (λ _. Overflows (magnitude_of a ts))

pub record IsNestOf (n p : List Term) : Type 0 where
  pub values : (a : ℕ → ℤ) → value_of a n ≡ value_of a p
  pub magnitudes : (a : ℕ → ℤ) → magnitude_of a n ≡ magnitude_of a p
  pub covers : (rows : List Reading) → IsCovered rows p → IsCovered rows n
