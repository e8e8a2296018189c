-- The written order in which an expression is evaluated.
--   Evaluation             what an expression gives, and its generator where it is one alone
--   of_outcome r           the same for an expression that isn't a generator
--   joined t a rs          a times the items from left to right, each evaluated before its product
--   joined_all t rs        the first item, and then the others so; 0 where there is none
--   powered_of t g r e     the power of a generator g, or of what r gives where there is none
--   evaluated_level t      an expression by what its parts give
--   evaluated t e          the vector of an expression, or the first place that overflows 128 bits
--   is_from_level level    a test of an expression by what it says of the parts
--   IsFrom level e         each generator of the expression is at least the level
--   IsExprOf c e           e is a well-shaped expression of the presentation and the level of c
-- t table · e expression, or exponent in powered_of · a vector · r rs outcomes
-- c a presentation with its table
use Rattle.std.specs.Prelude.{◌≡◌, ℕ, nat_le, Bool, true, ◌&&◌, ℤ, List, [], ◌∷◌, length, map, pos, Ok, Option, Some, None}
use Rattle.std.specs.List.{list_all}
use Rattle.nil_word.specs.Expressions.{IsShaped}
use Rattle.nil_word.specs.declared.expr.Expr.{Expr, fold-Expr}
use Rattle.nil_word.specs.declared.expr.Expr.TheOpen.{Expr-F, One, Gen, Product, Pow, Conj, Comm}
use Rattle.hall_law.specs.Table.{zeros, single}
use Rattle.hall_table.specs.Tabled.{Tabled, last_of}
use Rattle.hall_table.specs.Multiplies.{Paired}
use Rattle.hall_table.specs.Order.{multiplied}
use Rattle.group_eval.specs.declared.pairing.Pairing.TheVariants.{Conjugate, Commutator}
use Rattle.group_eval.specs.Order.{Outcome, and_then, powered, both}

pub record Evaluation : Type 0 where
  pub generator : Option ℕ
  pub outcome : Outcome

abbrev pub of_outcome : Outcome → Evaluation
of_outcome r = record { generator = None; outcome = r }

abbrev pub joined : Tabled → List ℤ → List Outcome → Outcome
joined t a [] = Ok a
joined t a (r ∷ rs) = and_then r (λ b. and_then (multiplied t a b) (λ c. joined t c rs))

abbrev pub joined_all : Tabled → List Outcome → Outcome
joined_all t [] = Ok (zeros (last_of t))
joined_all t (r ∷ rs) = and_then r (λ a. joined t a rs)

-- a power of a generator takes no multiplication
abbrev pub powered_of : Tabled → Option ℕ → Outcome → ℤ → Outcome
powered_of t (Some k) r e = Ok (single (last_of t) k e)
powered_of t None r e = and_then r (λ a. powered t a e)

abbrev pub evaluated_level : Tabled → Expr-F Evaluation → Evaluation
evaluated_level t One = of_outcome (Ok (zeros (last_of t)))
evaluated_level t (Gen k) =
    record { generator = Some k; outcome = Ok (single (last_of t) k (pos 1)) }
evaluated_level t (Product items) = of_outcome (joined_all t (map (λ i. i.outcome) items))
evaluated_level t (Pow b e) = of_outcome (powered_of t b.generator b.outcome e)
evaluated_level t (Conj u v) = of_outcome (both t Conjugate u.outcome v.outcome)
evaluated_level t (Comm u v) = of_outcome (both t Commutator u.outcome v.outcome)

abbrev pub evaluated : Tabled → Expr → Outcome
evaluated t e = (fold-Expr Evaluation (evaluated_level t) e).outcome

abbrev pub is_from_level : ℕ → Expr-F Bool → Bool
is_from_level level One = true
is_from_level level (Gen k) = nat_le level k
is_from_level level (Product items) = list_all (λ b. b) items
is_from_level level (Pow b e) = b
is_from_level level (Conj u v) = u && v
is_from_level level (Comm u v) = u && v

abbrev pub IsFrom : ℕ → Expr → Type 0
IsFrom level e = fold-Expr Bool (is_from_level level) e ≡ true

pub record IsExprOf (c : Paired) (e : Expr) : Type 0 where
  pub shaped : IsShaped (length c.pres.names) e
  pub level : IsFrom c.table.level e
