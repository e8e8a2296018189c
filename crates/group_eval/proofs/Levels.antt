-- A well-shaped expression has its generators from level 1 on.
--   c presentation with its table · n generators · e expression · x y one level of one
use Rattle.std.proofs.Common.{◌≡◌, ℕ, nat_le, Bool, true, ◌&&◌, List, [], ◌∷◌, length, map, refl, sym, ◌∙◌, subst}
use Rattle.std.specs.List.{list_all}
use Rattle.std.proofs.lemmas.Bool.{and_parts, and_from}
use Rattle.nil_word.specs.declared.expr.Expr.{Expr, Expr-F, fold-roll-Expr, ind-Expr, map-Expr, roll-Expr}
use Rattle.nil_word.specs.declared.expr.Expr.TheOpen as level
use Rattle.nil_word.specs.Expressions.{is_within, is_shaped_level, IsShaped}
use Rattle.hall_table.specs.Multiplies.{Paired}
use Rattle.group_eval.specs.Expressions.{is_from_level, IsFrom, IsExprOf}
use Rattle.group_eval.proofs.Evaluations.{is_shaped, is_from}

abbrev Known : ℕ → Type 0
Known n = (e : Expr) × (is_shaped n e ≡ true → is_from 1 e ≡ true)

abbrev known : (n : ℕ) → List (Known n) → List Expr
known n ys = map (λ e. e.0) ys

all_from : (n : ℕ) (ys : List (Known n))
    → list_all (λ b. b) (map (is_shaped n) (known n ys)) ≡ true
    → list_all (λ b. b) (map (is_from 1) (known n ys)) ≡ true
all_from n [] h = refl
all_from n (y ∷ ys) h =
    let rest = list_all (λ b. b) (map (is_shaped n) (known n ys)) in
    and_from (is_from 1 y.0) (list_all (λ b. b) (map (is_from 1) (known n ys)))
    (y.1 (and_parts (is_shaped n y.0) rest h).0) (all_from n ys (and_parts (is_shaped n y.0) rest h).1)

pair_from : (n : ℕ) (u v : Known n) → (is_shaped n u.0 && is_shaped n v.0) ≡ true
    → (is_from 1 u.0 && is_from 1 v.0) ≡ true
pair_from n u v h =
    let shaped = and_parts (is_shaped n u.0) (is_shaped n v.0) h in
    and_from (is_from 1 u.0) (is_from 1 v.0) (u.1 shaped.0) (v.1 shaped.1)

level_from : (n : ℕ) (y : Expr-F (Known n))
    → is_shaped_level n (map-Expr Expr Bool (is_shaped n) (map-Expr (Known n) Expr (λ e. e.0) y))
    ≡ true
    → is_from_level 1 (map-Expr Expr Bool (is_from 1) (map-Expr (Known n) Expr (λ e. e.0) y)) ≡ true
level_from n level.One h = refl
level_from n (level.Gen k) h = (and_parts (nat_le 1 k) (nat_le k n) h).0
level_from n (level.Product ys) h =
    all_from n ys
    (and_parts (nat_le 2 (length (map (is_shaped n) (known n ys)))) (list_all (λ b. b) (map (is_shaped n) (known n ys))) h).1
level_from n (level.Pow y z) h = y.1 (and_parts (is_shaped n y.0) (is_within z) h).0
level_from n (level.Conj u v) h = pair_from n u v h
level_from n (level.Comm u v) h = pair_from n u v h

rolled : (n : ℕ) (y : Expr-F (Known n))
    → is_shaped n (roll-Expr (map-Expr (Known n) Expr (λ e. e.0) y)) ≡ true
    → is_from 1 (roll-Expr (map-Expr (Known n) Expr (λ e. e.0) y)) ≡ true
rolled n y h =
    fold-roll-Expr Bool (is_from_level 1) (map-Expr (Known n) Expr (λ e. e.0) y)
    ∙ level_from n y
    (sym (fold-roll-Expr Bool (is_shaped_level n) (map-Expr (Known n) Expr (λ e. e.0) y)) ∙ h)

pub from_one : (n : ℕ) (e : Expr) → IsShaped n e → IsFrom 1 e
from_one n =
    ind-Expr (λ e. is_shaped n e ≡ true → is_from 1 e ≡ true)
    (λ x y is. subst (λ z. is_shaped n (roll-Expr z) ≡ true → is_from 1 (roll-Expr z) ≡ true) is
    (rolled n y))

-- at level 1 the shape of an expression is all that is asked
pub is_expr_of : (c : Paired) (e : Expr) → c.table.level ≡ 1 → IsShaped (length c.pres.names) e
    → IsExprOf c e
is_expr_of c e level h = record {
  shaped = h;
  level = subst (λ (i : ℕ). IsFrom i e) (sym level) (from_one (length c.pres.names) e h);
}
