-- What the written order of a well-shaped expression gives has an entry for each generator, within
-- 128 bits.
--   t table · n generators · e es expressions · x y one level of one · z exponent · g generator
--   p pairing
use Rattle.std.proofs.Common.{◌≡◌, ℕ, nat_le, Bool, true, ◌&&◌, ℤ, pos, negsuc, Option, Some, None, Ok, List, [], ◌∷◌, length, map, sym, ◌∙◌, subst, arith}
use Rattle.std.specs.List.{list_all}
use Rattle.std.proofs.lemmas.Bool.Decides.{nat_tests}
use Rattle.std.proofs.lemmas.Bool.{and_parts}
use Rattle.nil_num.specs.Bound.{IsNumber}
use Rattle.nil_word.specs.declared.expr.Expr.{Expr, Expr-F, fold-roll-Expr, ind-Expr, map-Expr, roll-Expr}
use Rattle.nil_word.specs.declared.expr.Expr.TheOpen as level
use Rattle.nil_word.specs.Expressions.{is_within, is_shaped_level, IsShaped}
use Rattle.hall_law.specs.Table.{zeros, single}
use Rattle.hall_table.specs.Tabled.{Tabled, last_of}
use Rattle.hall_table.specs.Order.{multiplied}
use Rattle.group_eval.specs.declared.pairing.Pairing.{Pairing}
use Rattle.group_eval.specs.declared.pairing.Pairing.TheVariants.{Conjugate, Commutator}
use Rattle.group_eval.specs.Order.{Outcome, and_then, powered, both}
use Rattle.group_eval.specs.Expressions.{Evaluation, joined, joined_all, powered_of, evaluated_level, evaluated}
use Rattle.group_eval.proofs.Evaluations.{evaluation, is_shaped, outcomes}
use Rattle.group_eval.proofs.Narrow.{Narrow, narrow_ok, narrow_then, IsNarrow-zeros, IsNarrow-single, narrow_multiplied, narrow_powered, narrow_both}

abbrev HasNarrow : ℕ → Tabled → Expr → Type 0
HasNarrow n t e = is_shaped n e ≡ true → Narrow t (evaluation t e).outcome

abbrev Known : ℕ → Tabled → Type 0
Known n t = (e : Expr) × HasNarrow n t e

abbrev known : (n : ℕ) (t : Tabled) → List (Known n t) → List Expr
known n t ys = map (λ e. e.0) ys

abbrev AllNarrow : Tabled → List Expr → Type 0
AllNarrow t [] = Unit {0}
AllNarrow t (e ∷ es) = Narrow t (evaluation t e).outcome × AllNarrow t es

all_narrow : (n : ℕ) (t : Tabled) (ys : List (Known n t))
    → list_all (λ b. b) (map (is_shaped n) (known n t ys)) ≡ true → AllNarrow t (known n t ys)
all_narrow n t [] h = tt
all_narrow n t (y ∷ ys) h =
    let shaped = and_parts (is_shaped n y.0)
    (list_all (λ b. b) (map (is_shaped n) (known n t ys))) h in
    (y.1 shaped.0, all_narrow n t ys shaped.1)

narrow_joined : (t : Tabled) (es : List Expr) → AllNarrow t es → (a : List ℤ) → Narrow t (Ok a)
    → Narrow t (joined t a (outcomes t es))
narrow_joined t [] h a k = k
narrow_joined t (e ∷ es) h a k =
    narrow_then t (evaluation t e).outcome
    (λ b. and_then (multiplied t a b) (λ c. joined t c (outcomes t es))) h.0
    (λ b _. narrow_then t (multiplied t a b) (λ c. joined t c (outcomes t es))
    (narrow_multiplied t a b)
    (λ c m. narrow_joined t es h.1 c (narrow_ok t c m)))

narrow_product : (t : Tabled) (es : List Expr) → AllNarrow t es
    → Narrow t (joined_all t (outcomes t es))
narrow_product t [] h = narrow_ok t (zeros (last_of t)) (IsNarrow-zeros t)
narrow_product t (e ∷ es) h =
    narrow_then t (evaluation t e).outcome (λ a. joined t a (outcomes t es)) h.0
    (λ a m. narrow_joined t es h.1 a (narrow_ok t a m))

abs-within : (z : ℤ) → is_within z ≡ true → IsNumber z
abs-within (pos n) h = grind (arith, nat_tests)
abs-within (negsuc n) h = grind (arith, nat_tests)

narrow_powered_of : (t : Tabled) (g : Option ℕ) (r : Outcome) (z : ℤ) → IsNumber z
    → Narrow t r → Narrow t (powered_of t g r z)
narrow_powered_of t (Some k) r z h s =
    narrow_ok t (single (last_of t) k z) (IsNarrow-single t k z h)
narrow_powered_of t None r z h s =
    narrow_then t r (λ a. powered t a z) s (λ a m. narrow_powered t a z m)

narrow_pair : (n : ℕ) (t : Tabled) (p : Pairing) (u v : Known n t)
    → (is_shaped n u.0 && is_shaped n v.0) ≡ true
    → Narrow t (both t p (evaluation t u.0).outcome (evaluation t v.0).outcome)
narrow_pair n t p u v h =
    let shaped = and_parts (is_shaped n u.0) (is_shaped n v.0) h in
    narrow_both t p (evaluation t u.0).outcome (evaluation t v.0).outcome (u.1 shaped.0)
    (v.1 shaped.1)

level_narrow : (n : ℕ) (t : Tabled) (y : Expr-F (Known n t))
    → is_shaped_level n
    (map-Expr Expr Bool (is_shaped n) (map-Expr (Known n t) Expr (λ e. e.0) y)) ≡ true
    → Narrow t (evaluated_level t
    (map-Expr Expr Evaluation (evaluation t) (map-Expr (Known n t) Expr (λ e. e.0) y))).outcome
level_narrow n t level.One h = narrow_ok t (zeros (last_of t)) (IsNarrow-zeros t)
level_narrow n t (level.Gen k) h =
    narrow_ok t (single (last_of t) k (pos 1)) (IsNarrow-single t k (pos 1) (omega arith))
level_narrow n t (level.Product ys) h =
    narrow_product t (known n t ys)
    (all_narrow n t ys
    (and_parts (nat_le 2 (length (map (is_shaped n) (known n t ys)))) (list_all (λ b. b) (map (is_shaped n) (known n t ys))) h).1)
level_narrow n t (level.Pow y z) h =
    narrow_powered_of t (evaluation t y.0).generator (evaluation t y.0).outcome z
    (abs-within z (and_parts (is_shaped n y.0) (is_within z) h).1)
    (y.1 (and_parts (is_shaped n y.0) (is_within z) h).0)
level_narrow n t (level.Conj u v) h = narrow_pair n t Conjugate u v h
level_narrow n t (level.Comm u v) h = narrow_pair n t Commutator u v h

rolled : (n : ℕ) (t : Tabled) (y : Expr-F (Known n t))
    → HasNarrow n t (roll-Expr (map-Expr (Known n t) Expr (λ e. e.0) y))
rolled n t y h =
    let x = map-Expr (Known n t) Expr (λ e. e.0) y in
    subst (λ (v : Evaluation). Narrow t v.outcome)
    (sym (fold-roll-Expr Evaluation (evaluated_level t) x))
    (level_narrow n t y (sym (fold-roll-Expr Bool (is_shaped_level n) x) ∙ h))

pub narrow_evaluated : (n : ℕ) (t : Tabled) (e : Expr) → IsShaped n e → Narrow t (evaluated t e)
narrow_evaluated n t =
    ind-Expr (HasNarrow n t) (λ x y is. subst (λ z. HasNarrow n t (roll-Expr z)) is (rolled n t y))
