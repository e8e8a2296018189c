-- Products, and what is made of them and of solutions.
--   t table, and s as the code has it · a b c u v vectors · unit the vector of zeros · r outcome
use Rattle.std.proofs.Common.{◌≡◌, cond, List, length, ℤ, pos, sym, ap, ◌∙◌, subst}
use Rattle.std.specs.Prelude.{Result, Ok, Err, OnOk, OnErr}
use lib.Dec.{ltb}
use Rattle.binom_poly.specs.Polynomial.{value_of}
use Rattle.hall_law.specs.Table.{zeros}
use Rattle.hall_law.proofs.Entries.{length-map_numbers}
use Rattle.hall_table.specs.Order.{multiplied}
use Rattle.hall_table.specs.Tabled.{Tabled, last_of, poly_at}
use Rattle.hall_table.specs.Values.{point_of, values}
use Rattle.group_eval.specs.Order.{Outcome, and_then, solved, divided, commuted, conjugated}

pub length-written : {T E : Type 0} (r : Result T E) (t : Tabled) (a b before now : List ℤ)
    → OnOk r (now ≡ values t a b) → OnErr r (now ≡ before) → length before ≡ last_of t
    → length now ≡ last_of t
length-written (Ok x) t a b before now h g l =
    ap length h
    ∙ length-map_numbers (last_of t)
    (λ k. cond (ltb k t.level) (pos 0) (value_of (point_of a b) (poly_at t k)))
length-written (Err e) t a b before now h g l = ap length g ∙ l

-- ---- what is made of products and solutions
pub divided-from : (t s : Tabled) (a b c unit : List ℤ) (r : Outcome) → s ≡ t
    → unit ≡ zeros (last_of t) → solved s b unit ≡ Ok c → multiplied s a c ≡ r → divided t a b ≡ r
divided-from t s a b c unit r e z f g =
    ap (λ (p : Outcome). and_then p (λ x. multiplied t a x))
    (ap (solved t b) (sym z) ∙ ap (λ (w : Tabled). solved w b unit) (sym e) ∙ f)
    ∙ ap (λ (w : Tabled). multiplied w a c) (sym e) ∙ g

pub commuted-from : (t s : Tabled) (u v a b : List ℤ) (r : Outcome) → s ≡ t
    → multiplied s v u ≡ Ok a → multiplied s u v ≡ Ok b → solved s a b ≡ r → commuted t u v ≡ r
commuted-from t s u v a b r e f g h =
    subst (λ (w : Tabled). commuted w u v ≡ r) e
    (ap (λ (p : Outcome). and_then p (λ x. and_then (multiplied s u v) (solved s x))) f
    ∙ ap (λ (p : Outcome). and_then p (solved s a)) g ∙ h)

pub conjugated-from : (t s : Tabled) (u v a : List ℤ) (r : Outcome) → s ≡ t
    → multiplied s u v ≡ Ok a → solved s v a ≡ r → conjugated t u v ≡ r
conjugated-from t s u v a r e f g =
    subst (λ (w : Tabled). conjugated w u v ≡ r) e
    (ap (λ (p : Outcome). and_then p (solved s v)) f ∙ g)
