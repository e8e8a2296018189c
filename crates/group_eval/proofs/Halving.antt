-- Powers by halves.
--   t table · a b h vectors · d e exponents · r outcome
use Rattle.std.proofs.Common.{◌≡◌, ◌≢◌, ℕ, zero, suc, ◌≤◌, ◌/◌, ◌%◌, ◌==◌, Bool, cond, List, ℤ, ap, ◌∙◌, arith}
use Rattle.std.specs.Prelude.{Ok}
use Rattle.std.proofs.lemmas.Bool.{eq-eqb, ne_eqb}
use Rattle.hall_law.specs.Table.{zeros}
use Rattle.hall_table.specs.Order.{multiplied}
use Rattle.hall_table.specs.Tabled.{Tabled, last_of}
use Rattle.group_eval.specs.Order.{Outcome, and_then, powered_in, squared_and}

halved : (d : ℕ) (t : Tabled) (a : List ℤ) (e : ℕ) → e ≢ 0 → e ≢ 1
    → powered_in (suc d) t a e ≡ and_then (powered_in d t a (e / 2)) (squared_and t a e)
halved d t a e h g =
    let rest = and_then (powered_in d t a (e / 2)) (squared_and t a e) in
    ap (λ (b : Bool). cond b (Ok (zeros (last_of t))) (cond (e == 1) (Ok a) rest)) (ne_eqb e 0 h)
    ∙ ap (λ (b : Bool). cond b (Ok a) rest) (ne_eqb e 1 g)

-- h is the half's power, and b its square
pub odd_power : (t : Tabled) (a h b : List ℤ) (e : ℕ) (r : Outcome)
    → ((d : ℕ) → e / 2 ≤ d → powered_in d t a (e / 2) ≡ Ok h) → e ≢ 0 → e ≢ 1
    → multiplied t h h ≡ Ok b → e % 2 ≡ 1 → multiplied t b a ≡ r
    → (d : ℕ) → e ≤ d → powered_in d t a e ≡ r
odd_power t a h b e r half ne_zero ne_one square odd product zero l = absurd (omega arith)
odd_power t a h b e r half ne_zero ne_one square odd product (suc d) l =
    halved d t a e ne_zero ne_one
    ∙ ap (λ (p : Outcome). and_then p (squared_and t a e)) (half d (omega arith))
    ∙ ap (λ (p : Outcome). and_then p (λ x. cond (e % 2 == 1) (multiplied t x a) (Ok x))) square
    ∙ ap (λ (o : Bool). cond o (multiplied t b a) (Ok b)) (eq-eqb (e % 2) 1 odd)
    ∙ product
