-- What is multiplied on stays among the vectors of the level.
--   c presentation with its table · e expression · a b v vectors
use Rattle.std.proofs.Common.{◌≡◌, ℤ, List, Ok, subst}
use Rattle.hall_table.specs.Multiplies.{Paired, IsChecked}
use Rattle.hall_table.specs.Order.{multiplied}
use Rattle.nil_word.specs.declared.expr.Expr.{Expr}
use Rattle.group_eval.specs.ByValues.{IsIn}
use Rattle.group_eval.specs.Expressions.{evaluated, IsExprOf}
use Rattle.group_eval.specs.Laws.{EvaluatedIs}
use Rattle.group_eval.specs.Order.{and_then}
use Rattle.group_eval.proofs.Outcomes.{and_then_ok, multiplied_ok}

pub IsIn-evaluated : (c : Paired) (e : Expr) (v : List ℤ) → EvaluatedIs c → IsExprOf c e
    → evaluated c.table e ≡ Ok v → IsIn c v
IsIn-evaluated c e v law h is = (law e v h.shaped h.level is).vector

pub IsIn-joined : (c : Paired) (e : Expr) (a v : List ℤ) → IsChecked c → EvaluatedIs c → IsExprOf c e
    → IsIn c a → and_then (evaluated c.table e) (multiplied c.table a) ≡ Ok v → IsIn c v
IsIn-joined c e a v checked law h ha is =
    let (b, first, then) = and_then_ok (evaluated c.table e) (multiplied c.table a) v is in
    subst (IsIn c) (multiplied_ok c.table a b v then)
    (checked.multiplies.closed a b ha (IsIn-evaluated c e b law h first))
