-- At level 1 the shape of an expression is all that is asked.
use Rattle.std.proofs.Common.{length, sym, subst}
use Rattle.nil_word.specs.Expressions.{IsShaped}
use Rattle.nil_word.specs.Queries.{IsShapedQuery}
use Rattle.group_eval.specs.Expressions.{IsFrom}
use Rattle.element_rows.proofs.evaluation.evaluate.Goals as goal

pub eval_expr-requires-clause-level : goal.eval_expr-requires-clause-level
eval_expr-requires-clause-level c =
    let n = length c.pres.result.now.names in
    let shaped : IsShaped n c.in-Value.expr = subst (IsShapedQuery n) c.in-Value.is c.in_ok-expr.ensures.shaped in
    subst (λ l. IsFrom l c.in-Value.expr) (sym c.requires.level) (c.first_level.ensures n c.in-Value.expr shaped)
