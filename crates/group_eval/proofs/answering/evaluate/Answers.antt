use Rattle.std.proofs.Common.{length, subst}
use Rattle.nil_word.specs.Queries.{IsShapedQuery}
use Rattle.group_eval.proofs.Levels.{is_expr_of}
use Rattle.group_eval.proofs.answering.evaluate.Goals as goal

-- at level 1 the shape of an expression is all that is asked
pub vector_of-requires-clause-expr : goal.vector_of-requires-clause-expr
vector_of-requires-clause-expr c =
    is_expr_of c.args.checked.now c.in-Value.expr c.requires.level
    (subst (IsShapedQuery (length c.args.checked.now.pres.names)) c.in-Value.is c.requires.shaped)

pub vector_of-requires-in-Same-clause-expr : goal.vector_of-requires-in-Same-clause-expr
vector_of-requires-in-Same-clause-expr c =
    is_expr_of c.args.checked.now c.in-Same.left c.requires.level
    (subst (IsShapedQuery (length c.args.checked.now.pres.names)) c.in-Same.is c.requires.shaped).0

pub vector_of-requires-in-Same-2-clause-expr : goal.vector_of-requires-in-Same-2-clause-expr
vector_of-requires-in-Same-2-clause-expr c =
    is_expr_of c.args.checked.now c.in-Same.right c.requires.level
    (subst (IsShapedQuery (length c.args.checked.now.pres.names)) c.in-Same.is c.requires.shaped).1

pub pair_of-requires-clause-left : goal.pair_of-requires-clause-left
pair_of-requires-clause-left c =
    is_expr_of c.args.checked.now c.in-Solve.left c.requires.level
    (subst (IsShapedQuery (length c.args.checked.now.pres.names)) c.in-Solve.is c.requires.shaped).0

pub pair_of-requires-clause-right : goal.pair_of-requires-clause-right
pair_of-requires-clause-right c =
    is_expr_of c.args.checked.now c.in-Solve.right c.requires.level
    (subst (IsShapedQuery (length c.args.checked.now.pres.names)) c.in-Solve.is c.requires.shaped).1

pub pair_of-requires-in-Quotient-clause-left : goal.pair_of-requires-in-Quotient-clause-left
pair_of-requires-in-Quotient-clause-left c =
    is_expr_of c.args.checked.now c.in-Quotient.left c.requires.level
    (subst (IsShapedQuery (length c.args.checked.now.pres.names)) c.in-Quotient.is c.requires.shaped).0

pub pair_of-requires-in-Quotient-clause-right : goal.pair_of-requires-in-Quotient-clause-right
pair_of-requires-in-Quotient-clause-right c =
    is_expr_of c.args.checked.now c.in-Quotient.right c.requires.level
    (subst (IsShapedQuery (length c.args.checked.now.pres.names)) c.in-Quotient.is c.requires.shaped).1
