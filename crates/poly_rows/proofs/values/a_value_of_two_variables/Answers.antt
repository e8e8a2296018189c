use Rattle.std.proofs.Common.{rules}
use Rattle.poly_rows.proofs.Covering.{covered}
use Rattle.poly_rows.proofs.values.a_value_of_two_variables.Goals as goal

pub value-requires : goal.value-requires
value-requires g c = covered c.put-2.new.self _ _ c.in_ok-product.product c.in_ok-var.ensures.variable c.in_ok-var-2.ensures.variable c.in_ok-product.ensures.product.0 (search rules) (search rules)
