use Rattle.integer.proofs.Products.{product_rule_from}
use Rattle.integer.proofs.binomial_laws.product_rule.Goals as goal

pub returns : goal.returns
returns c = product_rule_from
