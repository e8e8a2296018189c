use Rattle.group_eval.proofs.Products.{length-written}
use Rattle.group_eval.proofs.multiplying.multiply_into.Goals as goal

pub returns-clause-length : goal.returns-clause-length
returns-clause-length c =
    length-written c.multiply_into.result c.args.table.now c.args.a.now c.args.b.now c.args.out.now
    c.multiply_into.new.out c.multiply_into.ensures.values c.multiply_into.ensures.err
    c.requires.vectors.1.1.0
