use Rattle.std.proofs.Common.{ℕ, sym, ap, ◌∙◌, arith}
use Rattle.nil_examples.specs.Loads.{queries}
use Rattle.nil_examples.proofs.Sized.{length-places}
use Rattle.nil_examples.proofs.Drawing.{load_in_range}
use Rattle.nil_examples.proofs.loads.load_queries.Goals as goal

pub overflow_cast-rows : goal.overflow_cast-rows
overflow_cast-rows c =
    let within = load_in_range c.args.m c.args.count c.args.seed c.in_default.ensures in
    omega (arith, within.most)

pub returns-clause-ok : goal.returns-clause-ok
returns-clause-ok c =
    let within = load_in_range c.args.m c.args.count c.args.seed c.in_default.ensures in
    let generators = c.from-generators.ensures ∙ c.pairs.ensures.pairs ∙ sym (length-places c.args.m within.least within.most) in
    c.in_ok-text.ensures ∙ ap (λ (n : ℕ). queries n c.args.seed c.args.count) generators
