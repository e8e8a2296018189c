use Rattle.std.proofs.Common.{ap, ◌∙◌}
use Rattle.std.proofs.lemmas.List.{length-map}
use Rattle.binom_poly.specs.Collected.{var_terms}
use Rattle.binom_poly.specs.Variable.{z_of}
use Rattle.std.specs.Prelude.{length}
use Rattle.nil_word.specs.Exponents.{numbers}
use Rattle.hall_table.specs.Order.{generators}
use Rattle.sum_compiler.proofs.Numbers.{length-numbers}
use Rattle.sum_compiler.proofs.powers.powers.Goals as goal

pub with_sums-requires-clause-size : goal.with_sums-requires-clause-size
with_sums-requires-clause-size c =
    let t = c.args.table.now in
    ap length c.in_ok-steps.ensures
    ∙ length-map (numbers t.level (generators t)) (λ m. var_terms (z_of m))
    ∙ length-numbers t.level (generators t)
