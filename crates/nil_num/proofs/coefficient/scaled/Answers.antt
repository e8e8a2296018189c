use Rattle.std.proofs.Common.{arith, ◌+◌, ◌*◌, ◌/◌, ◌%◌, ℕ, ap, ◌∙◌, sym, subst}
use Rattle.std.proofs.lemmas.Result.{err_from_is_err_and}
use Rattle.nil_num.specs.Bound.{Overflows}
use Rattle.nil_num.specs.Outcome.{Unless}
use Rattle.nil_num.proofs.Coefficients.{mul-div_parts}
use Rattle.nil_num.proofs.coefficient.scaled.Goals as goal

pub returns-in_err-whole : goal.returns-in_err-whole
returns-in_err-whole c =
    let p = err_from_is_err_and c.from_residual.result c.from_residual.ensures.1 in
    rw (p.1) (omega (arith, c.in_err-whole.ensures, mul-div_parts c.args.number c.args.factor c.args.divisor c.requires.divisor))

pub returns : goal.returns
returns c =
    subst (λ (n : ℕ). Unless (Overflows n) n c.add_fit.result)
    (ap (λ (n : ℕ). n + c.args.number % c.args.divisor * c.args.factor / c.args.divisor) (c.in_ok-whole.ensures.0) ∙ sym (mul-div_parts c.args.number c.args.factor c.args.divisor c.requires.divisor))
    c.add_fit.ensures
