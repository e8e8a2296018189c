use Rattle.std.proofs.Common.{arith, ◌+◌, ◌*◌, ◌-◌, ◌^◌, ◌≤◌, ℕ, ap, ◌∙◌, subst}
use Rattle.std.proofs.lemmas.Result.{err_from_is_err_and}
use Rattle.integer.specs.Binomial.{ways}
use Rattle.nil_num.specs.Bound.{Overflows}
use Rattle.nil_num.specs.Outcome.{Unless}
use Rattle.nil_num.proofs.Coefficients.{inner_is, outer_is, inner_overflows}
use Rattle.nil_num.proofs.coefficient.product_coefficient.Goals as goal

pub returns-in_err-inner : goal.returns-in_err-inner
returns-in_err-inner c =
    let p = err_from_is_err_and c.from_residual.result c.from_residual.ensures.1 in
    rw (p.1) (inner_overflows (ways c.args.a (c.args.k - c.args.b)) c.args.a c.args.k (omega (arith, c.requires.from))
    (subst (λ (x : ℕ). 2 ^ 127 ≤ x) (inner_is c.args.a c.args.b c.args.k (omega (arith, c.requires.from)) c.requires.to) c.in_err-inner.ensures))

pub returns : goal.returns
returns c =
    subst (λ (n : ℕ). Unless (Overflows n) n c.times_binomial-2.result)
    (ap (λ (n : ℕ). n * ways (c.args.a + (c.args.k - c.args.a)) (c.args.k - c.args.a)) (c.in_ok-inner.ensures.0 ∙ inner_is c.args.a c.args.b c.args.k (omega (arith, c.requires.from)) c.requires.to)
    ∙ ap (λ (n : ℕ). ways c.args.a (c.args.k - c.args.b) * n) (outer_is c.args.a c.args.k (omega (arith, c.requires.from)))
    ∙ omega arith)
    c.times_binomial-2.ensures
