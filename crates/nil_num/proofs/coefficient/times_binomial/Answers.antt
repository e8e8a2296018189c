use Rattle.std.proofs.Common.{arith, ◌+◌, ◌*◌, ◌/◌, ◌^◌, ◌≤◌, ℕ, ap, ◌∙◌, subst}
use Rattle.std.proofs.lemmas.Result.{err_from_is_err_and}
use Rattle.integer.proofs.Binomial.{ways_none}
use Rattle.nil_num.proofs.Coefficients.{diagonal_step, diagonal_overflows}
use Rattle.nil_num.proofs.coefficient.times_binomial.Goals as goal

pub loop-j-init : goal.loop-j-init
loop-j-init c = (omega (arith, ap (λ (n : ℕ). c.args.start * n) (ways_none (c.args.n + 0))), c.requires.within)

pub returns-in_err-product : goal.returns-in_err-product
returns-in_err-product c =
    let p = err_from_is_err_and c.from_residual.result c.from_residual.ensures.1 in
    let n = c.args.n in
    let j = c.loop-j.j in
    rw (p.1) (diagonal_overflows c.args.start n (j + 1) c.args.m (omega (arith, c.loop-j-test.true))
    (subst (λ (x : ℕ). 2 ^ 127 ≤ x) (ap (λ (x : ℕ). x * (n + j + 1) / (j + 1)) c.loop-j.invariant.0 ∙ diagonal_step c.args.start n j) c.in_err-product.ensures))

pub loop-j-preserved : goal.loop-j-preserved
loop-j-preserved c =
    (c.in_ok-product.ensures.0 ∙ ap (λ (x : ℕ). x * (c.args.n + c.loop-j.j + 1) / (c.loop-j.j + 1)) c.loop-j.invariant.0 ∙ diagonal_step c.args.start c.args.n c.loop-j.j, omega (arith, c.in_ok-product.ensures))
