use Rattle.std.proofs.Common.{◌≡◌, ℕ, ◌*◌, ◌/◌, ◌≤◌, subst, sym, ap, ◌∙◌, arith}
use Rattle.nil_examples.specs.Free.{pairs}
use Rattle.nil_examples.proofs.Sized.{product-most, pairs-half, pairs-most}
use Rattle.nil_examples.proofs.example.pairs.Goals as goal

pub overflow_mul-ordered : goal.overflow_mul-ordered
overflow_mul-ordered c =
    let less = c.saturating_sub-less.result in
    let small : c.args.k * less ≤ 2256 = subst (λ (x : ℕ). c.args.k * x ≤ 2256) (sym c.saturating_sub-less.ensures) (product-most c.args.k c.requires) in
    omega arith

pub returns-clause-pairs : goal.returns-clause-pairs
returns-clause-pairs c =
    ap (λ (x : ℕ). c.args.k * x / 2) c.saturating_sub-less.ensures ∙ pairs-half c.args.k c.requires

pub returns-clause-most : goal.returns-clause-most
returns-clause-most c =
    let less = c.saturating_sub-less.result in
    let same : c.args.k * less / 2 ≡ pairs c.args.k = ap (λ (x : ℕ). c.args.k * x / 2) c.saturating_sub-less.ensures ∙ pairs-half c.args.k c.requires in
    omega (arith, same, pairs-most c.args.k c.requires)
