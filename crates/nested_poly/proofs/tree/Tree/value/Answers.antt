use Rattle.std.proofs.Common.{◌∷◌, ap, subst, rules, FitsSigned, ◌^◌, ◌≤◌}
use Rattle.std.specs.Int.{w128}
use Rattle.std.proofs.lemmas.Int.{to_z-of_z}
use Rattle.std.proofs.lemmas.Result.{err_from_is_err_and}
use Rattle.binom_poly.specs.Readings.{value_at, magnitude_of}
use Rattle.nested_poly.specs.Nodes.{terms_of, constant_term}
use Rattle.nested_poly.specs.Trees.{tree_terms}
use Rattle.nested_poly.proofs.Wholes.{nodes_overflow, whole_overflows, bits_value}
use Rattle.nested_poly.proofs.tree.Tree.value.Goals as goal

pub returns-in_err-sum : goal.returns-in_err-sum
returns-in_err-sum c =
    let p = err_from_is_err_and c.from_residual.result c.from_residual.ensures.1 in
    rw (p.1)
    (subst (λ ts. 2 ^ 127 ≤ magnitude_of (value_at c.args.rows.now) ts) (ap (λ ns. constant_term c.args.self.now.constant ∷ terms_of ns) c.deref.ensures.value)
    (nodes_overflow (value_at c.args.rows.now) c.args.self.now.constant (terms_of c.deref.result.now) c.in_err-sum.ensures))

pub returns-in_err-whole : goal.returns-in_err-whole
returns-in_err-whole c =
    let f : FitsSigned w128 c.args.self.now.constant = search rules in
    let e = to_z-of_z w128 c.args.self.now.constant f in
    let p = err_from_is_err_and c.from_residual-in_err-whole.result c.from_residual-in_err-whole.ensures.1 in
    rw (p.1)
    (subst (λ ts. 2 ^ 127 ≤ magnitude_of (value_at c.args.rows.now) ts) (ap (λ ns. constant_term c.args.self.now.constant ∷ terms_of ns) c.deref.ensures.value)
    (whole_overflows (value_at c.args.rows.now) c.args.self.now.constant _ (terms_of c.deref.result.now) c.in_ok-sum.sum e c.in_ok-sum.ensures c.in_err-whole.ensures))

pub returns : goal.returns
returns c =
    let f : FitsSigned w128 c.args.self.now.constant = search rules in
    let g : FitsSigned w128 c.in_ok-whole.whole.value = search rules in
    bits_value (value_at c.args.rows.now) _ c.args.self.now.constant _ (terms_of c.deref.result.now) (tree_terms c.args.self.now) c.in_ok-sum.sum c.in_ok-whole.whole (to_z-of_z w128 c.in_ok-whole.whole.value g)
    (ap (λ ns. constant_term c.args.self.now.constant ∷ terms_of ns) c.deref.ensures.value) (to_z-of_z w128 c.args.self.now.constant f) c.in_ok-sum.ensures c.in_ok-whole.ensures
