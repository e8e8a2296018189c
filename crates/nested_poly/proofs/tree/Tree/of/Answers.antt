use Rattle.std.proofs.Common.{◌∷◌, sym, subst, rules, FitsSigned}
use Rattle.std.specs.Int.{w128}
use Rattle.std.proofs.lemmas.Int.{to_z-of_z}
use Rattle.nested_poly.specs.Nodes.{constant_term, IsNestOf}
use Rattle.nested_poly.specs.Tails.{tail_terms}
use Rattle.nested_poly.proofs.Wholes.{nested_whole}
use Rattle.nested_poly.proofs.tree.Tree.of.Goals as goal

pub returns-clause-nest : goal.returns-clause-nest
returns-clause-nest c =
    let f : FitsSigned w128 c.split_constant-constant.result.0 = search rules in
    (nested_whole _ c.new-nodes.result.items c.nest.new.nodes.items c.deref.result.now c.split_constant-constant.result.1.now c.args.p.now c.new-nodes.ensures.items c.in_ok-nest.ensures (subst (λ ts. IsNestOf (tail_terms ts) c.split_constant-constant.result.1.now) (sym c.deref.ensures.value) c.in_ok-tails.ensures.terms)
    (subst (λ z. IsNestOf (constant_term z ∷ c.split_constant-constant.result.1.now) c.args.p.now) (sym (to_z-of_z w128 c.split_constant-constant.result.0 f)) (subst (IsNestOf (constant_term c.split_constant-constant.result.0 ∷ c.split_constant-constant.result.1.now)) c.terms.ensures.terms c.split_constant-constant.ensures.terms))).1

pub returns-clause-form : goal.returns-clause-form
returns-clause-form c =
    let f : FitsSigned w128 c.split_constant-constant.result.0 = search rules in
    (nested_whole _ c.new-nodes.result.items c.nest.new.nodes.items c.deref.result.now c.split_constant-constant.result.1.now c.args.p.now c.new-nodes.ensures.items c.in_ok-nest.ensures (subst (λ ts. IsNestOf (tail_terms ts) c.split_constant-constant.result.1.now) (sym c.deref.ensures.value) c.in_ok-tails.ensures.terms)
    (subst (λ z. IsNestOf (constant_term z ∷ c.split_constant-constant.result.1.now) c.args.p.now) (sym (to_z-of_z w128 c.split_constant-constant.result.0 f)) (subst (IsNestOf (constant_term c.split_constant-constant.result.0 ∷ c.split_constant-constant.result.1.now)) c.terms.ensures.terms c.split_constant-constant.ensures.terms))).0
