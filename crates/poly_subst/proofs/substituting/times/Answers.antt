use Rattle.std.proofs.Common.{◌*ℤ◌, ℤ, List, sym, ap, ◌∙◌, subst}
use Rattle.std.specs.Int.{w128}
use Rattle.std.proofs.lemmas.Int.{to_z-of_z}
use Rattle.std.proofs.lemmas.Result.{IfOk-weaker}
use Rattle.nil_num.specs.Outcome.{Gives, Unless}
use Rattle.binom_poly.specs.declared.term.Term.{Term}
use Rattle.binom_poly.specs.Fault.{wide_of}
use Rattle.binom_poly.specs.Polynomial.{value_of}
use Rattle.binom_poly.specs.Weight.{DoOverflow}
use Rattle.binom_poly.specs.Times.{product_terms}
use Rattle.binom_poly.specs.Collected.{collected, scale_terms}
use Rattle.binom_poly.proofs.Canonical.{value-constant_terms}
use Rattle.poly_subst.proofs.Vanishing.{fits_within}
use Rattle.poly_subst.proofs.Expansion.{product-constant}
use Rattle.poly_subst.proofs.substituting.times.Goals as goal

pub returns-in-Some-clause-product : goal.returns-in-Some-clause-product
returns-in-Some-clause-product c =
    let f = to_z-of_z w128 c.in-Some.c (fits_within c.in-Some.c c.in-Some.ensures.1) in
    subst (λ (ts : List Term). Gives wide_of c.scale.result (Unless (DoOverflow ts) (collected ts)))
    (ap (scale_terms c.args.q.now) f ∙ product-constant c.in-Some.c c.args.q.now ∙ ap (λ (ts : List Term). product_terms ts c.args.q.now) (sym c.in-Some.ensures.0))
    c.scale.ensures.multiple

pub returns-in-Some-clause-value : goal.returns-in-Some-clause-value
returns-in-Some-clause-value c =
    let f = to_z-of_z w128 c.in-Some.c (fits_within c.in-Some.c c.in-Some.ensures.1) in
    IfOk-weaker c.scale.result _ _
    (λ r v a. v a ∙ ap (λ (z : ℤ). z *ℤ value_of a c.args.q.now) (f ∙ sym (ap (value_of a) c.in-Some.ensures.0 ∙ value-constant_terms a c.in-Some.c)))
    c.scale.ensures.value
