-- The sum of two variables overflows nothing.
use Rattle.std.proofs.Common.{◌≡◌, List, ap, ◌∙◌, subst}
use Rattle.std.specs.Prelude.{IfSome}
use Rattle.binom_poly.specs.declared.fault.PolyFault.{PolyFault}
use Rattle.binom_poly.specs.declared.term.Term.{Term}
use Rattle.binom_poly.specs.Fault.{wide_of}
use Rattle.binom_poly.specs.Collected.{var_terms, SumOverflows}
use Rattle.binom_poly.specs.Variable.{x_of, y_of}
use Rattle.sum_compiler.proofs.FirstPoly.{fits}
use Rattle.sum_compiler.proofs.levels.first_poly.Goals as goal

pub unreachable-requires : goal.unreachable-requires
unreachable-requires c =
    let i = c.args.i in
    let x : c.in_ok-x.x ≡ var_terms (x_of i) =
    c.in_ok-x.ensures.variable ∙ ap var_terms c.x_of.ensures in
    let y : c.in_ok-y.y ≡ var_terms (y_of i) =
    c.in_ok-y.ensures.variable ∙ ap var_terms c.y_of.ensures in
    let wide : SumOverflows c.in_ok-x.x c.in_ok-y.y =
    subst (λ (f : PolyFault). IfSome (wide_of f) (λ _. SumOverflows c.in_ok-x.x c.in_ok-y.y))
    c.in-Err-Wide.field-0-is c.in-Err-Wide.ensures.sum in
    fits (x_of i) (y_of i)
    (subst (λ (p : List Term). SumOverflows p (var_terms (y_of i))) x
    (subst (λ (q : List Term). SumOverflows c.in_ok-x.x q) y wide))
