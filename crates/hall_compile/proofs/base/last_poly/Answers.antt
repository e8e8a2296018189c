use Rattle.std.proofs.Common.{◌≡◌, List, ap, ◌∙◌, subst}
use Rattle.std.specs.Prelude.{IfSome}
use Rattle.binom_poly.specs.declared.term.Term.{Term}
use Rattle.binom_poly.specs.Collected.{var_terms, SumOverflows}
use Rattle.binom_poly.specs.Variable.{x_of, y_of}
use Rattle.binom_poly.specs.Fault.{wide_of}
use Rattle.binom_poly.specs.declared.fault.PolyFault.{PolyFault}
use Rattle.hall_compile.proofs.Bases.{small_base}
use Rattle.hall_compile.proofs.base.last_poly.Goals as goal

pub unreachable-requires : goal.unreachable-requires
unreachable-requires c =
    let x = c.in_ok-x.x in
    let y = c.in_ok-y.y in
    let x_is : x ≡ var_terms (x_of c.args.n) =
    c.in_ok-x.ensures.variable ∙ ap var_terms c.x_of.ensures in
    let y_is : y ≡ var_terms (y_of c.args.n) =
    c.in_ok-y.ensures.variable ∙ ap var_terms c.y_of.ensures in
    let wide : SumOverflows x y =
    subst (λ (f : PolyFault). IfSome (wide_of f) (λ _. SumOverflows x y)) c.in-Err-Wide.field-0-is
    c.in-Err-Wide.ensures.sum in
    small_base c.args.n (subst (SumOverflows (var_terms (x_of c.args.n))) y_is
    (subst (λ (p : List Term). SumOverflows p y) x_is wide))
