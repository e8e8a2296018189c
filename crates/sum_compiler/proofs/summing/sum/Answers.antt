-- The call is made, or overflows.
use Rattle.std.proofs.Common.{refl, subst, ap, ◌∙◌, sym, List, ◌+ℤ◌}
use Rattle.std.specs.Prelude.{IfSome}
use Rattle.binom_poly.specs.declared.fault.PolyFault.{PolyFault}
use Rattle.binom_poly.specs.declared.term.Term.{Term}
use Rattle.binom_poly.specs.Fault.{wide_of}
use Rattle.binom_poly.specs.Polynomial.{value_of}
use Rattle.binom_poly.specs.Variable.{step_variable}
use Rattle.poly_subst.specs.Steps.{SummedOverflows, bump}
use Rattle.sum_compiler.specs.Calls.Call.{sums}
use Rattle.sum_compiler.proofs.Walking.{first_one, made_one}
use Rattle.sum_compiler.proofs.summing.sum.Goals as goal

pub returns-in-Err-Wide-clause-makes : goal.returns-in-Err-Wide-clause-makes
returns-in-Err-Wide-clause-makes c =
    first_one (sums c.args.place c.args.p.now) c.args.place refl
    (subst (λ (f : PolyFault). IfSome (wide_of f) (λ _. SummedOverflows step_variable c.args.p.now))
    c.in-Err-Wide.field-0-is c.in-Err-Wide.ensures.summed)

pub returns-in-Ok-clause-makes : goal.returns-in-Ok-clause-makes
returns-in-Ok-clause-makes c =
    let e = c.in-Ok.ensures.summed.0 in
    made_one (sums c.args.place c.args.p.now) record {
      fits = c.in-Ok.ensures.summed.1;
      gains = record {
        start = λ a z. ap (value_of a) (sym e) ∙ c.in-Ok.ensures.start a z;
        step = λ a.
            ap (value_of (bump step_variable a)) (sym e)
            ∙ c.in-Ok.ensures.step a
            ∙ ap (λ (p : List Term). value_of a p +ℤ value_of a c.args.p.now) e;
      };
    }
