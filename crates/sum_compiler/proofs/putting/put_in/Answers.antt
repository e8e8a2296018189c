-- The call is made, or overflows.
use Rattle.std.proofs.Common.{refl, subst, ap, ◌∙◌, sym}
use Rattle.std.specs.Prelude.{IfSome}
use Rattle.binom_poly.specs.declared.fault.PolyFault.{PolyFault}
use Rattle.binom_poly.specs.Fault.{wide_of}
use Rattle.binom_poly.specs.Polynomial.{value_of, IsPolynomial}
use Rattle.poly_subst.specs.Substitute.{SubstituteOverflows}
use Rattle.sum_compiler.specs.Calls.Call.{puts_in}
use Rattle.sum_compiler.proofs.Walking.{first_one, made_one}
use Rattle.sum_compiler.proofs.putting.put_in.Goals as goal

pub returns-in-Err-Wide-clause-makes : goal.returns-in-Err-Wide-clause-makes
returns-in-Err-Wide-clause-makes c =
    first_one (puts_in c.args.place c.args.p.now c.args.list.now) c.args.place refl
    (subst (λ (f : PolyFault). IfSome (wide_of f) (λ _. SubstituteOverflows c.args.p.now
    c.args.list.now))
    c.in-Err-Wide.field-0-is c.in-Err-Wide.ensures.substituted)

pub returns-in-Ok-clause-makes : goal.returns-in-Ok-clause-makes
returns-in-Ok-clause-makes c =
    let e = c.in-Ok.ensures.substituted.0 in
    made_one (puts_in c.args.place c.args.p.now c.args.list.now) record {
      fits = c.in-Ok.ensures.substituted.1;
      gains = record {
        form = subst IsPolynomial e c.terms.ensures.form;
        value = λ a. ap (value_of a) (sym e) ∙ c.in-Ok.ensures.value a;
      };
    }
