-- The call overflows.
use Rattle.std.proofs.Common.{refl, subst}
use Rattle.std.specs.Prelude.{IfSome}
use Rattle.binom_poly.specs.declared.fault.PolyFault.{PolyFault}
use Rattle.binom_poly.specs.Fault.{wide_of}
use Rattle.poly_subst.specs.Substitute.{SubstituteOverflows}
use Rattle.sum_compiler.specs.Calls.Call.{puts_in}
use Rattle.sum_compiler.proofs.Walking.{first_one}
use Rattle.sum_compiler.proofs.putting.apply.Goals as goal

pub returns-in-Err-Wide-clause-makes : goal.returns-in-Err-Wide-clause-makes
returns-in-Err-Wide-clause-makes c =
    first_one (puts_in c.args.place c.args.p.now c.args.substitution.now) c.args.place refl
    (subst (λ (f : PolyFault). IfSome (wide_of f) (λ _. SubstituteOverflows c.args.p.now
    c.args.substitution.now))
    c.in-Err-Wide.field-0-is c.in-Err-Wide.ensures.substituted)
