-- What a `?` hands on of a refusal.
--   r result · y refusal · value · O what holds where it is refused
use Rattle.std.proofs.Common.{◌≡◌, subst}
use Rattle.std.specs.Prelude.{Result, Ok, Err, IsErrAnd, IfErr, IfSome}
use Rattle.nil_num.specs.Outcome.{Unless}
use Rattle.binom_poly.specs.declared.fault.PolyFault.{PolyFault}
use Rattle.binom_poly.specs.declared.fault.PolyFault.TheVariants.{Wide}
use Rattle.binom_poly.specs.Fault.{wide_of}

pub refused : {A E O : Type 0} (Q : E → Type 0) (r : Result A E) (value : A) → IsErrAnd r Q → O
    → Unless O value r
refused Q (Ok x) value e o = absurd e
refused Q (Err y) value e o = o

pub if_err : {A E : Type 0} (r : Result A E) (P Q : E → Type 0) → ((x : E) → P x → Q x) → IfErr r P
    → IfErr r Q
if_err (Ok x) P Q f h = h
if_err (Err y) P Q f h = f y h

-- what holds where the fault is Wide
pub at_wide : {O : Type 0} (fault : PolyFault) → IfSome (wide_of fault) (λ _. O) → fault ≡ Wide → O
at_wide {O} fault h e = subst (λ (f : PolyFault). IfSome (wide_of f) (λ _. O)) e h
