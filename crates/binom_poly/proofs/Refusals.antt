-- What a `?` hands on of a fault
use Rattle.std.proofs.Common.{◌≡◌, ◌∙◌, List, refl, sym, subst}
use Rattle.std.specs.Prelude.{Result, Ok, Err, IsErrAnd, IfErr, IfSome}
use Rattle.nil_num.specs.Outcome.{Gives, Refuses, Unless}
use Rattle.binom_poly.specs.declared.fault.PolyFault.{PolyFault}
use Rattle.binom_poly.specs.declared.fault.PolyFault.TheVariants.{Wide, Memory}
use Rattle.binom_poly.specs.declared.part.Part.{Part}
use Rattle.binom_poly.specs.declared.term.Term.{Term}
use Rattle.binom_poly.specs.declared.sums.Sum.{Sum}
use Rattle.binom_poly.specs.Fault.{wide_of}
use Rattle.binom_poly.specs.Collected.{SumOverflows}
use Rattle.binom_poly.specs.Totals.{Adds}

pub handed_on : {A : Type 0} {fault : PolyFault} (r : Result A PolyFault) (P : PolyFault → Type 0)
    → IsErrAnd r (λ e. e ≡ fault) → P fault → IfErr r P
handed_on (Ok x) P e p = absurd e
handed_on (Err y) P e p = subst P (sym e) p

if_wide : {O : Type 0} (fault : PolyFault) → (fault ≡ Wide → O) → IfSome (wide_of fault) (λ _. O)
if_wide Wide f = f refl
if_wide Memory f = tt

weaker : {O P : Type 0} (fault : PolyFault)
    → IfSome (wide_of fault) (λ _. O) → (O → P) → IfSome (wide_of fault) (λ _. P)
weaker Wide o f = f o
weaker Memory o f = tt

-- a fault that names Wide where O holds
pub gives_refused : {A O : Type 0} {fault : PolyFault} (r : Result A PolyFault) (value : A)
    → IsErrAnd r (λ e. e ≡ fault) → (fault ≡ Wide → O) → Gives wide_of r (Unless O value)
gives_refused (Ok x) value e f = absurd e
gives_refused (Err y) value e f = if_wide y (λ w. f (sym e ∙ w))

-- a fault of another call that follows an order
pub gives_passed : {A O P : Type 0} (r : Result A PolyFault) (value : A) (fault : PolyFault)
    → IsErrAnd r (λ e. e ≡ fault) → IfSome (wide_of fault) (λ _. O) → (O → P)
    → Gives wide_of r (Unless P value)
gives_passed (Ok x) value fault e o f = absurd e
gives_passed {O = O} (Err y) value fault e o f =
    weaker y (subst (λ x. IfSome (wide_of x) (λ _. O)) (sym e) o) f

pub refuses_passed : {A O P : Type 0} (r : Result A PolyFault) (fault : PolyFault)
    → IsErrAnd r (λ e. e ≡ fault) → IfSome (wide_of fault) (λ _. O) → (O → P)
    → Gives wide_of r (Refuses P)
refuses_passed (Ok x) fault e o f = absurd e
refuses_passed {O = O} (Err y) fault e o f =
    weaker y (subst (λ x. IfSome (wide_of x) (λ _. O)) (sym e) o) f

pub adds_refused : {fault : PolyFault} (r : Result (List (List Part × Sum)) PolyFault) (q p : List Term)
    → IsErrAnd r (λ e. e ≡ fault) → (fault ≡ Wide → SumOverflows q p) → Gives wide_of r (Adds q p)
adds_refused (Ok x) q p e f = absurd e
adds_refused (Err y) q p e f = if_wide y (λ w. f (sym e ∙ w))
