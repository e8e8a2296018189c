-- The calls of a plan, in their order, and the place of the first that overflows.
--   Call               a call, with its place in the plan: p with the listed polynomials put in, or
--                      the sum of p over t
--   place c            its place
--   Overflows c        one of its written operations overflows
--   NoneOverflows cs   no call does
--   IsFirstAt cs at    a call overflows, and the first that does has this place
--   StopsIn cs r       r is Ok where none overflows, and else names the place of the first
--   place_of fault     the place that a fault names; want of memory names none
--   IsSubstituted p list    p with the list put in is a polynomial, and has the values of p there
--   IsSummed p         the sum of p over t is 0 where t is 0, and each step adds p
--   Gains c            one of the two, of what the call makes
--   IsMade c           the call doesn't overflow, and gains them
--   MakesIn cs r       as StopsIn, and where r is Ok each call is made
-- c call · cs calls · at place · p polynomial · a point · r result
use Rattle.std.specs.Prelude.{◌≡◌, ℕ, ℤ, pos, ◌+ℤ◌, List, ◌∷◌, ◌++◌, All, Option, Some, None, Result, MatchResult}
use Rattle.binom_poly.specs.declared.term.Term.{Term}
use Rattle.binom_poly.specs.Polynomial.{value_of, IsPolynomial}
use Rattle.binom_poly.specs.Variable.{step_variable}
use Rattle.poly_subst.specs.declared.assign.Assign.{Assign}
use Rattle.poly_subst.specs.Substitute.{replaced, substituted, SubstituteOverflows}
use Rattle.poly_subst.specs.Steps.{summed, SummedOverflows, bump}
use Rattle.sum_compiler.specs.declared.sum_place.SumPlace.{SumPlace}
use Rattle.sum_compiler.specs.declared.sum_fault.SumFault.{SumFault}
use Rattle.sum_compiler.specs.declared.sum_fault.SumFault.TheVariants.{Wide, Memory}

pub data Call : Type 0 where
  puts_in : SumPlace → List Term → List Assign → Call
  sums : SumPlace → List Term → Call

abbrev pub place : Call → SumPlace
place (puts_in at p list) = at
place (sums at p) = at

abbrev pub Overflows : Call → Type 0
Overflows (puts_in at p list) = SubstituteOverflows p list
Overflows (sums at p) = SummedOverflows step_variable p

abbrev pub NoneOverflows : List Call → Type 0
NoneOverflows cs = All (λ c. ¬ Overflows c) cs

pub record IsFirstAt (cs : List Call) (at : SumPlace) : Type 0 where
  pub before : List Call
  pub call : Call
  pub after : List Call
  pub listed : cs ≡ before ++ call ∷ after
  pub overflows : Overflows call
  pub none_before : NoneOverflows before
  pub named : place call ≡ at

abbrev pub StopsIn : {A : Type 0} → List Call → Result A SumPlace → Type 0
StopsIn cs r = MatchResult r (λ _. NoneOverflows cs) (IsFirstAt cs)

abbrev pub place_of : SumFault → Option SumPlace
place_of (Wide at) = Some at
place_of Memory = None

pub record IsSubstituted (p : List Term) (list : List Assign) : Type 0 where
  pub form : IsPolynomial (substituted p list)
  pub value : (a : ℕ → ℤ) → value_of a (substituted p list) ≡ value_of (replaced list a) p

pub record IsSummed (p : List Term) : Type 0 where
  pub start : (a : ℕ → ℤ) → a step_variable ≡ pos 0 → value_of a (summed step_variable p) ≡ pos 0
  pub step : (a : ℕ → ℤ) → value_of (bump step_variable a) (summed step_variable p)
      ≡ value_of a (summed step_variable p) +ℤ value_of a p

abbrev pub Gains : Call → Type 0
Gains (puts_in at p list) = IsSubstituted p list
Gains (sums at p) = IsSummed p

pub record IsMade (c : Call) : Type 0 where
  pub fits : ¬ Overflows c
  pub gains : Gains c

abbrev pub MakesIn : {A : Type 0} → List Call → Result A SumPlace → Type 0
MakesIn cs r = MatchResult r (λ _. All IsMade cs) (IsFirstAt cs)
