-- The first call that overflows, in longer stretches of a plan.
--   c call · cs ds calls · at place · r result
use Rattle.std.proofs.Common.{◌≡◌, List, [], ◌∷◌, ◌++◌, refl, ap, ◌∙◌, sym, subst, append_assoc}
use Rattle.std.specs.Prelude.{All, Result, Ok, Err, IfSome, IsErrAnd}
use Rattle.std.proofs.lemmas.List.Elements.{All-nil, All-cons, All-head, All-tail, All-append, All-weaker}
use Rattle.nil_num.specs.Outcome.{Gives}
use Rattle.sum_compiler.specs.declared.sum_place.SumPlace.{SumPlace}
use Rattle.sum_compiler.specs.declared.sum_fault.SumFault.{SumFault}
use Rattle.sum_compiler.specs.declared.sum_fault.SumFault.TheVariants.{Wide, Memory}
use Rattle.sum_compiler.specs.Calls.{Call, place, Overflows, NoneOverflows, IsFirstAt, StopsIn, IsMade, MakesIn, place_of}

pub none_overflows : (cs : List Call) → All IsMade cs → NoneOverflows cs
none_overflows cs h = All-weaker IsMade (λ (c : Call). ¬ Overflows c) (λ c m. m.fits) cs h

-- ---- one call
pub first_one : (c : Call) (at : SumPlace) → place c ≡ at → Overflows c → IsFirstAt (c ∷ []) at
first_one c at e h = record {
  before = [];
  call = c;
  after = [];
  listed = refl;
  overflows = h;
  none_before = All-nil (λ (d : Call). ¬ Overflows d);
  named = e;
}

pub made_one : (c : Call) → IsMade c → All IsMade (c ∷ [])
made_one c m = All-cons IsMade c [] m (All-nil IsMade)

-- ---- longer lists
pub first_sooner : (cs ds : List Call) (at : SumPlace) → IsFirstAt cs at → IsFirstAt (cs ++ ds) at
first_sooner cs ds at f = record {
  before = f.before;
  call = f.call;
  after = f.after ++ ds;
  listed = ap (λ (es : List Call). es ++ ds) f.listed ∙ append_assoc f.before (f.call ∷ f.after) ds;
  overflows = f.overflows;
  none_before = f.none_before;
  named = f.named;
}

pub first_later : (cs ds : List Call) (at : SumPlace) → All IsMade cs → IsFirstAt ds at
    → IsFirstAt (cs ++ ds) at
first_later cs ds at n f = record {
  before = cs ++ f.before;
  call = f.call;
  after = f.after;
  listed = ap (λ (es : List Call). cs ++ es) f.listed ∙ sym (append_assoc cs f.before (f.call ∷ f.after));
  overflows = f.overflows;
  none_before = All-append (λ (d : Call). ¬ Overflows d) cs f.before (none_overflows cs n) f.none_before;
  named = f.named;
}

pub made_both : (cs ds : List Call) → All IsMade cs → All IsMade ds → All IsMade (cs ++ ds)
made_both cs ds h k = All-append IsMade cs ds h k

pub made_left : (cs ds : List Call) → All IsMade (cs ++ ds) → All IsMade cs
made_left [] ds h = All-nil IsMade
made_left (c ∷ cs) ds h =
    All-cons IsMade c cs (All-head IsMade c (cs ++ ds) h) (made_left cs ds (All-tail IsMade c (cs ++ ds) h))

pub made_right : (cs ds : List Call) → All IsMade (cs ++ ds) → All IsMade ds
made_right [] ds h = h
made_right (c ∷ cs) ds h = made_right cs ds (All-tail IsMade c (cs ++ ds) h)

-- ---- results
if_place : (fault : SumFault) (P Q : SumPlace → Type 0) → IfSome (place_of fault) P
    → ((at : SumPlace) → P at → Q at) → IfSome (place_of fault) Q
if_place (Wide at) P Q h f = f at h
if_place Memory P Q h f = tt

-- what a `?` hands on
pub handed_on : {A : Type 0} (fault : SumFault) (r : Result A SumFault) (cs ds : List Call)
    → IsErrAnd r (λ e. e ≡ fault) → IfSome (place_of fault) (λ at. IsFirstAt cs at)
    → ((at : SumPlace) → IsFirstAt cs at → IsFirstAt ds at) → Gives place_of r (MakesIn {A = A} ds)
handed_on fault (Ok x) cs ds e h f = absurd e
handed_on fault (Err y) cs ds e h f =
    if_place y (λ at. IsFirstAt cs at) (λ at. IsFirstAt ds at)
    (subst (λ (x : SumFault). IfSome (place_of x) (λ at. IsFirstAt cs at)) (sym e) h) f

pub stops : {A : Type 0} (r : Result A SumFault) (cs : List Call)
    → Gives place_of r (MakesIn {A = A} cs) → Gives place_of r (StopsIn {A = A} cs)
stops (Ok x) cs h = none_overflows cs h
stops (Err (Wide at)) cs h = h
stops (Err Memory) cs h = tt

-- the calls that a call makes behind others
pub makes_later : {A : Type 0} (r : Result A SumFault) (cs ds : List Call) → All IsMade cs
    → Gives place_of r (MakesIn {A = A} ds) → Gives place_of r (MakesIn {A = A} (cs ++ ds))
makes_later (Ok x) cs ds n h = made_both cs ds n h
makes_later (Err (Wide at)) cs ds n h = first_later cs ds at n h
makes_later (Err Memory) cs ds n h = tt

pub handed_on_stops : {A : Type 0} (fault : SumFault) (r : Result A SumFault) (cs ds : List Call)
    → IsErrAnd r (λ e. e ≡ fault) → IfSome (place_of fault) (λ at. IsFirstAt cs at)
    → ((at : SumPlace) → IsFirstAt cs at → IsFirstAt ds at) → Gives place_of r (StopsIn {A = A} ds)
handed_on_stops fault (Ok x) cs ds e h f = absurd e
handed_on_stops fault (Err y) cs ds e h f =
    if_place y (λ at. IsFirstAt cs at) (λ at. IsFirstAt ds at)
    (subst (λ (x : SumFault). IfSome (place_of x) (λ at. IsFirstAt cs at)) (sym e) h) f
