-- What the loops keep that put polynomials in place of variables, one polynomial after another.
--   step j of a place · level first generator · k generator · list what is put in · ps polynomials
--   made what was made so far · p polynomial · q p with the list put in
use Rattle.std.proofs.Common.{◌≡◌, ℕ, zero, suc, ◌+◌, ◌-◌, ◌<◌, ◌≤◌, List, [], ◌∷◌, ◌++◌, length, take, drop, get_or, refl, sym, ap, ◌∙◌, subst, arith}
use Rattle.std.specs.Prelude.{All}
use Rattle.std.proofs.lemmas.List.{take_more, take-append-drop, map-append}
use Rattle.std.proofs.lemmas.List.Elements.{All-nil}
use Rattle.std.proofs.Math.Seq.{drop-cons}
use Rattle.binom_poly.specs.declared.term.Term.{Term}
use Rattle.poly_subst.specs.declared.assign.Assign.{Assign}
use Rattle.poly_subst.specs.Substitute.{substituted}
use Rattle.sum_compiler.specs.declared.sum_step.SumStep.{SumStep}
use Rattle.sum_compiler.specs.declared.sum_place.SumPlace.{SumPlace}
use Rattle.sum_compiler.specs.Calls.{Call, IsFirstAt, IsMade}
use Rattle.sum_compiler.specs.Calls.Call.{puts_in}
use Rattle.sum_compiler.specs.Putting.{put_in, calls_in}
use Rattle.sum_compiler.proofs.Walking.{first_sooner, first_later, made_both}

abbrev pub at : SumStep → ℕ → ℕ → SumPlace
at step j k = record { step = step; j = j; k = k }

calls_in-append : (step : SumStep) (j k : ℕ) (list : List Assign) (ps qs : List (List Term))
    → calls_in step j k list (ps ++ qs)
    ≡ calls_in step j k list ps ++ calls_in step j (k + length ps) list qs
unfolding calls_in
calls_in-append step j k list [] qs =
    ap (λ (m : ℕ). calls_in step j m list qs) (let e : k ≡ k + 0 = omega arith in e)
calls_in-append step j k list (p ∷ ps) qs =
    ap (λ (cs : List Call). puts_in (at step j k) p list ∷ cs)
    (calls_in-append step j (suc k) list ps qs
    ∙ ap (λ (m : ℕ). calls_in step j (suc k) list ps ++ calls_in step j m list qs)
    (let e : suc k + length ps ≡ k + length (p ∷ ps) = omega arith in e))

pub record PutSoFar (step : SumStep) (j level k : ℕ) (list : List Assign)
    (ps made : List (List Term)) : Type 0 where
  pub made_so_far : made ≡ put_in list (take (k - level) ps)
  pub walked : All IsMade (calls_in step j level list (take (k - level) ps))

pub put_begins : (step : SumStep) (j level k : ℕ) (list : List Assign) (ps made : List (List Term))
    → made ≡ [] → k ≡ level → PutSoFar step j level k list ps made
unfolding calls_in
put_begins step j level k list ps made e f =
    let z : 0 ≡ k - level = omega arith in
    record {
      made_so_far = e ∙ ap (λ (m : ℕ). put_in list (take m ps)) z;
      walked = subst (λ (m : ℕ). All IsMade (calls_in step j level list (take m ps))) z (All-nil IsMade);
    }

length-before : (ps : List (List Term)) (i : ℕ) → i ≤ length ps → length (take i ps) ≡ i
length-before ps zero l = refl
length-before [] (suc i) l = absurd (omega arith)
length-before (p ∷ ps) (suc i) l = ap suc (length-before ps i (omega arith))

-- the call for k, behind the calls before it
calls-more : (step : SumStep) (j level k : ℕ) (list : List Assign) (ps qs : List (List Term))
    (p : List Term) → level ≤ k → k - level < length ps
    → calls_in step j level list (take (k - level) ps ++ p ∷ qs)
    ≡ calls_in step j level list (take (k - level) ps)
    ++ (puts_in (at step j k) p list ∷ calls_in step j (suc k) list qs)
unfolding calls_in
calls-more step j level k list ps qs p l u =
    calls_in-append step j level list (take (k - level) ps) (p ∷ qs)
    ∙ ap (λ (m : ℕ). calls_in step j level list (take (k - level) ps)
    ++ (puts_in (at step j m) p list ∷ calls_in step j (suc m) list qs))
    (let s = length-before ps (k - level) (omega arith) in
    let e : level + length (take (k - level) ps) ≡ k = omega arith in e)

pub put_more : (step : SumStep) (j level k : ℕ) (list : List Assign) (ps made new : List (List Term))
    (p q : List Term) → level ≤ k → k - level < length ps → p ≡ get_or ps (k - level) []
    → q ≡ substituted p list → new ≡ made ++ q ∷ []
    → All IsMade (puts_in (at step j k) p list ∷ [])
    → PutSoFar step j level k list ps made → PutSoFar step j level (k + 1) list ps new
unfolding calls_in
put_more step j level k list ps made new p q l u e f g h s =
    let next : take (k + 1 - level) ps ≡ take (k - level) ps ++ p ∷ [] =
    ap (λ (m : ℕ). take m ps) (let z : k + 1 - level ≡ (k - level) + 1 = omega arith in z)
    ∙ take_more ps (k - level) [] u
    ∙ ap (λ (r : List Term). take (k - level) ps ++ r ∷ []) (sym e) in
    record {
      made_so_far = g
          ∙ ap (λ (ms : List (List Term)). ms ++ q ∷ []) s.made_so_far
          ∙ ap (λ (r : List Term). put_in list (take (k - level) ps) ++ r ∷ []) f
          ∙ sym (ap (put_in list) next
          ∙ map-append (λ (r : List Term). substituted r list) (take (k - level) ps) (p ∷ []));
      walked = subst (λ (rs : List (List Term)). All IsMade (calls_in step j level list rs)) (sym next)
          (subst (All IsMade) (sym (calls-more step j level k list ps [] p l u))
          (made_both (calls_in step j level list (take (k - level) ps))
          (puts_in (at step j k) p list ∷ []) s.walked h));
    }

pub record PutAll (step : SumStep) (j level : ℕ) (list : List Assign) (ps made : List (List Term))
    : Type 0 where
  pub made_all : made ≡ put_in list ps
  pub walked : All IsMade (calls_in step j level list ps)

take_whole : (ps : List (List Term)) (i : ℕ) → length ps ≤ i → take i ps ≡ ps
take_whole [] zero l = refl
take_whole [] (suc i) l = refl
take_whole (p ∷ ps) zero l = absurd (omega arith)
take_whole (p ∷ ps) (suc i) l = ap (λ (qs : List (List Term)). p ∷ qs) (take_whole ps i (omega arith))

pub put_ends : (step : SumStep) (j level k : ℕ) (list : List Assign) (ps made : List (List Term))
    → length ps ≤ k - level → PutSoFar step j level k list ps made
    → PutAll step j level list ps made
put_ends step j level k list ps made l s =
    let e = take_whole ps (k - level) l in
    record {
      made_all = s.made_so_far ∙ ap (put_in list) e;
      walked = subst (λ (rs : List (List Term)). All IsMade (calls_in step j level list rs)) e s.walked;
    }

pub put_stops : (step : SumStep) (j level k : ℕ) (list : List Assign) (ps made : List (List Term))
    (p : List Term) (place : SumPlace) → level ≤ k → k - level < length ps
    → p ≡ get_or ps (k - level) [] → PutSoFar step j level k list ps made
    → IsFirstAt (puts_in (at step j k) p list ∷ []) place
    → IsFirstAt (calls_in step j level list ps) place
put_stops step j level k list ps made p place l u e s f =
    let whole : ps ≡ take (k - level) ps ++ p ∷ drop (suc (k - level)) ps =
    sym (take-append-drop (k - level) ps)
    ∙ ap (λ (rs : List (List Term)). take (k - level) ps ++ rs) (drop-cons ps (k - level) [] u)
    ∙ ap (λ (r : List Term). take (k - level) ps ++ r ∷ drop (suc (k - level)) ps) (sym e) in
    subst (λ (rs : List (List Term)). IsFirstAt (calls_in step j level list rs) place) (sym whole)
    (subst (λ (cs : List Call). IsFirstAt cs place)
    (sym (calls-more step j level k list ps (drop (suc (k - level)) ps) p l u))
    (first_later (calls_in step j level list (take (k - level) ps))
    (puts_in (at step j k) p list ∷ calls_in step j (suc k) list (drop (suc (k - level)) ps)) place
    s.walked
    (first_sooner (puts_in (at step j k) p list ∷ [])
    (calls_in step j (suc k) list (drop (suc (k - level)) ps)) place f)))
