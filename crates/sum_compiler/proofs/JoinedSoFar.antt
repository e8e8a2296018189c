-- What the loop keeps that multiplies a product by one power after another.
--   step j of a place · t table · Q powers · w first product · gs powers · d how many of them
--   product the product so far · g the next power, z its polynomials
use Rattle.std.proofs.Common.{◌≡◌, ℕ, suc, ◌+◌, ◌<◌, List, [], ◌∷◌, ◌++◌, length, take, drop, get_or, refl, sym, ap, ◌∙◌, subst, arith, append_assoc}
use Rattle.std.specs.Prelude.{All}
use Rattle.std.proofs.lemmas.List.{take_more, take-append-drop, length-map}
use Rattle.std.proofs.lemmas.List.Elements.{All-nil}
use Rattle.std.proofs.Math.Seq.{drop-cons}
use Rattle.binom_poly.specs.declared.term.Term.{Term}
use Rattle.poly_subst.specs.Substitute.{substituted}
use Rattle.hall_table.specs.Tabled.{Tabled}
use Rattle.hall_table.specs.Order.{generators}
use Rattle.sum_compiler.specs.declared.sum_step.SumStep.{SumStep}
use Rattle.sum_compiler.specs.declared.sum_place.SumPlace.{SumPlace}
use Rattle.sum_compiler.specs.Calls.{Call, IsFirstAt, IsMade}
use Rattle.sum_compiler.specs.Joining.{Powering, power_of, times, joined, power_calls, times_calls, next_calls, joined_calls}
use Rattle.sum_compiler.specs.Putting.{into, to_power}
use Rattle.sum_compiler.specs.Powers.{zs, powers}
use Rattle.sum_compiler.proofs.SumsSoFar.{length-with_sums}
use Rattle.sum_compiler.proofs.Walking.{first_sooner, first_later, made_both}

pub length-power_of : (t : Tabled) (g : Powering) → length (power_of t (powers t) g) ≡ generators t
length-power_of t g =
    let size = length-with_sums t (zs t) [] (generators t) in
    length-map (powers t) (λ p. substituted p (to_power t.level g.vector g.exponent)) ∙ omega arith

pub length-joined : (t : Tabled) (Q w : List (List Term)) (gs : List Powering) → length w ≡ generators t
    → length (joined t Q w gs) ≡ generators t
unfolding joined
length-joined t Q w [] n = n
length-joined t Q w (g ∷ gs) n =
    length-joined t Q (times t w (power_of t Q g)) gs
    (length-map t.polys (λ p. substituted p (into t.level w (power_of t Q g))))

joined-push : (t : Tabled) (Q w : List (List Term)) (gs : List Powering) (g : Powering)
    → joined t Q w (gs ++ g ∷ []) ≡ times t (joined t Q w gs) (power_of t Q g)
unfolding joined
joined-push t Q w [] g = refl
joined-push t Q w (f ∷ gs) g = joined-push t Q (times t w (power_of t Q f)) gs g

calls-append : (step : SumStep) (t : Tabled) (Q w : List (List Term)) (gs hs : List Powering)
    → joined_calls step t Q w (gs ++ hs)
    ≡ joined_calls step t Q w gs ++ joined_calls step t Q (joined t Q w gs) hs
unfolding joined joined_calls
calls-append step t Q w [] hs = refl
calls-append step t Q w (g ∷ gs) hs =
    ap (λ (cs : List Call). next_calls step t Q w g ++ cs)
    (calls-append step t Q (times t w (power_of t Q g)) gs hs)
    ∙ sym (append_assoc (next_calls step t Q w g)
    (joined_calls step t Q (times t w (power_of t Q g)) gs)
    (joined_calls step t Q (joined t Q (times t w (power_of t Q g)) gs) hs))

pub record JoinedSoFar (step : SumStep) (t : Tabled) (Q w : List (List Term)) (gs : List Powering)
    (d : ℕ) (product : List (List Term)) : Type 0 where
  pub made : product ≡ joined t Q w (take d gs)
  pub walked : All IsMade (joined_calls step t Q w (take d gs))

pub joined_begins : (step : SumStep) (t : Tabled) (Q w : List (List Term)) (gs : List Powering)
    (product : List (List Term)) → product ≡ w → JoinedSoFar step t Q w gs 0 product
unfolding joined joined_calls
joined_begins step t Q w gs product e = record { made = e; walked = All-nil IsMade }

module _ (step : SumStep) (t : Tabled) (Q w : List (List Term)) (gs : List Powering) (d : ℕ)
    (product : List (List Term)) (g : Powering) (l : d < length gs) (g_is : get_or gs d g ≡ g)
    (so_far : JoinedSoFar step t Q w gs d product) where
  abbrev known : List (List Term)
  known = joined t Q w (take d gs)

  whole : gs ≡ take d gs ++ (g ∷ drop (suc d) gs)
  whole =
      sym (take-append-drop d gs)
      ∙ ap (λ (hs : List Powering). take d gs ++ hs) (drop-cons gs d g l)
      ∙ ap (λ (f : Powering). take d gs ++ f ∷ drop (suc d) gs) g_is

  stops_next : (place : SumPlace) → IsFirstAt (next_calls step t Q known g) place
      → IsFirstAt (joined_calls step t Q w gs) place
  unfolding joined_calls
  stops_next place f =
      subst (λ (hs : List Powering). IsFirstAt (joined_calls step t Q w hs) place) (sym whole)
      (subst (λ (cs : List Call). IsFirstAt cs place)
      (sym (calls-append step t Q w (take d gs) (g ∷ drop (suc d) gs)))
      (first_later (joined_calls step t Q w (take d gs))
      (joined_calls step t Q known (g ∷ drop (suc d) gs)) place so_far.walked
      (first_sooner (next_calls step t Q known g)
      (joined_calls step t Q (times t known (power_of t Q g)) (drop (suc d) gs)) place f)))

  pub stops_power : (place : SumPlace) → IsFirstAt (power_calls step t Q g) place
      → IsFirstAt (joined_calls step t Q w gs) place
  stops_power place f =
      stops_next place
      (first_sooner (power_calls step t Q g) (times_calls step g.j t known (power_of t Q g)) place f)

  pub stops_times : (place : SumPlace) (z : List (List Term)) → z ≡ power_of t Q g
      → All IsMade (power_calls step t Q g) → IsFirstAt (times_calls step g.j t product z) place
      → IsFirstAt (joined_calls step t Q w gs) place
  stops_times place z e m f =
      stops_next place
      (first_later (power_calls step t Q g) (times_calls step g.j t known (power_of t Q g)) place m
      (subst (λ (u : List (List Term)). IsFirstAt (times_calls step g.j t known u) place) e
      (subst (λ (u : List (List Term)). IsFirstAt (times_calls step g.j t u z) place) so_far.made f)))

  pub joined_more : (z new : List (List Term)) → z ≡ power_of t Q g → new ≡ times t product z
      → All IsMade (power_calls step t Q g) → All IsMade (times_calls step g.j t product z)
      → JoinedSoFar step t Q w gs (d + 1) new
  unfolding joined_calls
  joined_more z new e f m n =
      let next : take (d + 1) gs ≡ take d gs ++ g ∷ [] =
      take_more gs d g l ∙ ap (λ (h : Powering). take d gs ++ h ∷ []) g_is in
      record {
        made = f ∙ ap (λ (u : List (List Term)). times t u z) so_far.made ∙ ap (times t known) e
            ∙ sym (ap (joined t Q w) next ∙ joined-push t Q w (take d gs) g);
        walked = subst (λ (hs : List Powering). All IsMade (joined_calls step t Q w hs)) (sym next)
            (subst (All IsMade) (sym (calls-append step t Q w (take d gs) (g ∷ [])))
            (made_both (joined_calls step t Q w (take d gs))
            (joined_calls step t Q known (g ∷ [])) so_far.walked
            (made_both (next_calls step t Q known g) []
            (made_both (power_calls step t Q g) (times_calls step g.j t known (power_of t Q g)) m
            (subst (λ (u : List (List Term)). All IsMade (times_calls step g.j t known u)) e
            (subst (λ (u : List (List Term)). All IsMade (times_calls step g.j t u z)) so_far.made n)))
            (All-nil IsMade))));
      }

pub joined_ends : (step : SumStep) (t : Tabled) (Q w : List (List Term)) (gs : List Powering) (d : ℕ)
    (product : List (List Term)) → take d gs ≡ gs → JoinedSoFar step t Q w gs d product
    → (product ≡ joined t Q w gs) × All IsMade (joined_calls step t Q w gs)
joined_ends step t Q w gs d product e s = (
  s.made ∙ ap (joined t Q w) e,
  subst (λ (hs : List Powering). All IsMade (joined_calls step t Q w hs)) e s.walked,
)
