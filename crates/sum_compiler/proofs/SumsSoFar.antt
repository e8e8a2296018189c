-- What the loop keeps that makes the entries of a vector that moves with t.
--   t table · ys what a step multiplies by · xs the first entries · k generator of the next entry
--   d how many entries were made · list what is put in for the next one · step j of a place
--   p f_k · added what a step adds to the entry · to the entry
use Rattle.std.proofs.Common.{◌≡◌, ℕ, zero, suc, ◌+◌, ◌-◌, ◌<◌, ◌≤◌, List, [], ◌∷◌, ◌++◌, length, map, take, drop, sym, ap, ◌∙◌, subst, arith, append_assoc}
use Rattle.std.specs.Prelude.{All, AllPairs}
use Rattle.std.proofs.lemmas.List.{length-append}
use Rattle.std.proofs.lemmas.List.Elements.{All-nil}
use Rattle.std.proofs.Math.Seq.{take-append_seam, drop-append_seam}
use Rattle.binom_poly.specs.declared.term.Term.{Term}
use Rattle.binom_poly.specs.Variable.{step_variable}
use Rattle.poly_subst.specs.declared.assign.Assign.{Assign}
use Rattle.poly_subst.specs.Steps.{summed}
use Rattle.poly_subst.specs.Substitute.{substituted}
use Rattle.hall_table.specs.Tabled.{Tabled, IsTabled, last_of, poly_at}
use Rattle.hall_table.specs.Order.{generators}
use Rattle.sum_compiler.specs.declared.sum_step.SumStep.{SumStep}
use Rattle.sum_compiler.specs.declared.sum_place.SumPlace.{SumPlace}
use Rattle.sum_compiler.specs.Calls.{Call, IsFirstAt, IsMade}
use Rattle.sum_compiler.specs.Calls.Call.{puts_in, sums}
use Rattle.sum_compiler.specs.Putting.{in_place, into}
use Rattle.sum_compiler.specs.Summing.{next, next_list, next_step, next_calls, with_sums, sum_calls}
use Rattle.sum_compiler.proofs.Walking.{first_sooner, first_later, made_both}
use Rattle.sum_compiler.proofs.Listing.{Named, Apart, in_place-push, length-in_place, polys-in_place, named-into, apart-into}
use Rattle.sum_compiler.proofs.PutSoFar.{at}

pub length-with_sums : (t : Tabled) (ys xs : List (List Term)) (d : ℕ)
    → length (with_sums t ys xs d) ≡ length xs + d
unfolding with_sums
length-with_sums t ys xs zero = let e : length xs ≡ length xs + 0 = omega arith in e
length-with_sums t ys xs (suc d) =
    let before = with_sums t ys xs d in
    length-append before (summed step_variable (next_step t ys before) ∷ [])
    ∙ (let e = length-with_sums t ys xs d in
    let f : length before + 1 ≡ length xs + suc d = omega arith in f)

into-push : (level : ℕ) (xs ys : List (List Term)) (p : List Term)
    → into level xs ys ++ record { var = level + length xs; to = p } ∷ []
    ≡ into level (xs ++ p ∷ []) ys
into-push level xs ys p =
    append_assoc (in_place (64 + level) ys) (in_place level xs)
    (record { var = level + length xs; to = p } ∷ [])
    ∙ ap (λ (ss : List Assign). in_place (64 + level) ys ++ ss) (sym (in_place-push level xs p))

-- ---- the calls
first_upto : (step : SumStep) (j : ℕ) (t : Tabled) (ys xs : List (List Term)) (c d : ℕ) (place : SumPlace)
    → IsFirstAt (sum_calls step j t ys xs d) place → IsFirstAt (sum_calls step j t ys xs (c + d)) place
unfolding sum_calls
first_upto step j t ys xs zero d place f =
    subst (λ (n : ℕ). IsFirstAt (sum_calls step j t ys xs n) place) (let e : d ≡ 0 + d = omega arith in e) f
first_upto step j t ys xs (suc c) d place f =
    subst (λ (n : ℕ). IsFirstAt (sum_calls step j t ys xs n) place)
    (let e : suc (c + d) ≡ suc c + d = omega arith in e)
    (first_sooner (sum_calls step j t ys xs (c + d))
    (next_calls step j t ys (with_sums t ys xs (c + d))) place
    (first_upto step j t ys xs c d place f))

pub record SumsSoFar (step : SumStep) (j : ℕ) (t : Tabled) (ys xs : List (List Term)) (k : ℕ)
    (list : List Assign) : Type 0 where
  pub begun : t.level + length xs ≤ k
  pub listed : list ≡ into t.level (with_sums t ys xs (k - (t.level + length xs))) ys
  pub walked : All IsMade (sum_calls step j t ys xs (k - (t.level + length xs)))

pub sums_begin : (step : SumStep) (j : ℕ) (t : Tabled) (ys xs : List (List Term)) (k : ℕ)
    (list : List Assign) → k ≡ t.level + length xs → list ≡ into t.level xs ys
    → SumsSoFar step j t ys xs k list
unfolding with_sums sum_calls
sums_begin step j t ys xs k list e f =
    let z : 0 ≡ k - (t.level + length xs) = omega arith in
    record {
      begun = omega arith;
      listed = f ∙ ap (λ (d : ℕ). into t.level (with_sums t ys xs d) ys) z;
      walked = subst (λ (d : ℕ). All IsMade (sum_calls step j t ys xs d)) z (All-nil IsMade);
    }

-- the list with which the next entry is made, and with the entry in it
pub sums_pushed : (step : SumStep) (j : ℕ) (t : Tabled) (ys xs : List (List Term)) (k : ℕ)
    (list new : List Assign) (v : ℕ) (p : List Term) → v ≡ k
    → new ≡ list ++ record { var = v; to = p } ∷ [] → SumsSoFar step j t ys xs k list
    → new ≡ into t.level (with_sums t ys xs (k - (t.level + length xs)) ++ p ∷ []) ys
sums_pushed step j t ys xs k list new v p e f s =
    let d = k - (t.level + length xs) in
    let before = with_sums t ys xs d in
    let begun : t.level + length xs ≤ k = s.begun in
    f ∙ ap (λ (us : List Assign). us ++ record { var = v; to = p } ∷ []) s.listed
    ∙ ap (λ (w : ℕ). into t.level before ys ++ record { var = w; to = p } ∷ [])
    (let size = length-with_sums t ys xs d in
    let same : v ≡ t.level + length before = omega arith in same)
    ∙ into-push t.level before ys p

next_is : (t : Tabled) (ys xs : List (List Term)) (k : ℕ) → t.level + length xs ≤ k
    → next t (with_sums t ys xs (k - (t.level + length xs))) ≡ k
next_is t ys xs k l =
    let size = length-with_sums t ys xs (k - (t.level + length xs)) in
    let e : t.level + length (with_sums t ys xs (k - (t.level + length xs))) ≡ k = omega arith in e

pub sums_named : (step : SumStep) (j : ℕ) (t : Tabled) (ys xs : List (List Term)) (k : ℕ)
    (list new : List Assign) (v : ℕ) → IsTabled t → v ≡ k → k ≤ last_of t
    → length ys ≡ generators t
    → new ≡ list ++ record { var = v; to = [] } ∷ [] → SumsSoFar step j t ys xs k list
    → All Named new × AllPairs Apart new
sums_named step j t ys xs k list new v h e u n f s =
    let least : 1 ≤ t.level = h.least in
    let some : 0 < length t.polys = h.nonempty in
    let most : t.level + length t.polys ≤ 49 = h.most in
    let begun : t.level + length xs ≤ k = s.begun in
    let d = k - (t.level + length xs) in
    let before = with_sums t ys xs d in
    let size = length-with_sums t ys xs d in
    let more = length-append before ([] ∷ []) in
    let same = sums_pushed step j t ys xs k list new v [] e f s in
    let room : t.level + length (before ++ [] ∷ []) ≤ 49 = omega arith in (
      subst (All Named) (sym same) (named-into t.level (before ++ [] ∷ []) ys least room (omega arith)),
      subst (AllPairs Apart) (sym same) (apart-into t.level (before ++ [] ∷ []) ys room),
    )

-- ---- one more entry
module _ (step : SumStep) (j : ℕ) (t : Tabled) (ys xs : List (List Term)) (k : ℕ)
    (list made : List Assign) (v : ℕ) (p : List Term) (v_is : v ≡ k) (p_is : p ≡ poly_at t k)
    (pushed : made ≡ list ++ record { var = v; to = [] } ∷ [])
    (so_far : SumsSoFar step j t ys xs k list) where
  abbrev d : ℕ
  d = k - (t.level + length xs)

  abbrev before : List (List Term)
  before = with_sums t ys xs d

  call_is : puts_in (at step j k) p made
      ≡ puts_in (at step j (next t before)) (poly_at t (next t before)) (next_list t ys before)
  call_is =
      let e : k ≡ next t before = sym (next_is t ys xs k so_far.begun) in
      ap (λ (q : List Term). puts_in (at step j k) q made) p_is
      ∙ ap (λ (us : List Assign). puts_in (at step j k) (poly_at t k) us)
      (sums_pushed step j t ys xs k list made v [] v_is pushed so_far)
      ∙ ap (λ (m : ℕ). puts_in (at step j m) (poly_at t m) (next_list t ys before)) e

  step_is : substituted p made ≡ next_step t ys before
  step_is =
      let e : k ≡ next t before = sym (next_is t ys xs k so_far.begun) in
      ap (λ (q : List Term). substituted q made) p_is
      ∙ ap (substituted (poly_at t k))
      (sums_pushed step j t ys xs k list made v [] v_is pushed so_far)
      ∙ ap (λ (m : ℕ). substituted (poly_at t m) (next_list t ys before)) e

  sum_is : (added : List Term) → added ≡ substituted p made
      → sums (at step j k) added ≡ sums (at step j (next t before)) (next_step t ys before)
  sum_is added e =
      ap (sums (at step j k)) (e ∙ step_is)
      ∙ ap (λ (m : ℕ). sums (at step j m) (next_step t ys before))
      (sym (next_is t ys xs k so_far.begun))

  -- the first that overflows is one of the calls for k
  stops_next : (end : ℕ) (place : SumPlace) → d < end → IsFirstAt (next_calls step j t ys before) place
      → IsFirstAt (sum_calls step j t ys xs end) place
  unfolding sum_calls
  stops_next end place l f =
      subst (λ (n : ℕ). IsFirstAt (sum_calls step j t ys xs n) place)
      (let e : (end - suc d) + suc d ≡ end = omega arith in e)
      (first_upto step j t ys xs (end - suc d) (suc d) place
      (first_later (sum_calls step j t ys xs d) (next_calls step j t ys before) place so_far.walked f))

  pub stops_put : (end : ℕ) (place : SumPlace) → d < end
      → IsFirstAt (puts_in (at step j k) p made ∷ []) place
      → IsFirstAt (sum_calls step j t ys xs end) place
  stops_put end place l f =
      stops_next end place l
      (first_sooner
      (puts_in (at step j (next t before)) (poly_at t (next t before)) (next_list t ys before) ∷ [])
      (sums (at step j (next t before)) (next_step t ys before) ∷ []) place
      (subst (λ (c : Call). IsFirstAt (c ∷ []) place) call_is f))

  pub stops_sum : (end : ℕ) (place : SumPlace) (added : List Term) → d < end
      → added ≡ substituted p made → All IsMade (puts_in (at step j k) p made ∷ [])
      → IsFirstAt (sums (at step j k) added ∷ []) place
      → IsFirstAt (sum_calls step j t ys xs end) place
  stops_sum end place added l e m f =
      stops_next end place l
      (first_later
      (puts_in (at step j (next t before)) (poly_at t (next t before)) (next_list t ys before) ∷ [])
      (sums (at step j (next t before)) (next_step t ys before) ∷ []) place
      (subst (λ (c : Call). All IsMade (c ∷ [])) call_is m)
      (subst (λ (c : Call). IsFirstAt (c ∷ []) place) (sum_is added e) f))

  pub sums_more : (known : ℕ) (cut new : List Assign) (w : ℕ) (added to : List Term)
      → known ≡ length list → cut ≡ take known made → w ≡ k
      → added ≡ substituted p made → to ≡ summed step_variable added
      → new ≡ cut ++ record { var = w; to = to } ∷ []
      → All IsMade (puts_in (at step j k) p made ∷ []) → All IsMade (sums (at step j k) added ∷ [])
      → SumsSoFar step j t ys xs (k + 1) new
  unfolding with_sums sum_calls
  sums_more known cut new w added to size cut_is w_is e f g m n =
      let begun : t.level + length xs ≤ k = so_far.begun in
      let more : suc d ≡ k + 1 - (t.level + length xs) = omega arith in
      let back : cut ≡ list =
      cut_is ∙ ap (λ (us : List Assign). take known us) pushed
      ∙ ap (λ (i : ℕ). take i (list ++ record { var = v; to = [] } ∷ [])) size
      ∙ take-append_seam list (record { var = v; to = [] } ∷ []) in
      let sum : to ≡ summed step_variable (next_step t ys before) =
      f ∙ ap (summed step_variable) (e ∙ step_is) in
      record {
        begun = omega arith;
        listed = sums_pushed step j t ys xs k list new w to w_is
            (g ∙ ap (λ (us : List Assign). us ++ record { var = w; to = to } ∷ []) back) so_far
            ∙ ap (λ (q : List Term). into t.level (before ++ q ∷ []) ys) sum
            ∙ ap (λ (i : ℕ). into t.level (with_sums t ys xs i) ys) more;
        walked = subst (λ (i : ℕ). All IsMade (sum_calls step j t ys xs i)) more
            (made_both (sum_calls step j t ys xs d) (next_calls step j t ys before) so_far.walked
            (made_both
            (puts_in (at step j (next t before)) (poly_at t (next t before)) (next_list t ys before) ∷ [])
            (sums (at step j (next t before)) (next_step t ys before) ∷ [])
            (subst (λ (c : Call). All IsMade (c ∷ [])) call_is m)
            (subst (λ (c : Call). All IsMade (c ∷ [])) (sum_is added e) n)));
      }

-- ---- the end
pub sums_end : (step : SumStep) (j : ℕ) (t : Tabled) (ys xs : List (List Term)) (k end count : ℕ)
    (list : List Assign) → k - (t.level + length xs) ≡ end → count ≡ length ys
    → SumsSoFar step j t ys xs k list
    → (map (λ s. s.to) (drop count list) ≡ with_sums t ys xs end)
    × All IsMade (sum_calls step j t ys xs end)
sums_end step j t ys xs k end count list e f s =
    let made = with_sums t ys xs end in
    let listed : list ≡ into t.level made ys =
    s.listed ∙ ap (λ (d : ℕ). into t.level (with_sums t ys xs d) ys) e in
    let dropped : drop count list ≡ in_place t.level made =
    ap (λ (us : List Assign). drop count us) listed
    ∙ ap (λ (i : ℕ). drop i (into t.level made ys)) (f ∙ sym (length-in_place (64 + t.level) ys))
    ∙ drop-append_seam (in_place (64 + t.level) ys) (in_place t.level made) in (
      ap (map (λ (s : Assign). s.to)) dropped ∙ polys-in_place t.level made,
      subst (λ (d : ℕ). All IsMade (sum_calls step j t ys xs d)) e s.walked,
    )
