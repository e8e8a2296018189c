-- The entries that are sums of steps: 0 where t is 0, and moved by each step as the table multiplies.
--   t table · ys what a step multiplies by · xs the first entries · d how many entries follow
--   k l generators · i c places · a point · step j of a place
use Rattle.std.proofs.Common.{◌≡◌, ℕ, zero, suc, ◌+◌, ◌-◌, ◌<◌, ◌≤◌, List, [], ◌∷◌, ◌++◌, length, get_or, refl, sym, ap, ◌∙◌, subst, arith}
use Rattle.std.specs.Prelude.{All}
use Rattle.std.proofs.lemmas.List.{get_or_append_left, length-append}
use Rattle.std.proofs.lemmas.List.Elements.{All-head, All-tail}
use Rattle.std.proofs.Math.Seq.{get_or-append_seam}
use lib.IntN.{ℤ, pos, ◌+ℤ◌}
use Rattle.nil_word.specs.Exponents.{entry}
use Rattle.binom_poly.specs.declared.term.Term.{Term}
use Rattle.binom_poly.specs.Polynomial.{value_of}
use Rattle.binom_poly.specs.Variable.{step_variable}
use Rattle.poly_subst.specs.Steps.{summed, bump}
use Rattle.poly_subst.specs.Substitute.{replaced}
use Rattle.hall_table.specs.Tabled.{Tabled, IsTabled, last_of, poly_at, poly_in}
use Rattle.hall_table.specs.Values.{point_of, values}
use Rattle.hall_table.specs.Order.{generators}
use Rattle.hall_table.proofs.Entries.{entry-values}
use Rattle.sum_compiler.specs.declared.sum_step.SumStep.{SumStep}
use Rattle.sum_compiler.specs.Calls.{Call, IsMade, IsSubstituted, IsSummed}
use Rattle.sum_compiler.specs.Calls.Call.{puts_in, sums}
use Rattle.sum_compiler.specs.Summing.{next, next_list, next_step, next_calls, with_sums, sum_calls}
use Rattle.sum_compiler.specs.Readings.{read}
use Rattle.sum_compiler.proofs.Walking.{made_left, made_right}
use Rattle.sum_compiler.proofs.PutSoFar.{at}
use Rattle.sum_compiler.proofs.SumsSoFar.{length-with_sums}
use Rattle.sum_compiler.proofs.Replacing.{replaced-x, replaced-y}
use Rattle.sum_compiler.proofs.ReadAt.{bounds_of, entry-read, AgreeBelow, value-moved, point-x, point-y}

-- ---- earlier entries stay
pub kept : (t : Tabled) (ys xs : List (List Term)) (c d i : ℕ) → i < length xs + d
    → get_or (with_sums t ys xs (c + d)) i [] ≡ get_or (with_sums t ys xs d) i []
unfolding with_sums
kept t ys xs zero d i l =
    ap (λ (n : ℕ). get_or (with_sums t ys xs n) i []) (let e : 0 + d ≡ d = omega arith in e)
kept t ys xs (suc c) d i l =
    let before = with_sums t ys xs (c + d) in
    let size = length-with_sums t ys xs (c + d) in
    ap (λ (n : ℕ). get_or (with_sums t ys xs n) i []) (let e : suc c + d ≡ suc (c + d) = omega arith in e)
    ∙ get_or_append_left before (summed step_variable (next_step t ys before) ∷ []) [] i (omega arith)
    ∙ kept t ys xs c d i l

pub with_sums-none : (t : Tabled) (ys xs : List (List Term)) → with_sums t ys xs 0 ≡ xs
unfolding with_sums
with_sums-none t ys xs = refl

pub kept_at : (t : Tabled) (ys xs : List (List Term)) (d end i : ℕ) → d ≤ end → i < length xs + d
    → get_or (with_sums t ys xs end) i [] ≡ get_or (with_sums t ys xs d) i []
kept_at t ys xs d end i l u =
    ap (λ (n : ℕ). get_or (with_sums t ys xs n) i [])
    (let e : end ≡ (end - d) + d = omega arith in e)
    ∙ kept t ys xs (end - d) d i u

-- the entry at a place is the sum of its step
pub entry-sum : (t : Tabled) (ys xs : List (List Term)) (d end : ℕ) → d < end
    → get_or (with_sums t ys xs end) (length xs + d) []
    ≡ summed step_variable (next_step t ys (with_sums t ys xs d))
unfolding with_sums
entry-sum t ys xs d end l =
    let before = with_sums t ys xs d in
    kept_at t ys xs (suc d) end (length xs + d) (omega arith) (omega arith)
    ∙ ap (λ (i : ℕ). get_or (with_sums t ys xs (suc d)) i []) (sym (length-with_sums t ys xs d))
    ∙ get_or-append_seam before (summed step_variable (next_step t ys before)) [] []

-- ---- the calls of an entry are made
calls_upto : (step : SumStep) (j : ℕ) (t : Tabled) (ys xs : List (List Term)) (c d : ℕ)
    → All IsMade (sum_calls step j t ys xs (c + d)) → All IsMade (sum_calls step j t ys xs d)
unfolding sum_calls
calls_upto step j t ys xs zero d h =
    subst (λ (n : ℕ). All IsMade (sum_calls step j t ys xs n)) (let e : 0 + d ≡ d = omega arith in e) h
calls_upto step j t ys xs (suc c) d h =
    calls_upto step j t ys xs c d
    (made_left (sum_calls step j t ys xs (c + d)) (next_calls step j t ys (with_sums t ys xs (c + d)))
    (subst (λ (n : ℕ). All IsMade (sum_calls step j t ys xs n))
    (let e : suc c + d ≡ suc (c + d) = omega arith in e) h))

calls_at : (step : SumStep) (j : ℕ) (t : Tabled) (ys xs : List (List Term)) (d end : ℕ) → d < end
    → All IsMade (sum_calls step j t ys xs end)
    → All IsMade (next_calls step j t ys (with_sums t ys xs d))
unfolding sum_calls
calls_at step j t ys xs d end l h =
    made_right (sum_calls step j t ys xs d) (next_calls step j t ys (with_sums t ys xs d))
    (calls_upto step j t ys xs (end - suc d) (suc d)
    (subst (λ (n : ℕ). All IsMade (sum_calls step j t ys xs n))
    (let e : end ≡ (end - suc d) + suc d = omega arith in e) h))

pub record IsEntry (t : Tabled) (ys before : List (List Term)) : Type 0 where
  pub substituted : IsSubstituted (poly_at t (next t before)) (next_list t ys before)
  pub summed : IsSummed (next_step t ys before)

pub entry_made : (step : SumStep) (j : ℕ) (t : Tabled) (ys xs : List (List Term)) (d end : ℕ) → d < end
    → All IsMade (sum_calls step j t ys xs end) → IsEntry t ys (with_sums t ys xs d)
entry_made step j t ys xs d end l h =
    let before = with_sums t ys xs d in
    let k = next t before in
    let put : Call = puts_in (at step j k) (poly_at t k) (next_list t ys before) in
    let sum : Call = sums (at step j k) (next_step t ys before) in
    let both = calls_at step j t ys xs d end l h in
    record {
      substituted = (All-head IsMade put (sum ∷ []) both).gains;
      summed = (All-head IsMade sum [] (All-tail IsMade put (sum ∷ []) both)).gains;
    }

-- ---- an entry at a point
pub entry-start : (step : SumStep) (j : ℕ) (t : Tabled) (ys xs : List (List Term)) (end k : ℕ)
    (a : ℕ → ℤ) → All IsMade (sum_calls step j t ys xs end) → t.level + length xs ≤ k
    → k < t.level + length xs + end → a step_variable ≡ pos 0
    → value_of a (poly_in t.level (with_sums t ys xs end) k) ≡ pos 0
entry-start step j t ys xs end k a h low high z =
    let d = k - (t.level + length xs) in
    ap (λ (i : ℕ). value_of a (get_or (with_sums t ys xs end) i []))
    (let e : k - t.level ≡ length xs + d = omega arith in e)
    ∙ ap (value_of a) (entry-sum t ys xs d end (omega arith))
    ∙ (entry_made step j t ys xs d end (omega arith) h).summed.start a z

pub nothing : (a : ℕ → ℤ) → value_of a [] ≡ pos 0
unfolding value_of
nothing a = refl

module _ (t : Tabled) (ys xs : List (List Term)) (d end : ℕ) (a : ℕ → ℤ) (h : IsTabled t)
    (many : length ys ≡ generators t) (whole : length xs + end ≡ generators t) (l : d < end) where
  abbrev before : List (List Term)
  before = with_sums t ys xs d

  abbrev after : List (List Term)
  after = with_sums t ys xs end

  abbrev point : ℕ → ℤ
  point = replaced (next_list t ys before) a

  abbrev product : ℕ → ℤ
  product = point_of (read t a after) (read t a ys)

  known : (m : ℕ) → t.level ≤ m → m < t.level + length before
      → poly_in t.level (before ++ [] ∷ []) m ≡ poly_in t.level after m
  known m low high =
      let size = length-with_sums t ys xs d in
      get_or_append_left before ([] ∷ []) [] (m - t.level) (omega arith)
      ∙ sym (kept_at t ys xs d end (m - t.level) (omega arith) (omega arith))

  agree : AgreeBelow t (next t before) product point
  agree =
      let b = bounds_of t h in
      let least : 1 ≤ t.level = b.least in
      let last : last_of t ≤ 48 = b.last in
      let some : t.level + length t.polys ≡ suc (last_of t) = b.end in
      let size = length-with_sums t ys xs d in
      let more = length-append before ([] ∷ []) in
      record {
        x = λ m low high.
            point-x (read t a after) (read t a ys) m (omega arith)
            ∙ entry-read t a after m least low (omega arith)
            ∙ sym (replaced-x t.level (before ++ [] ∷ []) ys a m low (omega arith) (omega arith)
            ∙ ap (value_of a) (known m low high));
        y = λ m low high.
            point-y (read t a after) (read t a ys) m
            ∙ entry-read t a ys m least low (omega arith)
            ∙ sym (replaced-y t.level (before ++ [] ∷ []) ys a m low (omega arith));
      }

  pub step_adds : (k : ℕ) → k ≡ t.level + length xs + d
      → entry (values t (read t a after) (read t a ys)) k
      ≡ value_of a (poly_in t.level after k) +ℤ value_of point (poly_at t k)
  step_adds k e =
      let b = bounds_of t h in
      let least : 1 ≤ t.level = b.least in
      let last : last_of t ≤ 48 = b.last in
      let some : t.level + length t.polys ≡ suc (last_of t) = b.end in
      let size = length-with_sums t ys xs d in
      let more = length-append before ([] ∷ []) in
      let here : next t before ≡ k = omega arith in
      let place : k - t.level ≡ length before = omega arith in
      entry-values t (read t a after) (read t a ys) k h (omega arith) (omega arith)
      ∙ value-moved t k product point h (omega arith) (omega arith)
      (subst (λ (m : ℕ). AgreeBelow t m product point) here agree)
      (replaced-x t.level (before ++ [] ∷ []) ys a k (omega arith) (omega arith) (omega arith)
      ∙ ap (λ (i : ℕ). value_of a (get_or (before ++ [] ∷ []) i [])) place
      ∙ ap (value_of a) (get_or-append_seam before [] [] [])
      ∙ nothing a)
      (point-y (read t a after) (read t a ys) k
      ∙ entry-read t a ys k least (omega arith) (omega arith)
      ∙ sym (replaced-y t.level (before ++ [] ∷ []) ys a k (omega arith) (omega arith)))
      ∙ ap (λ z. z +ℤ value_of point (poly_at t k))
      (point-x (read t a after) (read t a ys) k (omega arith)
      ∙ entry-read t a after k least (omega arith) (omega arith))

pub entry-step : (step : SumStep) (j : ℕ) (t : Tabled) (ys xs : List (List Term)) (end k : ℕ)
    (a : ℕ → ℤ) → IsTabled t → length ys ≡ generators t → length xs + end ≡ generators t
    → All IsMade (sum_calls step j t ys xs end) → t.level + length xs ≤ k → k ≤ last_of t
    → value_of (bump step_variable a) (poly_in t.level (with_sums t ys xs end) k)
    ≡ entry (values t (read t a (with_sums t ys xs end)) (read t a ys)) k
entry-step step j t ys xs end k a h many whole made low high =
    let some : t.level + length t.polys ≡ suc (last_of t) = (bounds_of t h).end in
    let d = k - (t.level + length xs) in
    let before = with_sums t ys xs d in
    let after = with_sums t ys xs end in
    let size = length-with_sums t ys xs d in
    let here : next t before ≡ k = omega arith in
    let entry : IsEntry t ys before = entry_made step j t ys xs d end (omega arith) made in
    let is : poly_in t.level after k ≡ summed step_variable (next_step t ys before) =
    ap (λ (i : ℕ). get_or after i []) (let e : k - t.level ≡ length xs + d = omega arith in e)
    ∙ entry-sum t ys xs d end (omega arith) in
    ap (value_of (bump step_variable a)) is
    ∙ entry.summed.step a
    ∙ ap (λ (p : List Term). value_of a p +ℤ value_of a (next_step t ys before)) (sym is)
    ∙ ap (λ z. value_of a (poly_in t.level after k) +ℤ z)
    (entry.substituted.value a
    ∙ ap (λ (m : ℕ). value_of (replaced (next_list t ys before) a) (poly_at t m)) here)
    ∙ sym (step_adds t ys xs d end a h many whole (omega arith) k (omega arith))
