-- Outcomes of one presentation are alike, whatever is proposed, unless a sum plan overflows.
--   p presentation · os others the proposals for each level · r s outcomes · c d compiled
--   o q overlaps · i m levels
use Rattle.std.proofs.Common.{◌≡◌, ◌≢◌, ℕ, List, sym, ◌∙◌, arith}
use Rattle.nil_pres.specs.Presented.{Presented, IsPresented}
use Rattle.overlap_test.specs.declared.overlap.Overlap.{Overlap}
use Rattle.overlap_test.specs.declared.level_result.LevelResult.{LevelResult}
use Rattle.overlap_test.specs.declared.level_result.LevelResult.TheVariants.{Agree, Differ, Wide}
use Rattle.hall_compile.specs.declared.outcome.Outcome.{Outcome}
use Rattle.hall_compile.specs.declared.outcome.Outcome.TheVariants as outcome
use Rattle.hall_compile.specs.declared.wide_place.WidePlace.TheVariants as place
use Rattle.hall_compile.specs.declared.compiled.Compiled.{Compiled}
use Rattle.hall_compile.specs.Proposals.{Proposal}
use Rattle.hall_compile.specs.Outcomes.{IsCompiled, IsOutcome}
use Rattle.hall_compile.specs.Deciding.{AreAlike, IsWideSum}
use Rattle.hall_compile.proofs.BaseValues.{LastMultiplies}
use Rattle.hall_compile.proofs.Reaching.{AcceptedMultiply, reached_multiplies, passed}
use Rattle.hall_compile.proofs.Alike.{OneTable, Says, agreed, below_last, one_stop}

not_differ : (o : Overlap) → Agree ≢ Differ o
not_differ o e = cc

not_wide : (j k : ℕ) → Agree ≢ Wide j k
not_wide j k e = cc

not_both : (o : Overlap) (j k : ℕ) → Differ o ≢ Wide j k
not_both o j k e = cc

module _ (p : Presented) (h : IsPresented p) (law : AcceptedMultiply) (last : LastMultiplies)
    (one : OneTable) where
  -- what is compiled has passed each level
  no_stop : (os others : ℕ → List Proposal) (c : Compiled) (m : ℕ) (s : LevelResult)
      → IsCompiled p os c → Says p h law last one others m s → Agree ≢ s → ⊥
  no_stop os others c m s a b n =
      n (agreed p h law last one others m s
      (passed p os h law last m a.reached (omega (arith, a.level, b.least))
      (below_last p h law last one others m s b)) b)

  one_compiled : (os others : ℕ → List Proposal) (c d : Compiled) → IsCompiled p os c
      → IsCompiled p others d → c.checked ≡ d.checked
  one_compiled os others c d a b =
      let t = reached_multiplies p os h law last a.reached in
      let u = reached_multiplies p others h law last b.reached in
      let table : c.checked.table ≡ d.checked.table =
      one p c.checked.table d.checked.table h t.0 u.0 t.1 u.1 (a.level ∙ sym b.level) in
      let pres : c.checked.pres ≡ d.checked.pres = a.pres ∙ sym b.pres in
      λ i. record { pres = pres i; table = table i }

  pub alike : (os others : ℕ → List Proposal) (r s : Outcome) → IsOutcome p os r
      → IsOutcome p others s → ¬ IsWideSum r → ¬ IsWideSum s → AreAlike r s
  alike os others (outcome.Wide (place.Sum i at)) s a b nr ns = absurd (nr tt)
  alike os others (outcome.Wide (place.Trees k)) s a b nr ns = absurd a
  alike os others r (outcome.Wide (place.Sum i at)) a b nr ns = absurd (ns tt)
  alike os others r (outcome.Wide (place.Trees k)) a b nr ns = absurd b
  alike os others (outcome.Compiled c) (outcome.Compiled d) a b nr ns =
      one_compiled os others c d a b
  alike os others (outcome.Compiled c) (outcome.Inconsistent o) a b nr ns =
      absurd (no_stop os others c o.i (Differ o) a b (not_differ o))
  alike os others (outcome.Compiled c) (outcome.Wide (place.Overlap i j k)) a b nr ns =
      absurd (no_stop os others c i (Wide j k) a b (not_wide j k))
  alike os others (outcome.Inconsistent o) (outcome.Compiled d) a b nr ns =
      absurd (no_stop others os d o.i (Differ o) b a (not_differ o))
  alike os others (outcome.Wide (place.Overlap i j k)) (outcome.Compiled d) a b nr ns =
      absurd (no_stop others os d i (Wide j k) b a (not_wide j k))
  alike os others (outcome.Inconsistent o) (outcome.Inconsistent q) a b nr ns =
      let e : Differ o ≡ Differ q =
      (one_stop p h law last one os others o.i q.i (Differ o) (Differ q) a b (not_differ o)
      (not_differ q)).1 in
      cc
  alike os others (outcome.Inconsistent o) (outcome.Wide (place.Overlap i j k)) a b nr ns =
      absurd (not_both o j k
      (one_stop p h law last one os others o.i i (Differ o) (Wide j k) a b (not_differ o)
      (not_wide j k)).1)
  alike os others (outcome.Wide (place.Overlap i j k)) (outcome.Inconsistent q) a b nr ns =
      absurd (not_both q j k (sym
      (one_stop p h law last one os others i q.i (Wide j k) (Differ q) a b (not_wide j k)
      (not_differ q)).1))
  alike os others (outcome.Wide (place.Overlap i j k)) (outcome.Wide (place.Overlap m l n)) a b nr
      ns =
      let (level, says) = one_stop p h law last one os others i m (Wide j k) (Wide l n) a b
      (not_wide j k) (not_wide l n) in
      cc (level, says)
