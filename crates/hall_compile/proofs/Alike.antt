-- Outcomes of one presentation are alike, whatever is proposed.
--   p presentation · os others the proposals for each level · i m levels
--   c a presentation with its table · r s results of a level's overlaps · t u v tables
use Rattle.std.proofs.Common.{◌≡◌, ◌≢◌, ℕ, ◌<◌, List, length, sym, ◌∙◌, subst, refl, inl, inr, arith}
use Rattle.std.proofs.lemmas.Bool.{cases_lt}
use Rattle.nil_pres.specs.Presented.{Presented, IsPresented}
use Rattle.hall_table.specs.Multiplies.{Paired, IsChecked}
use Rattle.hall_table.specs.Tabled.{Tabled, IsTabled}
use Rattle.overlap_test.specs.declared.level_result.LevelResult.{LevelResult}
use Rattle.overlap_test.specs.declared.level_result.LevelResult.TheVariants.{Agree, Differ, Wide}
use Rattle.overlap_test.specs.Verdict.{IsVerdict}
use Rattle.hall_compile.specs.Proposals.{Proposal}
use Rattle.hall_compile.specs.Levels.{paired, StopsAt}
use Rattle.hall_compile.proofs.BaseValues.{LastMultiplies}
use Rattle.hall_compile.proofs.Reaching.{AcceptedMultiply, Passed, reached_multiplies, passed}

-- the law that a presentation has one table of a level
abbrev pub OneTable : Type 0
OneTable = (q : Presented) (s t : Tabled) → IsPresented q → IsTabled s → IsTabled t
    → IsChecked (paired q s) → IsChecked (paired q t) → s.level ≡ t.level → s ≡ t

-- the overlaps of a level say one thing
pub one_verdict : (c : Paired) (i : ℕ) (r s : LevelResult) → IsVerdict c i r → IsVerdict c i s
    → r ≡ s
one_verdict c i Agree s v w = sym (w.agree.1 (v.agree.0 refl))
one_verdict c i (Differ o) s v w = sym ((w.differ o).1 ((v.differ o).0 refl))
one_verdict c i (Wide j k) s v w = sym ((w.wide j k).1 ((v.wide j k).0 refl))

module _ (p : Presented) (h : IsPresented p) (law : AcceptedMultiply) (last : LastMultiplies)
    (one : OneTable) where
  abbrev pub Says : (ℕ → List Proposal) → ℕ → LevelResult → Type 0
  Says os i r = StopsAt p os i (λ c. IsVerdict c i r)

  same_above : (os others : ℕ → List Proposal) (i : ℕ) (r s : LevelResult) → Says os i r
      → Says others i s → r ≡ s
  same_above os others i r s a b =
      let t = reached_multiplies p os h law last a.reached in
      let u = reached_multiplies p others h law last b.reached in
      let same : a.above ≡ b.above =
      one p a.above b.above h t.0 u.0 t.1 u.1 (a.level ∙ sym b.level) in
      one_verdict (paired p b.above) i r s
      (subst (λ (v : Tabled). IsVerdict (paired p v) i r) same a.holds) b.holds

  -- a level that was passed isn't one where the overlaps don't agree
  pub agreed : (os : ℕ → List Proposal) (i : ℕ) (r : LevelResult) → Passed p i → Says os i r
      → Agree ≡ r
  agreed os i r q a =
      let t = reached_multiplies p os h law last a.reached in
      let same : q.above ≡ a.above =
      one p q.above a.above h q.form t.0 q.checked t.1 (q.level ∙ sym a.level) in
      one_verdict (paired p a.above) i Agree r
      (subst (λ (v : Tabled). IsVerdict (paired p v) i Agree) same q.agrees) a.holds

  -- the level is below the last generator
  pub below_last : (os : ℕ → List Proposal) (i : ℕ) (r : LevelResult) → Says os i r
      → i < length p.names
  below_last os i r a =
      let t = reached_multiplies p os h law last a.reached in
      omega (arith, a.level, t.0.nonempty, t.1.last)

  not_lower : (os others : ℕ → List Proposal) (i m : ℕ) (r s : LevelResult) → Says os i r
      → Says others m s → Agree ≢ s → i < m → ⊥
  not_lower os others i m r s a b stops less =
      stops (agreed others m s
      (passed p os h law last m a.reached (omega (arith, a.level, less))
      (below_last others m s b)) b)

  pub one_stop : (os others : ℕ → List Proposal) (i m : ℕ) (r s : LevelResult) → Says os i r
      → Says others m s → Agree ≢ r → Agree ≢ s → (i ≡ m) × (r ≡ s)
  one_stop os others i m r s a b nr ns =
      elim (cases_lt i m) [
        | inl less ↦ absurd (not_lower os others i m r s a b ns less)
        | inr most ↦ (elim (cases_lt m i) [
          | inl more ↦ absurd (not_lower others os m i s r b a nr more)
          | inr least ↦
              (let same : i ≡ m = omega (arith, most, least) in (
                same,
                same_above os others m r s
                    (subst (λ (k : ℕ). Says os k r) same a) b,
              ))
        ])
      ]
