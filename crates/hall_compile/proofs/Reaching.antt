-- The tables that a compile comes to multiply in the presentation.
--   p presentation · os the proposals for each level · t above tables · i m levels · o origin
--   by origins · list more entries
use Rattle.std.proofs.Common.{◌≡◌, ℕ, suc, ◌<◌, ◌≤◌, List, length, sym, ap, ◌∙◌, subst, inl, inr, arith}
use Rattle.std.proofs.lemmas.Bool.{cases_lt}
use Rattle.nil_pres.specs.Presented.{Presented, IsPresented}
use Rattle.nil_pres.specs.Relations.{relations_of}
use Rattle.hall_law.specs.Table.{IsTable}
use Rattle.hall_table.specs.Multiplies.{IsChecked}
use Rattle.hall_table.specs.Tabled.{Tabled, IsTabled, last_of}
use Rattle.hall_table.specs.Values.{values}
use Rattle.identity_check.specs.Events.{HaveEqualSides}
use Rattle.hall_compile.specs.declared.asked.Asked.{Asked}
use Rattle.hall_compile.specs.declared.origin.Origin.{Origin}
use Rattle.hall_compile.specs.declared.origin.Origin.TheVariants.{Base, Proposer, Sum}
use Rattle.hall_compile.specs.Proposals.{Proposal}
use Rattle.hall_compile.specs.Choices.{IsChosen}
use Rattle.overlap_test.specs.declared.level_result.LevelResult.TheVariants.{Agree}
use Rattle.overlap_test.specs.Verdict.{IsVerdict}
use Rattle.hall_compile.specs.Levels.{paired, Reached}
use Rattle.hall_compile.specs.Levels.Reached.{base, next}
use Rattle.hall_compile.proofs.Bases.{IsTabled-base_table}
use Rattle.hall_compile.proofs.BaseValues.{LastMultiplies, IsChecked-base_table}

-- the law of accepted tables
abbrev pub AcceptedMultiply : Type 0
AcceptedMultiply = (q : Presented) (t : Tabled) → IsPresented q → IsTabled t
    → last_of t ≡ length q.names → HaveEqualSides (relations_of q) t
    → IsTable (relations_of q) t.level (values t)

-- a chosen table multiplies, and it is of the level
pub chosen_multiplies : (p : Presented) (i : ℕ) (os : List Proposal) (above t : Tabled) (o : Origin)
    (list : List Asked) → IsPresented p → AcceptedMultiply
    → IsChosen (paired p above) i os o t list
    → (t.level ≡ i) × IsTabled t × IsChecked (paired p t)
chosen_multiplies p i os above t Base list h law c = absurd c
chosen_multiplies p i os above t (Proposer label) list h law c = (
  c.accepted.place.0,
  c.accepted.form,
  record {
    last = c.accepted.place.1;
    multiplies = law p t h c.accepted.form c.accepted.place.1 c.accepted.sides;
  },
)
chosen_multiplies p i os above t Sum list h law c = (
  c.1.place.0,
  c.1.form,
  record {
    last = c.1.place.1;
    multiplies = subst (λ (m : ℕ). IsTable (relations_of p) m (values t)) (sym c.1.place.0)
        c.1.multiplies;
  },
)

-- where a level was passed, its overlaps agree
pub record Passed (p : Presented) (i : ℕ) : Type 0 where
  pub above : Tabled
  pub form : IsTabled above
  pub checked : IsChecked (paired p above)
  pub level : above.level ≡ suc i
  pub agrees : IsVerdict (paired p above) i Agree

module _ (p : Presented) (os : ℕ → List Proposal) (h : IsPresented p) (law : AcceptedMultiply)
    (last : LastMultiplies) where
  pub reached_multiplies : {t : Tabled} {by : List Origin} {list : List Asked}
      → Reached p os t by list → IsTabled t × IsChecked (paired p t)
  reached_multiplies base = (
    IsTabled-base_table (length p.names) h.some h.names.few,
    IsChecked-base_table p h last,
  )
  reached_multiplies (next i above t by o list more r least level agrees chosen) =
      let m = chosen_multiplies p i (os i) above t o more h law chosen in (m.1, m.2)

  pub passed : {t : Tabled} {by : List Origin} {list : List Asked} (m : ℕ)
      → Reached p os t by list → t.level ≤ m → m < length p.names → Passed p m
  passed m base low high = absurd (omega (arith, low, high))
  passed m (next i above t by o list more r least level agrees chosen) low high =
      let at : t.level ≡ i = (chosen_multiplies p i (os i) above t o more h law chosen).0 in
      elim (cases_lt i m) [
        | inl less ↦ passed m r (omega (arith, level, less)) high
        | inr most ↦
            (let same : i ≡ m = omega (arith, at, low, most) in
            let upper = reached_multiplies r in
            record {
              above = above;
              form = upper.0;
              checked = upper.1;
              level = level ∙ ap suc same;
              agrees = subst (λ (k : ℕ). IsVerdict (paired p above) k Agree) same agrees;
            })
      ]
