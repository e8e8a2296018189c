-- What the table of a level says of a checked table above it.
--   c presentation with a table of the level above i · Q powers of the table · A images
--   ps polynomials that were made · x y vectors
use Rattle.std.proofs.Common.{◌≡◌, ℕ, suc, ◌+◌, ◌≤◌, ◌++◌, List, length, refl, sym, ap, ◌∙◌, subst, arith}
use Rattle.std.specs.Prelude.{All}
use lib.IntN.{ℤ, pos}
use Rattle.nil_word.specs.Factors.{IsFactored}
use Rattle.nil_word.specs.Words.{IsVector}
use Rattle.hall_law.specs.Plan.{Powers, Images, AreImages, summed, IsPlanned}
use Rattle.hall_law.specs.Table.{IsPresentation, IsTable}
use Rattle.nil_pres.specs.Presented.{Presented}
use Rattle.nil_pres.specs.Relations.{relations_of, between}
use Rattle.binom_poly.specs.declared.term.Term.{Term}
use Rattle.hall_table.specs.Agreement.{IsPowerOf, HaveEqualWays}
use Rattle.hall_table.specs.Multiplies.{Paired, IsChecked}
use Rattle.hall_table.specs.Tabled.{Tabled, IsTabled, AreShaped, IsFirstUnshaped}
use Rattle.hall_table.specs.Values.{values}
use Rattle.sum_compiler.specs.Calls.{IsMade}
use Rattle.sum_compiler.specs.Images.{all_images, image_plan}
use Rattle.sum_compiler.specs.Plan.{level_polys, last_plan, image_plan_from, plan}
use Rattle.sum_compiler.specs.Powers.{powers, power_plan}
use Rattle.sum_compiler.specs.Products.{product_plan}
use Rattle.sum_compiler.specs.Readings.{powers_at}
use Rattle.sum_compiler.proofs.Walking.{made_left}
use Rattle.sum_compiler.proofs.PowersAre.{powers_of}
use Rattle.sum_compiler.proofs.Conjugates.{planned_of}
use Rattle.sum_compiler.proofs.LevelTable.{are_shaped, values-level, table-level}

abbrev pub new_table : Paired → ℕ → Tabled
new_table c i =
    record { level = i; polys = level_polys (all_images c.table (between c.pres i)) c.table i }

pub record IsGiven (c : Paired) (i : ℕ) : Type 0 where
  pub presentation : IsPresentation (relations_of c.pres)
  pub factored : IsFactored (relations_of c.pres) (between c.pres)
  pub level : c.table.level ≡ i + 1
  pub least : 1 ≤ i
  pub checked : IsChecked c
  pub form : IsTabled c.table
  pub agree : HaveEqualWays c i
  pub made : All IsMade (plan c.table (between c.pres i) i)

module _ (c : Paired) (i : ℕ) (g : IsGiven c i) where
  planned : (Q : Powers) → IsPowerOf c Q
      → IsPlanned (relations_of c.pres) (between c.pres) i (values c.table) Q
  planned Q is_power =
      planned_of c i Q g.presentation g.factored g.level g.least g.checked is_power

  is_next : c.table.level ≡ suc i
  is_next = let level : c.table.level ≡ i + 1 = g.level in omega arith

  powers_made : All IsMade (power_plan c.table)
  powers_made =
      let right = between c.pres i in
      let As = all_images c.table right in
      made_left (power_plan c.table) (image_plan c.table right)
      (made_left (image_plan_from c.table right) (product_plan As c.table i)
      (made_left (image_plan_from c.table right ++ product_plan As c.table i)
      (last_plan As c.table i) g.made))

  abbrev own : Powers
  own = powers_at c.table (λ v. pos 0) (powers c.table)

  own_powers : IsPowerOf c own
  own_powers = powers_of c (powers c.table) g.form g.checked refl powers_made (λ v. pos 0)

  pub shaped_given : AreShaped i (new_table c i).polys
  shaped_given =
      are_shaped (relations_of c.pres) (between c.pres) i c.table own (planned own own_powers)
      g.form is_next g.checked.last (g.agree own own_powers) g.made

  pub table_given : IsTable (relations_of c.pres) i (values (new_table c i))
  table_given =
      table-level (relations_of c.pres) (between c.pres) i c.table own (planned own own_powers)
      g.form is_next g.checked.last (g.agree own own_powers) g.made

  pub values_given : (Q : Powers) → IsPowerOf c Q → (A : Images)
      → AreImages (relations_of c.pres) (between c.pres) i (values c.table) Q A
      → (x y : List ℤ) → IsVector (length c.pres.names) i x
      → IsVector (length c.pres.names) i y
      → values (new_table c i) x y ≡ summed (length c.pres.names) i (values c.table) Q A x y
  values_given Q is_power A are x y hx hy =
      values-level (relations_of c.pres) (between c.pres) i c.table Q (planned Q is_power) g.form
      is_next g.checked.last (g.agree Q is_power) g.made A are x y hx hy

-- ---- what a run answers, of a presentation p that is the one of c
pub plan_given : (c : Paired) (p : Presented) (i : ℕ) → c.pres ≡ p
    → All IsMade (plan c.table (between p i) i) → All IsMade (plan c.table (between c.pres i) i)
plan_given c p i same h =
    subst (λ (q : Presented). All IsMade (plan c.table (between q i) i)) (sym same) h

abbrev table_of : ℕ → List (List Term) → Tabled
table_of i ps = record { level = i; polys = ps }

pub table_is : (c : Paired) (p : Presented) (i : ℕ) (new : Tabled) (qs : List (List Term))
    → c.pres ≡ p → new ≡ record { level = i; polys = qs }
    → qs ≡ level_polys (all_images c.table (between p i)) c.table i → new ≡ new_table c i
table_is c p i new qs same e h =
    e ∙ ap (table_of i)
    (subst (λ (q : Presented). qs ≡ level_polys (all_images c.table (between q i)) c.table i)
    (sym same) h)

abbrev pub HasValues : Paired → Presented → ℕ → Tabled → Type 0
HasValues c p i new =
    (Q : Powers) → IsPowerOf c Q → (A : Images)
    → AreImages (relations_of p) (between p) i (values c.table) Q A
    → (x y : List ℤ) → IsVector (length p.names) i x → IsVector (length p.names) i y
    → values new x y ≡ summed (length p.names) i (values c.table) Q A x y

pub values_answered : (c : Paired) (p : Presented) (i : ℕ) (new : Tabled) → c.pres ≡ p
    → IsGiven c i → new ≡ new_table c i → HasValues c p i new
values_answered c p i new same g e =
    subst (λ (q : Presented). HasValues c q i new) same
    (subst (λ (t : Tabled). HasValues c c.pres i t) (sym e) (values_given c i g))

pub table_answered : (c : Paired) (p : Presented) (i : ℕ) (new : Tabled) → c.pres ≡ p
    → IsGiven c i → new ≡ new_table c i → IsTable (relations_of p) i (values new)
table_answered c p i new same g e =
    subst (λ (q : Presented). IsTable (relations_of q) i (values new)) same
    (subst (λ (t : Tabled). IsTable (relations_of c.pres) i (values t)) (sym e) (table_given c i g))

pub none_unshaped : (c : Paired) (p : Presented) (i k : ℕ) (qs : List (List Term)) → c.pres ≡ p
    → IsGiven c i → qs ≡ level_polys (all_images c.table (between p i)) c.table i
    → IsFirstUnshaped i qs k → ⊥
none_unshaped c p i k qs same g e f =
    let made : AreShaped i (level_polys (all_images c.table (between p i)) c.table i) =
    subst
    (λ (q : Presented). AreShaped i (level_polys (all_images c.table (between q i)) c.table i))
    same (shaped_given c i g) in
    let h = subst (λ (ps : List (List Term)). AreShaped i ps) (sym e) made in
    f.breaks (h k f.from f.to)
