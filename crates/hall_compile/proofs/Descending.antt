-- The levels of a compile, one after another.
--   Stands   the compile has come to a table of the level above i, and qs are the proposals for i
--   Comes    it has come to the table of a level
-- p presentation · os the proposals for each level, qs those of a level · c d pairs with their
-- tables · i m levels · by after origins · list new entries · r what comes of a level
use Rattle.std.proofs.Common.{◌≡◌, ℕ, suc, ◌≤◌, List, [], ◌∷◌, ◌++◌, length, map, take, drop, sym, ap, ◌∙◌, subst, arith, Vec}
use Rattle.std.proofs.lemmas.List.{length-map, with_items_is}
use Rattle.nil_word.specs.Congruence.{IsConsistent}
use Rattle.nil_pres.specs.Presented.{Presented, IsPresented}
use Rattle.nil_pres.specs.Relations.{relations_of}
use Rattle.hall_law.specs.Table.{IsTable}
use Rattle.hall_table.specs.Multiplies.{Paired, IsChecked, OfChecked}
use Rattle.hall_table.specs.Tabled.{Tabled}
use Rattle.hall_table.specs.Values.{values}
use Rattle.overlap_test.specs.declared.overlap.Overlap.{Overlap}
use Rattle.overlap_test.specs.declared.level_result.LevelResult.TheVariants as says
use Rattle.overlap_test.specs.Verdict.{IsVerdict}
use Rattle.hall_compile.specs.declared.asked.Asked.{Asked}
use Rattle.hall_compile.specs.declared.compiled.Compiled.{Compiled}
use Rattle.hall_compile.specs.declared.level.Level.{Level}
use Rattle.hall_compile.specs.declared.level.Level.TheVariants.{Chosen, Inconsistent, Wide}
use Rattle.hall_compile.specs.declared.origin.Origin.{Origin}
use Rattle.hall_compile.specs.declared.origin.Origin.TheVariants.{Base, Proposer, Sum}
use Rattle.hall_compile.specs.declared.wide_place.WidePlace.{WidePlace}
use Rattle.hall_compile.specs.declared.wide_place.WidePlace.TheVariants as place
use Rattle.hall_compile.specs.Proposals.{Proposal}
use Rattle.hall_compile.specs.Choices.{IsChosen, SumOverflows}
use Rattle.hall_compile.specs.Deciding.{IsSound}
use Rattle.hall_compile.specs.Levels.{base_table, paired, Reached, StopsAt}
use Rattle.hall_compile.specs.Levels.Reached.{base, next}
use Rattle.hall_compile.specs.Outcomes.{IsInconsistent, IsWide}
use Rattle.hall_compile.specs.Passing.{Passes}

-- ---- the proposers
pub given_for : {X : Type 0} (f : X → Proposal) {now old : List X} {qs : List Proposal} → now ≡ old
    → map f old ≡ qs → map f now ≡ qs
given_for f e h = ap (map f) e ∙ h

-- what is written back through a slice of them
pub mean_same : {X Z : Type 0} (f : ℕ → X → Proposal) (qs : ℕ → List Proposal) (v : Vec X Z)
    (now new : List X) → length now ≡ v.len → now ≡ v.items
    → ((m : ℕ) → map (f m) new ≡ map (f m) now) → ((m : ℕ) → map (f m) v.items ≡ qs m)
    → (m : ℕ) → map (f m) (take v.len (new ++ drop (length new) v.items)) ≡ qs m
mean_same f qs v now new long e same meant m =
    let long_new : length new ≡ v.len =
    sym (length-map new (f 0)) ∙ ap length (same 0) ∙ length-map now (f 0) ∙ long in
    ap (map (f m)) (with_items_is v new long_new) ∙ same m ∙ ap (map (f m)) e ∙ meant m

-- ---- the levels
chosen_level : (c : Paired) (i : ℕ) (qs : List Proposal) (o : Origin) (t : Tabled)
    (list : List Asked) → IsChosen c i qs o t list → t.level ≡ i
chosen_level c i qs Base t list h = absurd h
chosen_level c i qs (Proposer label) t list h = h.accepted.place.0
chosen_level c i qs Sum t list h = h.1.place.0

pub starts : {os : ℕ → List Proposal} (p : Presented) (c : Paired) (by : List Origin)
    (list : List Asked) → c ≡ paired p (base_table (length p.names)) → by ≡ Base ∷ [] → list ≡ []
    → Reached p os c.table by list
starts {os} p c by list e f g =
    subst (λ (d : Paired). Reached p os d.table by list) (sym e)
    (subst (λ (bs : List Origin). Reached p os (base_table (length p.names)) bs list) (sym f)
    (subst (λ (l : List Asked). Reached p os (base_table (length p.names)) (Base ∷ []) l) (sym g)
    base))

pub record Stands (p : Presented) (os : ℕ → List Proposal) (c : Paired) (i : ℕ) (qs : List Proposal)
    (by : List Origin) (list : List Asked) : Type 0 where
  pub pres : c.pres ≡ p
  pub level : c.table.level ≡ suc i
  pub least : 1 ≤ i
  pub reached : Reached p os c.table by list
  pub given : qs ≡ os i

pub record Comes (p : Presented) (os : ℕ → List Proposal) (d : Paired) (i : ℕ) (by : List Origin)
    (list : List Asked) : Type 0 where
  pub pres : d.pres ≡ p
  pub level : d.table.level ≡ i
  pub reached : Reached p os d.table by list

module _ {p : Presented} {os : ℕ → List Proposal} (c : Paired) (i : ℕ) {qs : List Proposal}
    {by : List Origin} {list : List Asked} (at : Stands p os c i qs by list) where
  moved : (P : Paired → List Proposal → Type 0) → P c qs → P (paired p c.table) (os i)
  moved P h =
      subst (P (paired p c.table)) at.given
      (subst (λ (q : Presented). P (paired q c.table) qs) at.pres h)

  stops : (P : Paired → ℕ → List Proposal → Type 0) (m : ℕ) → m ≡ i → P c i qs
      → StopsAt p os m (λ d. P d m (os m))
  stops P m e h = record {
    above = c.table;
    by = by;
    list = list;
    reached = at.reached;
    least = omega (arith, e, at.least);
    level = at.level ∙ ap suc (sym e);
    holds = subst (λ (k : ℕ). P (paired p c.table) k (os k)) (sym e) (moved (λ d ps. P d i ps) h);
  }

  pub chosen : {new : List Asked} {after : List Origin} (o : Origin) (d : Paired) (r : Level)
      → r ≡ Chosen o d → after ≡ by ++ o ∷ [] → Passes c i qs list new r
      → Comes p os d i after new
  chosen {new} {after} o d r e written h =
      let is = subst (Passes c i qs list new) e h in
      let (pres, agree, choice) = is.passage in
      let more = is.more in
      record {
        pres = pres ∙ at.pres;
        level = chosen_level c i qs o d.table more choice;
        reached = subst (λ (bs : List Origin). Reached p os d.table bs new) (sym written)
            (subst (Reached p os d.table (by ++ o ∷ [])) (sym is.written)
            (next i c.table d.table by o list more at.reached at.least at.level
            (moved (λ q ps. IsVerdict q i says.Agree) agree)
            (moved (λ q ps. IsChosen q i ps o d.table more) choice)));
      }

  pub inconsistent : {new : List Asked} (o : Overlap) (r : Level) → r ≡ Inconsistent o
      → Passes c i qs list new r → IsInconsistent p os o
  inconsistent {new} o r e h =
      let (level, differ) = (subst (Passes c i qs list new) e h).passage in
      stops (λ q m ps. IsVerdict q m (says.Differ o)) o.i level differ

  pub wide : {new : List Asked} (w : WidePlace) (r : Level) → r ≡ Wide w → Passes c i qs list new r
      → IsWide p os w
  wide {new} (place.Overlap m j k) r e h =
      let (level, wide) = (subst (Passes c i qs list new) e h).passage in
      stops (λ q l ps. IsVerdict q l (says.Wide j k)) m level wide
  wide {new} (place.Sum m w) r e h =
      let (level, agree, overflows) = (subst (Passes c i qs list new) e h).passage in
      stops (λ q l ps. IsVerdict q l says.Agree × SumOverflows q l ps w) m level (agree, overflows)
  wide {new} (place.Trees k) r e h = absurd (subst (Passes c i qs list new) e h).passage

pub sound : (p : Presented) (k : Compiled) → OfChecked (λ rels level f. IsConsistent rels level)
    → IsPresented p → k.checked.pres ≡ p → k.checked.table.level ≡ 1 → IsChecked k.checked
    → IsSound p k
sound p k consistent h e level is =
    let t = k.checked.table in
    let here : IsPresented k.checked.pres = subst IsPresented (sym e) h in
    record {
      multiplies = subst (λ (m : ℕ). IsTable (relations_of p) m (values t)) level
          (subst (λ (q : Presented). IsTable (relations_of q) t.level (values t)) e is.multiplies);
      consistent = subst (IsConsistent (relations_of p)) level
          (subst (λ (q : Presented). IsConsistent (relations_of q) t.level) e
          (consistent k.checked here is));
    }
