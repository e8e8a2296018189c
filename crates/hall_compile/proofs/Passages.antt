-- What the parts of a compile hand on, from what each of them promises.
-- c a presentation with a table above level i · p its presentation · t table · i level
-- o overlap · os proposals · old new entries before and after · a an accepted table · r results
use Rattle.std.proofs.Common.{◌≡◌, ℕ, ℤ, List, [], length, refl, sym, ap, ◌∙◌, subst, append-nil}
use Rattle.std.specs.Prelude.{Option, Some}
use Rattle.nil_word.specs.Words.{IsVector}
use Rattle.nil_pres.specs.Presented.{Presented}
use Rattle.nil_pres.specs.Relations.{relations_of, between}
use Rattle.hall_law.specs.Plan.{Powers, Images, AreImages, summed}
use Rattle.hall_law.specs.Table.{IsTable}
use Rattle.hall_table.specs.Agreement.{IsPowerOf}
use Rattle.hall_table.specs.Multiplies.{Paired}
use Rattle.hall_table.specs.Tabled.{Tabled, IsTabled, last_of}
use Rattle.hall_table.specs.Values.{values}
use Rattle.overlap_test.specs.declared.overlap.Overlap.{Overlap}
use Rattle.overlap_test.specs.declared.level_result.LevelResult.{LevelResult}
use Rattle.overlap_test.specs.declared.level_result.LevelResult.TheVariants.{Differ}
use Rattle.overlap_test.specs.Ways.{first_written, second_written}
use Rattle.overlap_test.specs.Verdict.{IsVerdict}
use Rattle.overlap_test.proofs.Judging.{judged_differ}
use Rattle.sum_compiler.specs.Calls.{NoneOverflows}
use Rattle.sum_compiler.specs.Plan.{plan}
use Rattle.hall_compile.specs.declared.asked.Asked.{Asked}
use Rattle.hall_compile.specs.declared.asking.Accepted.{Accepted}
use Rattle.hall_compile.specs.declared.level.Level.TheVariants.{Chosen, Inconsistent}
use Rattle.hall_compile.specs.declared.origin.Origin.TheVariants.{Proposer}
use Rattle.hall_compile.specs.Choices.{IsSummed}
use Rattle.hall_compile.specs.Levels.{paired}
use Rattle.hall_compile.specs.Passing.{Asks, Chooses, Passes}
use Rattle.hall_compile.specs.Proposals.{Proposal, IsTaken}

-- the table of the sum plan, of the presentation that the table above is of
pub sums : (c : Paired) (p : Presented) (i : ℕ) (t : Tabled) → c.pres ≡ p
    → NoneOverflows (plan c.table (between p i) i) → IsTabled t → t.level ≡ i
    → last_of t ≡ length p.names
    → ((Q : Powers) → IsPowerOf c Q → (A : Images)
    → AreImages (relations_of p) (between p) i (values c.table) Q A
    → (x y : List ℤ) → IsVector (length p.names) i x → IsVector (length p.names) i y
    → values t x y ≡ summed (length p.names) i (values c.table) Q A x y)
    → IsTable (relations_of p) i (values t) → IsSummed c i t
sums c p i t e fits form level last sum multiplies =
    subst (λ (q : Presented). IsSummed (paired q c.table) i t) (sym e) record {
      fits = fits;
      form = form;
      place = (level, last);
      sums = λ Q power. sum Q (subst (λ (q : Presented). IsPowerOf (paired q c.table) Q) (sym e)
          power);
      multiplies = multiplies;
    }

-- an overlap that differs is one of the level
level-differ : (c : Paired) (i : ℕ) (o : Overlap) → IsVerdict c i (Differ o) → o.i ≡ i
level-differ c i o v =
    let first = (v.differ o).0 refl in
    let (j, k) = first.overlap in
    ap (λ (q : Overlap). q.i)
    (judged_differ i j k (first_written c i j k) (second_written c i j k) o first.says).is

pub differs : {os : List Proposal} (c : Paired) (i : ℕ) (old : List Asked) (o : Overlap)
    (r : LevelResult) → r ≡ Differ o → IsVerdict c i r → Passes c i os old old (Inconsistent o)
differs c i old o r e v =
    let is = subst (IsVerdict c i) e v in
    record { more = []; written = sym (append-nil old); passage = (level-differ c i o is, is) }

pub accepted : {os : List Proposal} (c : Paired) (p : Presented) (i : ℕ) (old new : List Asked)
    (a : Accepted) (r : Option Accepted) → c.pres ≡ p → r ≡ Some a → Asks p i os old new r
    → Chooses c i os old new (Chosen (Proposer a.label) a.checked)
accepted {os} c p i old new a r e is h =
    let taken = h.some a is in
    record {
      more = h.more;
      written = h.written;
      choice = (
        taken.0 ∙ sym e,
        subst (λ (q : Presented). IsTaken q i os a.label a.checked.table h.more) (sym e) taken.1,
      );
    }
