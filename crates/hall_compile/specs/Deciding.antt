-- What the outcome of a compile decides.
--   IsSound p c          the table of c multiplies at level 1 of p, which is consistent
--   Decides p r          compiled: the table multiplies at level 1 of the presentation, which is
--                        consistent. Inconsistent: the two ways of the overlap stand for one word
--                        and differ, so the presentation isn't
--   HasOnlyTable p r     compiled: each table of level 1 that multiplies in the presentation is it
--   IsWideSum r          a sum plan overflowed
--   AreAlike r s         both are compiled with one table, or inconsistent by one overlap, or wide
--                        at one place
-- p presentation · r s outcomes
use Rattle.std.specs.Prelude.{◌≡◌}
use Rattle.nil_word.specs.Congruence.{IsConsistent}
use Rattle.nil_pres.specs.Presented.{Presented}
use Rattle.nil_pres.specs.Relations.{relations_of}
use Rattle.hall_law.specs.Table.{IsTable}
use Rattle.hall_table.specs.Values.{values}
use Rattle.identity_check.specs.Verdicts.{IsOnlyTable}
use Rattle.overlap_test.specs.Inconsistent.{ShowsInconsistent}
use Rattle.hall_compile.specs.declared.compiled.Compiled.{Compiled}
use Rattle.hall_compile.specs.declared.outcome.Outcome.{Outcome}
use Rattle.hall_compile.specs.declared.outcome.Outcome.TheVariants as outcome
use Rattle.hall_compile.specs.declared.wide_place.WidePlace.TheVariants as place

pub record IsSound (p : Presented) (c : Compiled) : Type 0 where
  pub multiplies : IsTable (relations_of p) 1 (values c.checked.table)
  pub consistent : IsConsistent (relations_of p) 1

abbrev pub Decides : Presented → Outcome → Type 0
Decides p (outcome.Compiled c) = IsSound p c
Decides p (outcome.Inconsistent o) = ShowsInconsistent (relations_of p) o
Decides p (outcome.Wide at) = Unit {0}

abbrev pub HasOnlyTable : Presented → Outcome → Type 0
HasOnlyTable p (outcome.Compiled c) = IsOnlyTable p c.checked.table
HasOnlyTable p (outcome.Inconsistent o) = Unit {0}
HasOnlyTable p (outcome.Wide at) = Unit {0}

abbrev pub IsWideSum : Outcome → Type 0
IsWideSum (outcome.Compiled c) = ⊥
IsWideSum (outcome.Inconsistent o) = ⊥
IsWideSum (outcome.Wide (place.Overlap i j k)) = ⊥
IsWideSum (outcome.Wide (place.Sum i at)) = Unit {0}
IsWideSum (outcome.Wide (place.Trees k)) = ⊥

abbrev pub AreAlike : Outcome → Outcome → Type 0
AreAlike (outcome.Compiled c) (outcome.Compiled d) = c.checked ≡ d.checked
AreAlike (outcome.Inconsistent o) (outcome.Inconsistent q) = o ≡ q
AreAlike (outcome.Wide at) (outcome.Wide there) = at ≡ there
AreAlike _ _ = ⊥
