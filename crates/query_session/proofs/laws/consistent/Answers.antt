-- The presentation has a table of level 1, so it is consistent.
use Rattle.std.proofs.Common.{ℕ, subst}
use Rattle.nil_word.specs.Congruence.{IsConsistent}
use Rattle.hall_table.specs.Values.{values}
use Rattle.nil_pres.specs.Relations.{relations_of}
use Rattle.query_session.proofs.laws.consistent.Goals as goal

pub returns : goal.returns
returns c = λ d h checked level.
    let P : ℕ → Type 0 = IsConsistent (relations_of d.pres) in
    subst P level (c.uniqueness.ensures.consistent (relations_of d.pres) d.table.level
    (values d.table) (c.relations.ensures.presentation d.pres h) checked.multiplies)
