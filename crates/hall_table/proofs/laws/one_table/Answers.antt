use Rattle.std.proofs.Common.{ℕ, ◌∙◌, sym, subst}
use Rattle.nil_word.specs.Words.{IsVector}
use Rattle.nil_pres.specs.Relations.{relations_of}
use Rattle.hall_law.specs.Table.{IsTable}
use Rattle.hall_table.specs.Values.{values}
use Rattle.hall_table.proofs.OneTable.{same_table}
use Rattle.hall_table.proofs.laws.one_table.Goals as goal

-- the values agree on vectors of the level, and they decide the polynomials
pub returns : goal.returns
returns c = λ pres s t lawful hs ht a b level.
    same_table s t hs ht level (a.last ∙ sym b.last)
    (λ x y hx hy.
    c.uniqueness.ensures.one_table (relations_of pres) s.level (values s)
    (c.relations.ensures.presentation pres lawful) a.multiplies (values t)
    (subst (λ (i : ℕ). IsTable (relations_of pres) i (values t)) (sym level) b.multiplies) x y
    (subst (λ (n : ℕ). IsVector n s.level x) a.last hx) (subst (λ (n : ℕ). IsVector n s.level y) a.last hy))
