use Rattle.std.proofs.Common.{ℕ, ◌≤◌, ℤ, pos, sym, subst, [], arith}
use Rattle.std.specs.Prelude.{length}
use Rattle.nil_word.specs.Words.{power}
use Rattle.hall_law.specs.Table.{single}
use Rattle.nil_pres.specs.Relations.{relations_of}
use Rattle.hall_table.specs.Tabled.{last_of}
use Rattle.hall_table.specs.Values.{values}
use Rattle.group_eval.specs.Elements.{IsOf}
use Rattle.group_eval.proofs.Singles.{single-zero}
use Rattle.group_eval.proofs.Evaluations.{Given, evaluated_is}
use Rattle.group_eval.proofs.laws.expressions.Goals as goal

pub returns : goal.returns
returns c = λ d lawful tabled checked.
    let generators : (k : ℕ) (z : ℤ) → d.table.level ≤ k → k ≤ length d.pres.names
    → IsOf d (single (last_of d.table) k z) (power k z) =
    λ k z low high. subst (λ n. IsOf d (single n k z) (power k z)) (sym checked.last)
    (c.elements-2.ensures.generators (relations_of d.pres) d.table.level (values d.table)
    (c.relations.ensures.presentation d.pres lawful) checked.multiplies k z low high) in
    let level = d.table.level in
    let given : Given d = record {
      products = c.elements.ensures.products d lawful tabled checked;
      powers = c.elements.ensures.powers d lawful tabled checked;
      commutators = c.elements.ensures.commutators d lawful tabled checked;
      conjugates = c.elements.ensures.conjugates d lawful tabled checked;
      zero = subst (λ v. IsOf d v []) (single-zero (last_of d.table) level)
          (generators level (pos 0) (omega arith) checked.multiplies.most);
      generators = generators;
    } in
    evaluated_is d given
