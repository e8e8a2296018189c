use Rattle.std.proofs.Common.{◌≡◌, ◌<◌, ℕ, slice_index_or}
use Rattle.nil_word.specs.Congruence.{Relations}
use Rattle.poly_subst.specs.Walk.{in_x}
use Rattle.hall_table.specs.Tabled.{poly_at}
use Rattle.hall_table.specs.Order.{generators}
use Rattle.identity_check.specs.Few.{Steps}
use Rattle.identity_check.proofs.few.steps_up.Given as goal

abbrev pub invariant-loop-j : goal.invariant-loop-j
invariant-loop-j l = record {
  kept : l.put ≡ in_x l.table.level (generators l.table) (poly_at l.table);
  walked : (rels : Relations) (i d : ℕ) → i < l.j-index
      → Steps rels l.table (slice_index_or l.walked i d);
}
