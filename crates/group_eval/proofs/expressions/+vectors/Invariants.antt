use Rattle.std.proofs.Common.{◌≡◌, length, drop}
use Rattle.std.specs.Prelude.{All}
use Rattle.nil_word.specs.declared.expr.Expr.TheVariants.{Product}
use Rattle.nil_word.specs.Expressions.{IsShaped}
use Rattle.group_eval.specs.ByValues.{IsIn}
use Rattle.group_eval.specs.Expressions.{joined, evaluated, IsFrom}
use Rattle.group_eval.specs.Space.{IsSpaceOf}
use Rattle.group_eval.proofs.Evaluations.{outcomes}
use Rattle.group_eval.proofs.expressions.+vectors.Given as goal

abbrev pub invariant-product_of-loop-item : goal.invariant-product_of-loop-item
invariant-product_of-loop-item l = record {
  shaped : All (IsShaped (length l.checked.pres.names)) l.item-items;
  level : All (IsFrom l.checked.table.level) l.item-items;
  ws : IsSpaceOf l.ws l.checked;
  left : IsIn l.checked l.left;
  room : length l.room ≡ length l.checked.pres.names;
  made : joined l.checked.table l.left
      (outcomes l.checked.table (drop l.item-index l.item-items))
      ≡ evaluated l.checked.table (Product l.items);
}
