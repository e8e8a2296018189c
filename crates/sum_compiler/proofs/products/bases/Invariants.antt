use Rattle.std.proofs.Common.{◌≡◌, ◌-◌, map}
use Rattle.std.specs.Prelude.{All}
use Rattle.nil_word.specs.Exponents.{numbers}
use Rattle.sum_compiler.specs.Calls.{IsMade}
use Rattle.sum_compiler.specs.Images.{families}
use Rattle.sum_compiler.specs.Products.{at_y, base_of, all_at_y_calls}
use Rattle.sum_compiler.proofs.products.bases.Given as goal

abbrev pub invariant-loop-j : goal.invariant-loop-j
invariant-loop-j l = record {
  kept : l.at_y ≡ at_y l.table l.i;
  listed : l.bases.items
      ≡ map (base_of (families l.images) l.table l.i) (numbers l.table.level (l.j - l.table.level));
  walked : All IsMade
      (all_at_y_calls (families l.images) l.table l.i (numbers l.table.level
      (l.j - l.table.level)));
}
