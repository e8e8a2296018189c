use Rattle.std.proofs.Common.{◌≡◌, ◌-◌, map}
use Rattle.nil_word.specs.Exponents.{numbers}
use Rattle.hall_table.specs.Order.{generators}
use Rattle.sum_compiler.specs.declared.sum_step.SumStep.TheVariants as step
use Rattle.sum_compiler.specs.Powers.{powers}
use Rattle.sum_compiler.specs.Images.{families}
use Rattle.sum_compiler.specs.Products.{base_of, later_powers}
use Rattle.sum_compiler.proofs.JoinedSoFar.{JoinedSoFar}
use Rattle.sum_compiler.proofs.products.product.Given as goal

abbrev pub invariant-loop-j : goal.invariant-loop-j
invariant-loop-j l = record {
  kept : l.bases.items
      ≡ map (base_of (families l.images) l.table l.i) (numbers l.table.level (generators l.table));
  so_far : JoinedSoFar step.Product l.table (powers l.table) l.initial.product.items
      (later_powers (families l.images) l.table l.i) (l.j - l.table.level - 1) l.product.items;
}
