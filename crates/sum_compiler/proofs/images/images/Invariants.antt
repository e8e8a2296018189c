use Rattle.std.proofs.Common.{◌≡◌}
use Rattle.std.specs.Prelude.{All}
use Rattle.nil_pres.specs.Relations.{between}
use Rattle.sum_compiler.specs.Calls.{IsMade}
use Rattle.sum_compiler.specs.Images.{families, images, image_calls}
use Rattle.sum_compiler.proofs.images.images.Given as goal

abbrev pub invariant-loop-made : goal.invariant-loop-made
invariant-loop-made l = record {
  listed : families l.images.items ≡ images l.table (between l.pres l.i) l.made;
  walked : All IsMade (image_calls l.table (between l.pres l.i) l.made);
}
