use Rattle.std.proofs.Common.{◌≡◌, take}
use Rattle.nil_num.specs.Bound.{IsNumber}
use Rattle.dt_letters.specs.Allowed.{exponents_of}
use Rattle.dt_letters.specs.Terms.{product_over}
use Rattle.dt_letters.specs.Arena.{letter_in}
use Rattle.dt_trees.specs.Polynomials.{groups_over, SomeOverflows}
use Rattle.dt_trees.proofs.constants.product.Given as goal

abbrev pub invariant-loop-member : goal.invariant-loop-member
invariant-loop-member l = record {
  product : l.product
      ≡ product_over (exponents_of l.letters.pres) (letter_in l.letters l.tree)
      (groups_over l.letters (take l.member-index l.members));
  number : IsNumber l.product;
  fits : ¬ SomeOverflows (exponents_of l.letters.pres) (letter_in l.letters l.tree)
      (groups_over l.letters (take l.member-index l.members));
}
