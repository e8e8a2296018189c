use Rattle.std.proofs.Common.{rules, refl, ap, ◌∙◌, FitsSigned}
use Rattle.std.specs.Int.{w128}
use Rattle.std.proofs.lemmas.Int.{to_z-of_z}
use Rattle.identity_check.specs.Failures.{parts_of}
use Rattle.identity_check.proofs.Pushing.{parts_of-point_of}
use Rattle.identity_check.proofs.Halting.{moved}
use Rattle.identity_check.proofs.comparing.compare.Goals as goal

-- the point has the monomial's exponents, and the numbers go to their bits and back
pub returns : goal.returns
returns c =
    let l : FitsSigned w128 c.in-Some.difference.left = search rules in
    let r : FitsSigned w128 c.in-Some.difference.right = search rules in (
      refl,
      moved c.args.left.now c.args.right.now c.in-Some.difference.monomial.now _
          c.in-Some.difference.left _ c.in-Some.difference.right _ c.in-Some.ensures
          (ap parts_of c.in_ok-point.ensures ∙ parts_of-point_of c.parts.result.now
          ∙ c.parts.ensures)
          (to_z-of_z w128 c.in-Some.difference.left l) (to_z-of_z w128 c.in-Some.difference.right r),
    )
