use Rattle.std.proofs.Common.{◌∙◌, ap}
use Rattle.binom_poly.specs.Collected.{var_terms}
use Rattle.poly_subst.specs.Renaming.{without}
use Rattle.identity_check.specs.declared.identity.Identity.TheVariants.{UnitLeft}
use Rattle.identity_check.specs.Sides.{xs, left_of, right_of}
use Rattle.identity_check.specs.Overflowing.{SidesOverflow}
use Rattle.identity_check.proofs.Halting.{compared}
use Rattle.identity_check.proofs.units.unit_left.Goals as goal

-- nothing is written but zeros
pub returns : goal.returns
unfolding left_of right_of SidesOverflow
returns c = λ rels.
    compared rels c.args.table.now (UnitLeft c.args.k) c.in_ok-left.left c.in_ok-right.right c.compare.result
    (c.in_ok-left.ensures.without ∙ ap (λ vs. without vs c.lend.result.now) c.requires.xs
    ∙ ap (without (xs c.args.table.now)) c.lend.ensures)
    (c.in_ok-right.ensures.variable ∙ ap var_terms c.y_of.ensures) (λ h. h) c.compare.ensures
