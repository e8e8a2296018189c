-- A partial product divides the product, for no factor is 0.
use Rattle.std.proofs.Common.{◌<◌, ◌^◌, ◌∙◌, arith, rules, inl, inr, subst, sym, FitsSigned, lt_of_not-le}
use Rattle.std.specs.Int.{w128}
use Rattle.std.specs.Prelude.{unsigned_abs}
use Rattle.std.proofs.lemmas.Int.{to_z-of_z}
use Rattle.dt_letters.specs.Allowed.{exponents_of}
use Rattle.dt_letters.specs.Terms.{product_over}
use Rattle.dt_letters.specs.Arena.{letter_in}
use Rattle.dt_trees.specs.Polynomials.{groups_over}
use Rattle.dt_trees.proofs.Refusals.{refused}
use Rattle.dt_trees.proofs.Groups.{some-next, none-next, product-next, product-overflows}
use Rattle.dt_trees.proofs.constants.product.Goals as goal

pub returns-in_err-factor : goal.returns-in_err-factor
returns-in_err-factor c =
    let a = c.args.letters.now in
    refused _ c.from_residual.result
    (product_over (exponents_of a.pres) (letter_in a c.args.tree) (groups_over a c.args.members.now))
    c.from_residual.ensures.1
    (inl (some-next (exponents_of a.pres) (letter_in a c.args.tree) a c.args.members.now
    c.loop-member.member-index (record { place = 0 }) (omega arith) c.in_err-factor.ensures))

pub returns-in_err-product : goal.returns-in_err-product
returns-in_err-product c =
    let a = c.args.letters.now in
    let f : FitsSigned w128 c.in_ok-factor.field-0 = search rules in
    refused _ c.from_residual-in_err-product.result
    (product_over (exponents_of a.pres) (letter_in a c.args.tree) (groups_over a c.args.members.now))
    c.from_residual-in_err-product.ensures.1
    (inr (product-overflows (exponents_of a.pres) (letter_in a c.args.tree) a c.args.members.now
    c.loop-member.member-index (record { place = 0 }) _ _ (omega arith)
    (to_z-of_z w128 c.in_ok-factor.field-0 f ∙ c.in_ok-factor.ensures.0) c.loop-member.invariant.product
    c.requires.nonzero c.in_err-product.ensures))

pub loop-member-preserved : goal.loop-member-preserved
loop-member-preserved c =
    let a = c.args.letters.now in
    let f : FitsSigned w128 c.in_ok-factor.field-0 = search rules in
    let g : FitsSigned w128 c.in_ok-product.product = search rules in
    let e = to_z-of_z w128 c.in_ok-product.product g in
    record {
      product = e ∙ product-next (exponents_of a.pres) (letter_in a c.args.tree) a c.args.members.now
          c.loop-member.member-index (record { place = 0 }) _ _ c.in_ok-product.product (omega arith)
          (to_z-of_z w128 c.in_ok-factor.field-0 f ∙ c.in_ok-factor.ensures.0)
          c.loop-member.invariant.product c.in_ok-product.ensures.0;
      number = subst (λ z. unsigned_abs z < 2 ^ 127) (sym (e ∙ c.in_ok-product.ensures.0))
          (lt_of_not-le c.in_ok-product.ensures.1);
      fits = none-next (exponents_of a.pres) (letter_in a c.args.tree) a c.args.members.now
          c.loop-member.member-index (record { place = 0 }) (omega arith) c.loop-member.invariant.fits
          c.in_ok-factor.ensures.1;
    }
