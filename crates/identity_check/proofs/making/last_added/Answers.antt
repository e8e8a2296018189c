use Rattle.std.proofs.Common.{◌≡◌, rules, FitsSigned, ap, ◌∙◌, arith}
use Rattle.std.specs.Int.{w128}
use Rattle.std.proofs.lemmas.Int.{to_z-of_z}
use Rattle.identity_check.specs.Signs.{number_of}
use Rattle.binom_poly.specs.Collected.{constant_terms, var_terms}
use Rattle.identity_check.proofs.MadeSides.{own_made}
use Rattle.identity_check.proofs.making.last_added.Goals as goal

-- 1 and 1 don't overflow
pub returns : goal.returns
returns c =
    let f : FitsSigned w128 c.number_of.result = search rules in
    let e : c.in_ok-number.number ≡ constant_terms (number_of c.args.up) =
    c.in_ok-number.ensures.constant
    ∙ ap constant_terms (to_z-of_z w128 c.number_of.result f ∙ c.number_of.ensures) in
    own_made c.args.identity c.args.j c.args.k c.args.up c.in_ok-x.x c.in_ok-number.number c.add.result
    c.named.result (c.in_ok-x.ensures.variable ∙ ap var_terms c.x_of.ensures) e (omega arith) (omega arith)
    c.add.ensures.sum c.named.ensures
