use Rattle.std.proofs.Common.{◌∙◌, length, ap}
use Rattle.binom_poly.proofs.Spreading.{some_here}
use Rattle.nested_poly.proofs.Wholes.{no_constant_first, rest_parts, first_parts, no_parts_asked}
use Rattle.nested_poly.proofs.tails.split_constant.Goals as goal
use Rattle.nested_poly.proofs.tails.split_constant.Goals.{in_default-via-in-Some+else-is_empty, in_default-via-in_default}

pub returns-in-Some-clause-parts : goal.returns-in-Some-clause-parts
returns-in-Some-clause-parts c = rest_parts c.in-Some.first.now c.args.terms.now c.in-Some.rest.now c.in-Some.ensures.cases.0 c.requires

pub returns-in_default-clause-terms : goal.returns-in_default-clause-terms
returns-in_default-clause-terms c = no_constant_first c.args.terms.now

pub returns-in_default-clause-parts : goal.returns-in_default-clause-parts
returns-in_default-clause-parts c =
    elim c.in_default.branch [
      | in_default-via-in-Some+else-is_empty w ↦
          first_parts w.in-Some.first.now c.args.terms.now w.in-Some.rest.now w.in-Some.ensures.cases.0 (λ z. some_here (length w.parts.result.now) w.if-is_empty.ensures (ap length w.parts.ensures ∙ z)) c.requires
      | in_default-via-in_default w ↦ no_parts_asked c.args.terms.now w.in_default.ensures.cases
    ]
