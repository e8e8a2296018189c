use Rattle.std.proofs.Common.{refl, sym, subst, arith}
use Rattle.binom_poly.specs.Monomial.{IsMonomial}
use Rattle.poly_rows.proofs.Singles.{one_part, one_term}
use Rattle.poly_rows.proofs.products.pairs.Goals as goal

pub of-requires : goal.of-requires
of-requires c = one_part c.in_ok-parts.parts.items 1 2 refl (omega arith) (omega arith) (omega arith) c.in_ok-parts.ensures.items

pub of-requires-2 : goal.of-requires-2
of-requires-2 c =
    one_term c.in_ok-vec.field-0.items c.of.result
    (subst IsMonomial (sym c.of.ensures) (one_part c.in_ok-parts.parts.items 1 2 refl (omega arith) (omega arith) (omega arith) c.in_ok-parts.ensures.items)) c.in_ok-vec.ensures.items
