use Rattle.std.proofs.Common.{refl, arith}
use Rattle.poly_rows.proofs.Singles.{one_part}
use Rattle.poly_rows.proofs.monomials.the_smaller_degree_comes_first.Goals as goal

pub of-single-requires : goal.of-single-requires
of-single-requires g c = one_part c.in_ok-vec.field-0.items 2 1 refl (omega arith) (omega arith) (omega arith) c.in_ok-vec.ensures.items

pub of-double-requires : goal.of-double-requires
of-double-requires g c = one_part c.in_ok-vec-2.field-0.items 1 2 refl (omega arith) (omega arith) (omega arith) c.in_ok-vec-2.ensures.items
