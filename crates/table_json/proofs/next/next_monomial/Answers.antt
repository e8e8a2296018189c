use Rattle.std.proofs.Common.{subst, arith}
use Rattle.table_json.specs.TermRules.{Ascend}
use Rattle.table_json.proofs.Forms.{is_monomial}
use Rattle.table_json.proofs.next.next_monomial.Goals as goal

pub of-monomial-requires : goal.of-monomial-requires
of-monomial-requires c =
    is_monomial 48 0 c.args.parts.items (omega arith)
    (subst (Ascend 0) c.as_slice.ensures.value (c.ascend.ensures.0 c.if-not-ascend.false))
    c.requires
