use Rattle.std.proofs.Common.{◌+◌, ◌^◌, ◌≤◌, subst, arith}
use Rattle.std.specs.Prelude.{Result}
use Rattle.binom_poly.specs.Readings.{magnitude_of}
use Rattle.binom_poly.specs.declared.fault.Wide.{Wide}
use Rattle.nested_poly.specs.declared.weighed.Weighed.{Weighed}
use Rattle.nested_poly.specs.Nodes.{Weighs}
use Rattle.nested_poly.proofs.Counting.{counts_past, counts_sum, counts_wide}
use Rattle.nested_poly.proofs.weighed.Weighed.with.Goals as goal

pub returns-then-self-clause-counts : goal.returns-then-self-clause-counts
returns-then-self-clause-counts c a ts h = counts_past a ts c.args.self (omega arith)

pub returns-in_default-clause-counts : goal.returns-in_default-clause-counts
returns-in_default-clause-counts c a ts h =
    let o : 2 ^ 127 ≤ magnitude_of a ts = subst (λ (r : Result Weighed Wide). Weighs a ts r) c.in_default.is h in
    counts_wide a ts c.args.self _ (omega arith) (omega arith) (omega arith)

pub returns-in-Ok-plus-clause-counts : goal.returns-in-Ok-plus-clause-counts
returns-in-Ok-plus-clause-counts c a ts h =
    let w = subst (λ (r : Result Weighed Wide). Weighs a ts r) c.in-Ok.is h in
    counts_sum a ts c.args.self c.in-Ok.more c.in-Ok-plus.sum (omega arith) w.0 w.1 c.in-Ok-plus.ensures.0 c.in-Ok-plus.ensures.1 c.in-Ok-plus.ensures.2.within

pub returns-in-Err-clause-counts : goal.returns-in-Err-clause-counts
returns-in-Err-clause-counts c a ts h =
    let w = subst (λ (r : Result Weighed Wide). Weighs a ts r) c.in-Ok.is h in
    counts_wide a ts c.args.self _ (omega arith) (subst (λ n. 2 ^ 127 ≤ c.args.self.magnitude + n) w.1 c.in-Err.ensures) (omega arith)
