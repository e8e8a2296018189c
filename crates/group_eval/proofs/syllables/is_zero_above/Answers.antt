use Rattle.std.proofs.Common.{length, ◌-◌, subst, arith}
use Rattle.std.specs.Prelude.{IsTrue, ◌↔◌}
use Rattle.hall_law.specs.Table.{IsZeroAbove}
use Rattle.group_eval.proofs.Scans.{scan_is}
use Rattle.group_eval.proofs.syllables.is_zero_above.Goals as goal

pub returns : goal.returns
returns c =
    let x = c.entries.result.now in
    let is = scan_is x c.args.k (length x - c.args.k) (omega arith) in
    subst (λ v. IsTrue c.are_zero.result ↔ IsZeroAbove c.args.k v) c.entries.ensures.entries
    ((λ h. is.0 (c.are_zero.ensures.0 h)), (λ h. c.are_zero.ensures.1 (is.1 h)))
