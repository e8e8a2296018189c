use Rattle.std.proofs.Common.{sym, subst}
use Rattle.std.specs.Prelude.{◌↔◌, IsTrue}
use Rattle.table_json.specs.TermRules.{IsBehind}
use Rattle.table_json.proofs.Behind.{last_monomial-last}
use Rattle.table_json.proofs.next.is_behind.Goals as goal

pub returns-in-Some : goal.returns-in-Some
returns-in-Some c =
    let last = last_monomial-last c.args.terms.now c.in-Some.last.now c.in-Some.ensures.value in
    subst (λ b. IsTrue c.before-in-Some.result ↔ IsBehind b c.args.monomial.now) (sym last)
    c.before-in-Some.ensures
