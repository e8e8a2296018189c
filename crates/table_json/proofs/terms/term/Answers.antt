use Rattle.std.proofs.Common.{inr}
use Rattle.table_json.specs.Format.{parts_data}
use Rattle.table_json.specs.TermRules.{form, number, order}
use Rattle.table_json.proofs.Single.{form_of, parts_of_form}
use Rattle.table_json.proofs.terms.term.Goals as goal

pub returns-in_default-clause-refused : goal.returns-in_default-clause-refused
returns-in_default-clause-refused c =
    inr (form (λ s ps has. c.in_default.ensures s (parts_data ps) has.written))

pub returns-in_default-2-clause-refused : goal.returns-in_default-2-clause-refused
returns-in_default-2-clause-refused c =
    let none = rw c.in_default-2.is at c.in_ok-parts.ensures in
    inr (form (λ s ps has. none ps (parts_of_form c.args.n _ c.in-Some.text.now s _ ps
    c.in-Some.ensures has)))

pub returns-in_default-coefficient-clause-refused :
    goal.returns-in_default-coefficient-clause-refused
returns-in_default-coefficient-clause-refused c =
    let are = rw c.in-Some-2.is at c.in_ok-parts.ensures in
    inr (number c.in-Some.text.now c.in-Some-2.parts.items (form_of c.args.n _ _ _ _
    c.in-Some.ensures are)
    c.in_default-coefficient.ensures)

pub returns-in_default-next_monomial-clause-refused :
    goal.returns-in_default-next_monomial-clause-refused
returns-in_default-next_monomial-clause-refused c =
    let are = rw c.in-Some-2.is at c.in_ok-parts.ensures in
    inr (order c.in-Some.text.now c.in-Some-2.parts.items c.in-Some-coefficient.coefficient
    (form_of c.args.n _ _ _ _ c.in-Some.ensures are) c.in-Some-coefficient.ensures
    c.in_default-next_monomial.ensures)
