use Rattle.std.proofs.Common.{sym, subst}
use Rattle.nil_pres.specs.Relations.{relations_of}
use Rattle.hall_law.specs.Table.{IsTable}
use Rattle.hall_table.specs.Tabled.{last_of}
use Rattle.hall_table.specs.Values.{values}
use Rattle.identity_check.specs.Events.{events}
use Rattle.identity_check.specs.Evidence.{IsEvidence}
use Rattle.identity_check.specs.Halts.{IsHalt}
use Rattle.identity_check.proofs.checking.check.Goals as goal

-- the copy of the presentation has the same relations
pub new-requires-clause-multiplies : goal.new-requires-clause-multiplies
new-requires-clause-multiplies c =
    subst (λ p. IsTable (relations_of p) c.args.table.level (values c.args.table))
    (sym c.in_ok-pres-in-Ok.ensures)
    (c.accepted.ensures c.args.pres.now c.args.table c.count.ensures.lawful c.last.ensures.form c.requires
    c.in-Ok.ensures)

-- what a walk says of its failure
pub returns-in-Err-Failed-clause-evidence : goal.returns-in-Err-Failed-clause-evidence
returns-in-Err-Failed-clause-evidence c =
    let rels = relations_of c.args.pres.now in
    let t = c.args.table in
    let es = events t.level (last_of t) in
    subst (IsEvidence rels t) (sym c.in-Err-Failed.failure-is)
    (c.evidence.ensures rels t es c.in-Err-Failed.failure
    (subst (λ h. IsHalt rels t es h) c.in-Err-Failed.field-0-is c.in-Err-Failed.ensures))
