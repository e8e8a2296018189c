use Rattle.std.proofs.lemmas.Result.{err_from_is_err_and}
use Rattle.serde_json.specs.View.{view}
use Rattle.table_json.proofs.Texts.{answer_only, answer_fault, answer_only_fault, no_json_only, no_json_fault, no_json_only_fault}
use Rattle.table_json.proofs.reading.read_table.Goals as goal

pub returns-in_err-value-clause-only : goal.returns-in_err-value-clause-only
returns-in_err-value-clause-only c =
    let p = err_from_is_err_and c.from_residual.result c.from_residual.ensures.1 in
    rw (p.1, p.2) (no_json_only c.args.n c.args.bytes.now c.in_err-value.field-0.0
    c.in_err-value.ensures.refused)

pub returns-in_err-value-clause-fault : goal.returns-in_err-value-clause-fault
returns-in_err-value-clause-fault c =
    let p = err_from_is_err_and c.from_residual.result c.from_residual.ensures.1 in
    rw (p.1, p.2) (no_json_fault c.args.n c.args.bytes.now c.in_err-value.field-0.0
    c.in_err-value.ensures.refused)

pub returns-in_err-value-clause-only_fault : goal.returns-in_err-value-clause-only_fault
returns-in_err-value-clause-only_fault c =
    let p = err_from_is_err_and c.from_residual.result c.from_residual.ensures.1 in
    rw (p.1, p.2)
    (no_json_only_fault c.args.n c.args.bytes.now c.in_err-value.field-0.0 c.requires.most
    c.in_err-value.ensures.refused)

pub returns-clause-only : goal.returns-clause-only
returns-clause-only c =
    answer_only c.args.n c.args.bytes.now (view c.in_ok-value.value) c.said.result c.requires.most
    c.in_ok-value.ensures.value c.said.ensures.said c.said.ensures.refused

pub returns-clause-fault : goal.returns-clause-fault
returns-clause-fault c =
    answer_fault c.args.n c.args.bytes.now (view c.in_ok-value.value) c.said.result
    c.in_ok-value.ensures.value
    c.said.ensures.refused

pub returns-clause-only_fault : goal.returns-clause-only_fault
returns-clause-only_fault c =
    answer_only_fault c.args.n c.args.bytes.now (view c.in_ok-value.value) c.said.result
    c.requires.most
    c.in_ok-value.ensures.value c.said.ensures.said c.said.ensures.refused
