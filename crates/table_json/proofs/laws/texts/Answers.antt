use Rattle.table_json.proofs.Texts.{text_same, refusal-no, refusal-same}
use Rattle.table_json.proofs.laws.texts.Goals as goal

pub returns-clause-one : goal.returns-clause-one
returns-clause-one c = text_same

pub returns-clause-none : goal.returns-clause-none
returns-clause-none c = refusal-no

pub returns-clause-first : goal.returns-clause-first
returns-clause-first c = refusal-same
