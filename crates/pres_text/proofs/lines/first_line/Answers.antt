use Rattle.pres_text.proofs.Pieces.{lines-some, lines-none}
use Rattle.pres_text.proofs.lines.first_line.Goals as goal

pub returns-in-Some-clause-line : goal.returns-in-Some-clause-line
returns-in-Some-clause-line c =
    lines-some (λ r. r.now) c.args.bytes.now c.split_line.result.0.now c.split_line.result.1
    c.in-Some.rest c.in-Some.is c.split_line.ensures.cut

pub returns-in-None-clause-line : goal.returns-in-None-clause-line
returns-in-None-clause-line c =
    lines-none (λ r. r.now) c.args.bytes.now c.split_line.result.0.now c.split_line.result.1
    c.in-None.is c.split_line.ensures.cut c.split_line.ensures.all c.requires
