use Rattle.std.proofs.Common.{ℕ, List, ap}
use Rattle.hall_table.specs.Multiplies.{Paired}
use Rattle.query_replies.specs.Replies.{reply}
use Rattle.query_replies.proofs.EndsAtLine.{EndsAtLine-text}
use Rattle.query_replies.proofs.calculator.CalculatorReplier.reply_to.Goals as goal

pub returns-clause-at_line : goal.returns-clause-at_line
returns-clause-at_line c =
    EndsAtLine-text c.reply_to.result c.args.self.now c.args.line.now c.reply_to.ensures.text

pub returns-clause-same : goal.returns-clause-same
returns-clause-same c =
    ap {B = List ℕ → List ℕ} (λ (d : Paired) (line : List ℕ). reply d line) c.reply_to.ensures.same
