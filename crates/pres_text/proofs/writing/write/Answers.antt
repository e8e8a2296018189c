use Rattle.pres_text.proofs.Again.{text_again}
use Rattle.pres_text.proofs.writing.write.Goals as goal

pub returns-clause-again : goal.returns-clause-again
returns-clause-again c = text_again c.args.pres.now c.canonical.result c.count-count.ensures.lawful c.canonical.ensures
