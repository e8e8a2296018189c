use Rattle.std.proofs.Common.{rules}
use Rattle.word_text.proofs.Rereads.{text_again}
use Rattle.word_text.proofs.writing.write_query.Goals as goal

-- what was written reads as the query
pub returns-clause-again : goal.returns-clause-again
returns-clause-again c = λ shaped few. text_again c.args.pres.now.names c.args.query.now c.text_of.result c.count-count.ensures.lawful.names shaped few (search rules)
