use Rattle.word_text.proofs.closing.behind_closing.Goals as goal

pub returns-in-Close : goal.returns-in-Close
returns-in-Close c = rw c.in-Close.is (c.behind_close.ensures c.args.head.now)

pub returns-in-Comma : goal.returns-in-Comma
returns-in-Comma c = rw c.in-Comma.is (c.behind_comma.ensures c.args.head.now)

pub returns-in-SquareClose : goal.returns-in-SquareClose
returns-in-SquareClose c = rw c.in-SquareClose.is (c.behind_square_close.ensures c.args.head.now)
