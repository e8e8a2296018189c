use Rattle.session_io.proofs.answering.answer_last.Goals as goal

pub returns-in-Failed-clause-err : goal.returns-in-Failed-clause-err
returns-in-Failed-clause-err g c line e = rw c.in-Failed.is c.put_all.ensures.err

pub returns-in-Long-clause-ok : goal.returns-in-Long-clause-ok
returns-in-Long-clause-ok g c line e = rw c.in-Long.is c.put_all-in-Long.ensures.ok

pub returns-in-Long-clause-err : goal.returns-in-Long-clause-err
returns-in-Long-clause-err g c line e = rw c.in-Long.is c.put_all-in-Long.ensures.err
