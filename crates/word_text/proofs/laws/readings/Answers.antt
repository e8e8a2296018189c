-- The two directions of each are lemmas of Readings.
use Rattle.word_text.proofs.Bounded.{read_shaped}
use Rattle.word_text.proofs.Readings.{reading-reads, reads-reading, reading-fails, fails-reading}
use Rattle.word_text.proofs.laws.readings.Goals as goal

pub returns-clause-reads : goal.returns-clause-reads
returns-clause-reads c = λ names line q. (reading-reads names line q, reads-reading names line q)

pub returns-clause-fails : goal.returns-clause-fails
returns-clause-fails c = λ names line f. (reading-fails names line f, fails-reading names line f)

pub returns-clause-shaped : goal.returns-clause-shaped
returns-clause-shaped c = λ names line q h. read_shaped names line q h
