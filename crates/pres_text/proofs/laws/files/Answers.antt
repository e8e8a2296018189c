-- A file's presentation is the one that its content drafts.
use Rattle.std.proofs.Common.{sym, ◌∙◌}
use Rattle.nil_pres.specs.Presented.{finished}
use Rattle.pres_text.specs.Lines.{content}
use Rattle.pres_text.specs.Reading.{all_drafted}
use Rattle.pres_text.proofs.Lawful.{file_of}
use Rattle.pres_text.proofs.Presented.{reads}
use Rattle.pres_text.proofs.laws.files.Goals as goal

pub returns-clause-one : goal.returns-clause-one
returns-clause-one c = λ file p q h k. sym (reads p file h).same ∙ (reads q file k).same

pub returns-clause-none : goal.returns-clause-none
returns-clause-none c = λ file p h. (reads p file h).fine

pub returns-clause-some : goal.returns-clause-some
returns-clause-some c = λ file h. (finished (all_drafted (content file)), file_of file h)
