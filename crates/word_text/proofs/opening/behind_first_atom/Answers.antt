use Rattle.std.proofs.Common.{◌≡◌, IfOk, reverse, [], List, subst}
use Rattle.word_text.specs.declared.frame.Frame.{Frame}
use Rattle.word_text.specs.declared.head.Head.TheVariants.{Value}
use Rattle.word_text.specs.declared.level.Level.{Level}
use Rattle.word_text.specs.State.{moved}
use Rattle.word_text.specs.Machine.{next_atom}
use Rattle.word_text.proofs.opening.behind_first_atom.Goals as goal

pub returns : goal.returns
returns c =
    subst (λ (l : Level). IfOk c.behind_first.result (λ now. moved Value
    (reverse c.behind_first.new.frames) now ≡ next_atom Value [] l c.args.kind)) c.empty_level.ensures
    (subst (λ (fs : List Frame). IfOk c.behind_first.result (λ now. moved Value
    (reverse c.behind_first.new.frames) now
    ≡ next_atom Value (reverse fs) c.empty_level.result c.args.kind)) c.new.ensures
    (c.behind_first.ensures Value))
