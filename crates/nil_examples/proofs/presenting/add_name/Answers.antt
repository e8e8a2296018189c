use Rattle.std.proofs.Common.{◌∙◌}
use Rattle.nil_examples.proofs.Refusing.{name_memory}
use Rattle.nil_examples.proofs.presenting.add_name.Goals as goal

pub name_refused-requires : goal.name_refused-requires
name_refused-requires c =
    name_memory c.args.builder.now c.args.k c.as_str.result.now c.in-Err.fault c.requires.before (c.as_str.ensures.value ∙ c.in_ok-name.ensures) c.requires.least c.requires.most
    c.in-Err.ensures.taken
