use Rattle.std.proofs.Common.{Option, IfSome, length, subst, sym, arith}
use Rattle.nil_pres.specs.declared.syllable.Syllable.{Syllable}
use Rattle.nil_examples.specs.Examples.{count_of, IsLawful}
use Rattle.nil_examples.proofs.Refusing.{relation_memory, AreUpTo-one}
use Rattle.nil_examples.proofs.presenting.add_pair.Goals as goal

pub add_relation-requires-clause-syllables : goal.add_relation-requires-clause-syllables
add_relation-requires-clause-syllables c =
    let lawful : IsLawful (count_of c.args.example.now) c.args.j c.in-Some.power =
    subst (λ (o : Option Syllable). IfSome o (IsLawful (count_of c.args.example.now) c.args.j)) (sym c.in-Some.ensures)
    (c.requires.lawful c.args.i c.args.j c.requires.least c.requires.below c.requires.most) in
    AreUpTo-one (length c.args.builder.now.names) c.in-Some.power (omega (arith, lawful.generator, c.requires.generators))

pub relation_refused-requires : goal.relation_refused-requires
relation_refused-requires c =
    let lawful : IsLawful (count_of c.args.example.now) c.args.j c.in-Some.power =
    subst (λ (o : Option Syllable). IfSome o (IsLawful (count_of c.args.example.now) c.args.j)) (sym c.in-Some.ensures)
    (c.requires.lawful c.args.i c.args.j c.requires.least c.requires.below c.requires.most) in
    relation_memory c.args.builder.now (count_of c.args.example.now) c.args.i c.args.j c.in-Some.power c.in-Err.fault
    c.requires.below c.requires.before lawful c.in-Err.ensures.taken
