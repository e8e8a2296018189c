use Rattle.std.proofs.lemmas.List.Sorted.{All-permutation}
use Rattle.nested_poly.specs.Tails.{HasPart}
use Rattle.nested_poly.proofs.Sorted.{nest-permuted}
use Rattle.nested_poly.proofs.tails.tails_of.Goals as goal

pub returns-clause-terms : goal.returns-clause-terms
returns-clause-terms c =
    nest-permuted c.in_ok-tails.tails.items c.sort_unstable_by.new.self.items c.args.terms.now
    c.in_ok-tails.ensures.terms c.sort_unstable_by.ensures.permutation

pub returns-clause-parts : goal.returns-clause-parts
returns-clause-parts c =
    All-permutation HasPart c.in_ok-tails.tails.items c.sort_unstable_by.new.self.items
    c.sort_unstable_by.ensures.permutation c.in_ok-tails.ensures.parts
