-- The row of the type.
use Rattle.std.proofs.Common.{sym, ap, ◌∙◌, arith}
use Rattle.dt_letters.specs.Allowed.{exponents_of}
use Rattle.dt_letters.specs.Arena.{Arena}
use Rattle.dt_letters.specs.Pairs.{pairs_of}
use Rattle.dt_letters.proofs.Paired.{row_in-at}
use Rattle.dt_letters.proofs.letters.Letters.pairs.Goals as goal

pub returns : goal.returns
returns c =
    let has = c.self.invariant.2 in
    c.deref.ensures.value
    ∙ sym (row_in-at c.self.inside.pairs.items c.args.k c.index.result.now (omega (arith, has.count, c.requires)) c.index.ensures)
    ∙ has.pairs c.args.k (omega (arith, c.requires))
    ∙ ap (λ (a : Arena). pairs_of (exponents_of a.pres) c.args.k) c.self.view_is
