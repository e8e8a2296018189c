use Rattle.std.proofs.Common.{rules, ◌∙◌, ap, ◌+ℤ◌, FitsSigned}
use Rattle.std.specs.Int.{w64, w128}
use Rattle.std.proofs.lemmas.Int.{to_z-of_z}
use Rattle.nil_word.specs.Exponents.{one_at}
use Rattle.nil_pres.specs.Presented.{right_of}
use Rattle.identity_check.specs.Pairs.{exponent_in}
use Rattle.identity_check.proofs.PairEntries.{pair_is}
use Rattle.identity_check.proofs.pairs.entry_of_pair.Goals as goal

-- the numbers go to their bits and back
pub returns : goal.returns
returns c =
    let r = c.exponent_in-exponent.result in
    let p = c.one_at.result in
    let q = c.one_at-2.result in
    let a : FitsSigned w64 r = search rules in
    let b : FitsSigned w128 r = search rules in
    let d : FitsSigned w128 p = search rules in
    let e : FitsSigned w128 q = search rules in
    let f : FitsSigned w128 (r +ℤ p) = search rules in
    let g : FitsSigned w128 ((r +ℤ p) +ℤ q) = search rules in
    rw (to_z-of_z w64 r a, to_z-of_z w128 r b, to_z-of_z w128 p d, to_z-of_z w128 q e, to_z-of_z w128 (r +ℤ p) f, to_z-of_z w128 ((r +ℤ p) +ℤ q) g)
    (ap (λ z. (z +ℤ p) +ℤ q) (c.exponent_in-exponent.ensures ∙ ap (exponent_in c.args.k) c.right_side.ensures.right)
    ∙ ap (λ z. (exponent_in c.args.k (right_of c.args.pres.now c.args.j c.args.l) +ℤ z) +ℤ q) c.one_at.ensures.one
    ∙ ap (λ z. (exponent_in c.args.k (right_of c.args.pres.now c.args.j c.args.l) +ℤ one_at c.args.k c.args.l) +ℤ z) c.one_at-2.ensures.one
    ∙ pair_is c.args.pres.now c.args.k c.args.j c.args.l c.count.ensures.lawful c.requires.first
    c.requires.below c.requires.last c.requires.least c.requires.most)
