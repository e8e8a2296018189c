-- Tree by tree.
use Rattle.std.proofs.Common.{◌≡◌, length, map, take, sym, ap, subst, arith, inl, inr, List}
use Rattle.std.proofs.lemmas.List.{take_all, get_or-map, length-map}
use Rattle.binom_poly.specs.Sums.{Holds}
use Rattle.binom_poly.specs.Collected.{collected}
use Rattle.binom_poly.proofs.Refusals.{gives_refused}
use Rattle.dt_letters.specs.Letters.{Letter}
use Rattle.dt_letters.specs.Allowed.{exponents_of}
use Rattle.dt_letters.specs.Arena.{letter_in}
use Rattle.dt_trees.specs.Polynomials.{IsOver, terms_of, TreesOverflow}
use Rattle.dt_trees.proofs.Sums.{terms-next, fits-next, overflows-next}
use Rattle.dt_trees.proofs.polynomial.tree_poly.Goals as goal

pub add_term-requires-clause-over : goal.add_term-requires-clause-over
add_term-requires-clause-over c =
    let a = c.args.letters.now in
    let ms = c.args.trees.now in
    let i = c.loop-tree.tree-index in
    let d = letter_in a (record { place = 0 }) in
    subst (IsOver (exponents_of a.pres) (length a.pres.names))
    (get_or-map (letter_in a) ms i (record { place = 0 }) d (omega arith))
    (c.requires.over i d (omega (arith, length-map ms (letter_in a))))

pub returns-in_err-sums-clause-poly : goal.returns-in_err-sums-clause-poly
returns-in_err-sums-clause-poly c =
    let a = c.args.letters.now in
    let e = exponents_of a.pres in
    gives_refused c.from_residual.result (collected (terms_of e (map (letter_in a) c.args.trees.now)))
    c.from_residual.ensures.1
    (λ w. overflows-next e a c.args.trees.now c.loop-tree.tree-index (record { place = 0 }) (omega arith)
    (c.in_err-sums.ensures.wide w
    (terms_of e (map (letter_in a) (take c.loop-tree.tree-index c.args.trees.now)))
    c.loop-tree.invariant.holds))

pub loop-tree-preserved : goal.loop-tree-preserved
loop-tree-preserved c =
    let a = c.args.letters.now in
    let e = exponents_of a.pres in
    let i = c.loop-tree.tree-index in
    record {
      holds = subst (Holds c.in_ok-sums.sums)
          (sym (terms-next e a c.args.trees.now i (record { place = 0 }) (omega arith)))
          (c.in_ok-sums.ensures.holds (terms_of e (map (letter_in a) (take i c.args.trees.now)))
          c.loop-tree.invariant.holds);
      fits = fits-next e a c.args.trees.now i (record { place = 0 }) (omega arith) c.loop-tree.invariant.fits
          c.in_ok-sums.ensures.fits;
    }

pub returns-clause-poly : goal.returns-clause-poly
returns-clause-poly c =
    let a = c.args.letters.now in
    let e = exponents_of a.pres in
    let ts = map (letter_in a) (take c.loop-tree.tree-index c.args.trees.now) in
    let all : ts ≡ map (letter_in a) c.args.trees.now =
    ap (map (letter_in a)) (take_all c.loop-tree.tree-index c.args.trees.now (omega arith)) in
    subst (λ (us : List Letter).
    (c.in_ok-into_poly.field-0 ≡ collected (terms_of e us)) × ¬ TreesOverflow e us) all (
      c.in_ok-into_poly.ensures.collected (terms_of e ts) c.loop-tree.invariant.holds,
      λ w. elim w [
        | inl h ↦ c.loop-tree.invariant.fits h
        | inr h ↦ c.in_ok-into_poly.ensures.fits (terms_of e ts) c.loop-tree.invariant.holds h
      ],
    )
