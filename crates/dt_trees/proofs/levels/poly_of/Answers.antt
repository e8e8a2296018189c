-- The trees as they grew are the least trees.
use Rattle.std.proofs.Common.{◌∙◌, [], length, refl, map, sym, ap, subst}
use Rattle.std.specs.Prelude.{All, List}
use Rattle.nil_pres.specs.Presented.{IsPresented}
use Rattle.nil_num.specs.Outcome.{Gives, Unless}
use Rattle.binom_poly.specs.Fault.{wide_of}
use Rattle.binom_poly.specs.Collected.{collected}
use Rattle.dt_letters.specs.Letters.{Letter}
use Rattle.dt_letters.specs.Allowed.{exponents_of}
use Rattle.dt_letters.specs.Arena.{letter_in, IsTreeOf}
use Rattle.dt_letters.proofs.Presentations.{rising}
use Rattle.dt_trees.specs.Polynomials.{IsOver, terms_of, TreesOverflow}
use Rattle.dt_trees.proofs.Permuted.{trees-of_ways}
use Rattle.dt_trees.proofs.Taken.{trees-grown, trees-over}
use Rattle.dt_trees.specs.Known.{AreKnown}
use Rattle.dt_trees.proofs.Knowing.{ok_of, known-next}
use Rattle.dt_trees.proofs.levels.poly_of.Goals as goal

pub tree_poly-requires-clause-trees : goal.tree_poly-requires-clause-trees
tree_poly-requires-clause-trees c =
    subst (All (IsTreeOf c.grow_from_nothing.new.letters))
    (sym (c.deref-3.ensures.value ∙ c.in_ok-trees.ensures ∙ ap (map (λ w. w.tree)) c.deref-2.ensures.value))
    (trees-of_ways c.grow_from_nothing.new.letters c.in_ok-ways.ways.items c.in_ok-ways.ensures.ways.ways)

pub tree_poly-requires-clause-over : goal.tree_poly-requires-clause-over
tree_poly-requires-clause-over c =
    let a = c.args.letters.now in
    let b = c.grow_from_nothing.new.letters in
    let e = exponents_of a.pres in
    let ts = c.deref-3.result.now in
    let same = c.deref-3.ensures.value ∙ c.in_ok-trees.ensures ∙ ap (map (λ w. w.tree)) c.deref-2.ensures.value in
    let are = trees-grown e c.args.level c.args.k a b c.in_ok-ways.ways.items [] ts
    refl c.in_ok-ways.ensures.ways same in
    subst (λ r. All (IsOver (exponents_of r) (length r.names)) (map (letter_in b) ts)) (sym c.grow_from_nothing.ensures.kept.0)
    (subst (All (IsOver e (length a.pres.names))) (sym are)
    (trees-over e c.args.level c.args.k (length a.pres.names)
    (rising a.pres (subst IsPresented c.pres.ensures c.count-generators.ensures.lawful)) c.requires.level
    c.requires.most))

pub returns-clause-poly : goal.returns-clause-poly
returns-clause-poly c =
    let a = c.args.letters.now in
    let b = c.grow_from_nothing.new.letters in
    let e = exponents_of a.pres in
    let ts = c.deref-3.result.now in
    let same = c.deref-3.ensures.value ∙ c.in_ok-trees.ensures ∙ ap (map (λ w. w.tree)) c.deref-2.ensures.value in
    let are = trees-grown e c.args.level c.args.k a b c.in_ok-ways.ways.items [] ts
    refl c.in_ok-ways.ensures.ways same in
    subst (λ (us : List Letter). Gives wide_of c.tree_poly.result
    (Unless (TreesOverflow e us) (collected (terms_of e us)))) are
    (subst (λ r. Gives wide_of c.tree_poly.result
    (Unless (TreesOverflow (exponents_of r) (map (letter_in b) ts))
    (collected (terms_of (exponents_of r) (map (letter_in b) ts))))) c.grow_from_nothing.ensures.kept.0
    c.tree_poly.ensures.poly)

pub returns-clause-known : goal.returns-clause-known
returns-clause-known c =
    let a = c.args.letters.now in
    let b = c.grow_from_nothing.new.letters in
    ok_of c.tree_poly.result (AreKnown b (exponents_of b.pres) c.args.level c.push.new.self.items)
    (known-next a b c.grow_from_nothing.ensures.kept c.args.level c.args.known.now.items c.push.new.self.items
    c.in_ok-ways.ways c.args.k c.requires.next c.in_ok-push.ensures.items c.requires.known c.in_ok-ways.ensures.ways)
