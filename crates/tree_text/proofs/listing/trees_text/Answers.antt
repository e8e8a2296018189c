-- The listed trees are the least ones. They overflow exactly where the trees do as they grow.
use Rattle.std.proofs.Common.{◌≡◌, List, [], ◌∷◌, ◌++◌, map, ap, ◌∙◌, subst}
use Rattle.std.specs.Prelude.{string_bytes}
use Rattle.binom_poly.specs.declared.term.Term.{Term}
use Rattle.binom_poly.specs.Collected.{collected}
use Rattle.nil_pres.specs.Presented.{Presented}
use Rattle.dt_letters.specs.Letters.{Letter}
use Rattle.dt_letters.specs.Allowed.{exponents_of}
use Rattle.dt_letters.specs.Arena.{letter_in}
use Rattle.dt_trees.specs.Polynomials.{terms_of, TreesOverflow}
use Rattle.session_io.specs.Lines.{as_lines}
use Rattle.tree_text.specs.Lines.{AreLeastTrees, tree_lines, poly_line}
use Rattle.tree_text.proofs.Telling.{are_least_trees, overflow-grown, overflow-listed, wide-told, lines-put}
use Rattle.tree_text.proofs.listing.trees_text.Goals as goal

pub returns-in_err-poly-clause-wide : goal.returns-in_err-poly-clause-wide
returns-in_err-poly-clause-wide c =
    let p : Presented = c.args.pres.now in
    let k = c.args.k in
    let a = c.in_ok-letters.letters in
    let b = c.least_trees.new.letters in
    let ts : List Letter = map (letter_in b) c.in_ok-trees.trees.items in
    let us : List Letter = map (letter_in b) c.deref.result.now in
    let is = c.in_ok-trees.ensures in
    let least : AreLeastTrees p k ts =
    are_least_trees p a.pres k ts c.in_ok-letters.ensures.0 is.least is.once is.sorted in
    let same : b.pres ≡ p = is.kept.0 ∙ c.in_ok-letters.ensures.0 in
    let all : us ≡ ts = ap (map (letter_in b)) c.deref.ensures.value in
    λ h. overflow-grown p k ts c.count-generators.ensures.lawful least
    (subst (TreesOverflow (exponents_of p)) all
    (subst (λ (q : Presented). TreesOverflow (exponents_of q) us) same
    (wide-told (TreesOverflow (exponents_of b.pres) us) _ c.in_err-poly.field-0.0
    c.from_residual-in_err-poly.result c.from_residual-in_err-poly.ensures.1 c.in_err-poly.ensures.poly h)))

pub returns-clause-text : goal.returns-clause-text
returns-clause-text c =
    let p : Presented = c.args.pres.now in
    let k = c.args.k in
    let a = c.in_ok-letters.letters in
    let b = c.least_trees.new.letters in
    let ts : List Letter = map (letter_in b) c.in_ok-trees.trees.items in
    let us : List Letter = map (letter_in b) c.deref.result.now in
    let is = c.in_ok-trees.ensures in
    let least : AreLeastTrees p k ts =
    are_least_trees p a.pres k ts c.in_ok-letters.ensures.0 is.least is.once is.sorted in
    let same : b.pres ≡ p = is.kept.0 ∙ c.in_ok-letters.ensures.0 in
    let all : us ≡ ts = ap (map (letter_in b)) c.deref.ensures.value in
    let poly : List Term = c.in_ok-poly.poly in
    let vs : List Letter = map (letter_in b) c.deref-2.result.now in
    let told : (poly ≡ collected (terms_of (exponents_of p) ts))
    × (TreesOverflow (exponents_of p) ts → ⊥) =
    subst (λ (xs : List Letter). (poly ≡ collected (terms_of (exponents_of p) xs))
    × (TreesOverflow (exponents_of p) xs → ⊥)) all
    (subst (λ (q : Presented). (poly ≡ collected (terms_of (exponents_of q) us))
    × (TreesOverflow (exponents_of q) us → ⊥)) same c.in_ok-poly.ensures.poly) in
    record {
      list = ts;
      least = least;
      fits = λ o. told.1 (overflow-listed p k ts c.count-generators.ensures.lawful least o);
      lines = lines-put (string_bytes c.new-text.result) (string_bytes c.put_trees.new.text)
          (string_bytes c.put_poly.new.text) (tree_lines vs) (poly_line k poly) c.new-text.ensures.bytes
          c.in_ok-put_trees.ensures c.in_ok-put_poly.ensures
          ∙ ap (λ (xs : List Letter). as_lines (tree_lines xs ++ poly_line k poly ∷ []))
          (ap (map (letter_in b)) c.deref-2.ensures.value)
          ∙ ap (λ (cs : List Term). as_lines (tree_lines ts ++ poly_line k cs ∷ [])) told.0;
    }
