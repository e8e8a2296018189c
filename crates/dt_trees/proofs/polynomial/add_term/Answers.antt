-- The constant, the monomial and the contribution.
use Rattle.std.proofs.Common.{◌≡◌, ◌⊎◌, ◌++◌, List, rules, FitsSigned, to_z, of_z, ◌≤◌, ◌∙◌, length, ap, subst, arith, inl, inr, [], ◌∷◌}
use Rattle.std.specs.Int.{w128}
use Rattle.std.proofs.lemmas.Int.{to_z-of_z}
use Rattle.nil_pres.specs.Presented.{IsPresented}
use Rattle.binom_poly.specs.declared.fault.PolyFault.TheVariants.{Wide}
use Rattle.binom_poly.specs.declared.term.Term.{Term}
use Rattle.binom_poly.specs.Sums.{Holds}
use Rattle.binom_poly.specs.Times.{contribution}
use Rattle.binom_poly.specs.Weight.{DoOverflow}
use Rattle.binom_poly.proofs.Refusals.{handed_on}
use Rattle.binom_poly.proofs.Contributing.{overflows_before}
use Rattle.binom_poly.proofs.Accumulating.{large_overflows}
use Rattle.dt_letters.specs.Allowed.{exponents_of}
use Rattle.dt_letters.specs.Terms.{constant}
use Rattle.dt_letters.specs.Arena.{letter_in}
use Rattle.dt_letters.proofs.Presentations.{rising}
use Rattle.dt_trees.specs.Polynomials.{monomial_of, term_of, ConstantOverflows}
use Rattle.dt_trees.proofs.Refusals.{at_wide, if_err}
use Rattle.dt_trees.proofs.Variables.{types-over, types-more}
use Rattle.dt_trees.proofs.polynomial.add_term.Goals as goal

pub monomial-requires-clause-types : goal.monomial-requires-clause-types
monomial-requires-clause-types c =
    let pres = c.args.letters.now.pres in
    let t = letter_in c.args.letters.now c.args.tree in
    let few : length pres.names ≤ 48 =
    omega (
      arith,
      c.count-generators.ensures.count,
      c.count-generators.ensures.most,
      ap (λ p. length p.names) c.pres.ensures,
    ) in
    types-more (length pres.names) 48 t few
    (types-over (exponents_of pres) (length pres.names) t
    (rising pres (subst IsPresented c.pres.ensures c.count-generators.ensures.lawful))
    c.requires.over.letter c.requires.over.leaves c.requires.over.kind)

pub returns-in_err-coefficient-clause-wide : goal.returns-in_err-coefficient-clause-wide
returns-in_err-coefficient-clause-wide c =
    let t = letter_in c.args.letters.now c.args.tree in
    handed_on c.from_residual.result _ c.from_residual.ensures.1
    (λ e cs h. elim (at_wide c.in_err-coefficient.field-0.0 c.in_err-coefficient.ensures e) [
      | inl p ↦ inl p
      | inr p ↦ inr (large_overflows cs (monomial_of t) (constant (exponents_of c.args.letters.now.pres) t) p)
    ])

pub returns-in_err-monomial-clause-wide : goal.returns-in_err-monomial-clause-wide
returns-in_err-monomial-clause-wide c =
    let t = letter_in c.args.letters.now c.args.tree in
    handed_on c.from_residual-in_err-monomial.result _ c.from_residual-in_err-monomial.ensures.1
    (λ e cs h. inr (overflows_before cs (term_of (exponents_of c.args.letters.now.pres) t ∷ [])
    (inl (inl (at_wide c.in_err-monomial.field-0.0 c.in_err-monomial.ensures e)))))

pub returns-clause-wide : goal.returns-clause-wide
returns-clause-wide c =
    let e = exponents_of c.args.letters.now.pres in
    let t = letter_in c.args.letters.now c.args.tree in
    let n = c.in_ok-coefficient.coefficient in
    let z = to_z w128 (of_z w128 n) in
    let m = c.in_ok-monomial.monomial in
    let fits : FitsSigned w128 n = search rules in
    let same : contribution m z ≡ term_of e t =
    ap (λ ms. contribution ms z) c.in_ok-monomial.ensures.0
    ∙ ap (contribution (monomial_of t)) (to_z-of_z w128 n fits ∙ c.in_ok-coefficient.ensures.0) in
    if_err c.add.result
    (λ fault. fault ≡ Wide → (cs : List Term) → Holds c.args.sums cs
    → DoOverflow (cs ++ contribution m z ∷ []))
    (λ fault. fault ≡ Wide → (cs : List Term) → Holds c.args.sums cs
    → ConstantOverflows e t ⊎ DoOverflow (cs ++ term_of e t ∷ []))
    (λ fault f w cs h. inr (subst (λ (x : Term). DoOverflow (cs ++ x ∷ [])) same (f w cs h)))
    c.add.ensures.wide
