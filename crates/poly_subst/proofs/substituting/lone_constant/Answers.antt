use Rattle.std.proofs.Common.{rules, ◌<◌, ◌≤◌, length, sym, ap, ◌∙◌, subst, arith}
use Rattle.std.specs.Int.{w128}
use Rattle.std.proofs.lemmas.Int.{to_z-of_z}
use Rattle.nil_num.specs.Bound.{IsNumber}
use Rattle.binom_poly.specs.Collected.{constant_terms}
use Rattle.binom_poly.proofs.Canonical.{constant_terms-other}
use Rattle.poly_subst.proofs.Ascending.{term_at}
use Rattle.poly_subst.proofs.Vanishing.{fits_within}
use Rattle.poly_subst.proofs.Expansion.{constant_term}
use Rattle.poly_subst.proofs.substituting.lone_constant.Goals as goal

pub returns-in-len1 : goal.returns-in-len1
returns-in-len1 c =
    let k = c.term-item.result.coefficient in
    let l : 0 < length c.terms.result.now = omega (arith, c.in-len1.len_at_least) in
    let t = term_at c.terms.result.now c.args.p.now 0 c.term-item.result c.terms.ensures.terms c.terms.ensures.form l c.term-item.is in
    let n : length c.parts.result.now ≤ 0 = search rules in
    let f = to_z-of_z w128 k (fits_within k t.within) in (
      sym c.terms.ensures.terms ∙ constant_term c.terms.result.now c.term-item.result c.parts.result.now c.in-len1.len_at_least c.in-len1.len_below c.term-item.is c.parts.ensures n
          ∙ constant_terms-other k t.not_zero ∙ ap constant_terms (sym f),
      subst IsNumber (sym f) t.within,
    )
