-- The exponents of all variables, one after the other.
use Rattle.std.proofs.Common.{◌≡◌, ℕ, ◌*◌, ◌<◌, ◌≤◌, ◌++◌, sym, ap, ◌∙◌, subst, arith, replicate, slice_index, inl, inr}
use Rattle.std.proofs.lemmas.Bool.{cases_lt}
use Rattle.std.proofs.lemmas.List.{get_or-replicate}
use Rattle.binom_poly.specs.Variable.{side, exponent_limit}
use Rattle.binom_poly.specs.Monomial.{IsMonomial}
use Rattle.binom_poly.proofs.Refusals.{gives_refused}
use Rattle.dt_letters.specs.Arena.{letter_in}
use Rattle.dt_trees.specs.Polynomials.{exponent_for, part_at, parts_below, monomial_of}
use Rattle.dt_trees.proofs.Variables.{parts-none, parts-next, monomial-form, monomial-small, monomial-large}
use Rattle.dt_trees.proofs.monomials.monomial.Goals as goal

pub loop-var-init : goal.loop-var-init
loop-var-init c = record {
  parts = c.new-parts.ensures.items ∙ sym (parts-none (letter_in c.args.letters.now c.args.tree));
  fits = λ v lt. absurd (omega (arith, lt));
}

pub returns-in_err-put_part : goal.returns-in_err-put_part
returns-in_err-put_part c =
    let t = letter_in c.args.letters.now c.args.tree in
    let v = c.loop-var.var in
    let lt : v < 2 * side = omega arith in
    let zero : slice_index (replicate 128 0) v ≡ 0 = get_or-replicate 128 v 0 0 lt in
    let is : slice_index c.raise_exponents.new.exponents v ≡ exponent_for t v =
    omega (arith, zero, c.raise_exponents.ensures v lt) in
    gives_refused c.from_residual.result (monomial_of t) c.from_residual.ensures.1
    (λ e. monomial-large t v (2 * side) lt
    (subst (λ (m : ℕ). exponent_limit < m) is (c.in_err-put_part.ensures.wide e)))

pub loop-var-preserved : goal.loop-var-preserved
loop-var-preserved c =
    let t = letter_in c.args.letters.now c.args.tree in
    let v = c.loop-var.var in
    let lt : v < 2 * side = omega arith in
    let zero : slice_index (replicate 128 0) v ≡ 0 = get_or-replicate 128 v 0 0 lt in
    let is : slice_index c.raise_exponents.new.exponents v ≡ exponent_for t v =
    omega (arith, zero, c.raise_exponents.ensures v lt) in
    record {
      parts = c.in_ok-put_part.ensures.part
          ∙ ap (λ ps. ps ++ part_at v (slice_index c.raise_exponents.new.exponents v)) c.loop-var.invariant.parts
          ∙ ap (λ (m : ℕ). parts_below t v ++ part_at v m) is ∙ sym (parts-next t v);
      fits = λ w less. elim (cases_lt w v) [
        | inl a ↦ c.loop-var.invariant.fits w a
        | inr b ↦
            let same : w ≡ v = omega (arith, less, b) in
            subst (λ (x : ℕ). exponent_for t x ≤ exponent_limit) (sym same)
            (subst (λ (m : ℕ). m ≤ exponent_limit) is c.in_ok-put_part.ensures.fits)
      ];
    }

pub of-requires : goal.of-requires
of-requires c =
    let t = letter_in c.args.letters.now c.args.tree in
    let all : c.loop-var.var ≡ 2 * side = omega arith in
    subst IsMonomial (sym (c.loop-var.invariant.parts ∙ ap (parts_below t) all))
    (monomial-form t c.requires.types (λ w lt. c.loop-var.invariant.fits w (omega (arith, all, lt))))

pub returns : goal.returns
returns c =
    let t = letter_in c.args.letters.now c.args.tree in
    let all : c.loop-var.var ≡ 2 * side = omega arith in (
      c.of.ensures ∙ c.loop-var.invariant.parts ∙ ap (parts_below t) all,
      monomial-small 0 (parts_below t (2 * side))
          (monomial-form t c.requires.types (λ w lt. c.loop-var.invariant.fits w (omega (arith, all, lt)))),
    )
