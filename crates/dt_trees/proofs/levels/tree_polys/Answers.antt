-- One polynomial after the other; the first that overflows ends the list.
use Rattle.std.proofs.Common.{◌≡◌, ℕ, ◌∙◌, ◌+◌, ◌++◌, ◌∷◌, [], List, length, sym, ap, subst, arith}
use Rattle.binom_poly.specs.declared.term.Term.{Term}
use Rattle.nil_pres.specs.Presented.{Presented}
use Rattle.dt_letters.specs.Allowed.{exponents_of}
use Rattle.dt_letters.specs.Listing.{trees}
use Rattle.dt_letters.proofs.Different.{extended-trans, extended-refl}
use Rattle.dt_trees.specs.Polynomials.{TreesOverflow, poly_of, polys_of}
use Rattle.dt_trees.specs.Known.{AreKnown}
use Rattle.dt_trees.proofs.Knowing.{known-none}
use Rattle.dt_trees.proofs.Refusals.{at_wide}
use Rattle.dt_trees.proofs.Taken.{polys-none, polys-next, fit-next}
use Rattle.dt_trees.proofs.levels.tree_polys.Goals as goal

pub loop-place-init : goal.loop-place-init
loop-place-init c = record {
  kept = extended-refl c.args.letters.now;
  polys = c.new-polys.ensures.items ∙ sym (polys-none (exponents_of c.args.letters.now.pres) c.args.level);
  known = subst (AreKnown c.args.letters.now (exponents_of c.args.letters.now.pres) c.args.level)
      (sym c.new-known.ensures.items)
      (known-none c.args.letters.now (exponents_of c.args.letters.now.pres) c.args.level);
  count = ap length c.new-known.ensures.items;
  fit = λ p. absurd (omega (arith, p.1));
}

pub returns-in_err-push-in-Ok-clause-kept : goal.returns-in_err-push-in-Ok-clause-kept
returns-in_err-push-in-Ok-clause-kept c =
    extended-trans c.args.letters.now c.loop-place.letters c.poly_of.new.letters
    c.loop-place.invariant.kept c.poly_of.ensures.kept

pub returns-in-Err-Wide-clause-kept : goal.returns-in-Err-Wide-clause-kept
returns-in-Err-Wide-clause-kept c =
    extended-trans c.args.letters.now c.loop-place.letters c.poly_of.new.letters
    c.loop-place.invariant.kept c.poly_of.ensures.kept

pub returns-in-Err-Wide-clause-polys : goal.returns-in-Err-Wide-clause-polys
returns-in-Err-Wide-clause-polys c =
    let i = c.loop-place.place in
    let at : Presented → Type 0 = λ r. TreesOverflow (exponents_of r) (trees (exponents_of r) c.args.level (c.args.level + i)) in (
      i,
      omega (arith, c.loop-place-test.true, c.count-count.ensures.count, ap (λ (p : Presented). length p.names) c.pres.ensures),
      subst at c.loop-place.invariant.kept.0
          (at_wide c.in-Err-Wide.field-0 c.in-Err-Wide.ensures.poly (cc)),
    )

pub returns-in-Err-Memory-clause-kept : goal.returns-in-Err-Memory-clause-kept
returns-in-Err-Memory-clause-kept c =
    extended-trans c.args.letters.now c.loop-place.letters c.poly_of.new.letters
    c.loop-place.invariant.kept c.poly_of.ensures.kept

pub loop-place-preserved : goal.loop-place-preserved
loop-place-preserved c =
    let e = exponents_of c.args.letters.now.pres in
    let level = c.args.level in
    let i = c.loop-place.place in
    let poly = c.in-Ok.poly in
    let is = subst (λ (r : Presented). (poly ≡ poly_of (exponents_of r) level (level + i))
    × ¬ TreesOverflow (exponents_of r) (trees (exponents_of r) level (level + i)))
    c.loop-place.invariant.kept.0 c.in-Ok.ensures.poly in
    record {
      kept = extended-trans c.args.letters.now c.loop-place.letters c.poly_of.new.letters
          c.loop-place.invariant.kept c.poly_of.ensures.kept;
      polys = c.in_ok-push-in-Ok.ensures.items
          ∙ ap (λ (ps : List (List Term)). ps ++ poly ∷ []) c.loop-place.invariant.polys
          ∙ ap (λ (p : List Term). polys_of e level i ++ p ∷ []) is.0 ∙ sym (polys-next e level i);
      known = c.in-Ok.ensures.known;
      count = c.in-Ok.ensures.count ∙ ap (λ (n : ℕ). n + 1) c.loop-place.invariant.count;
      fit = fit-next e level i c.loop-place.invariant.fit is.1;
    }
