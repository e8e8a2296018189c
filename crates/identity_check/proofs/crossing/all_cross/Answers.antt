use Rattle.std.proofs.Common.{◌≢◌, ◌∙◌, sym, subst, arith, inl, inr}
use Rattle.std.specs.Prelude.{All}
use Rattle.std.proofs.lemmas.Bool.Decides.{eqb_tells}
use Rattle.hall_table.specs.Tabled.{poly_at}
use Rattle.identity_check.specs.Crossing.{Crosses}
use Rattle.identity_check.proofs.crossing.all_cross.Goals as goal

pub loop-k-preserved : goal.loop-k-preserved
loop-k-preserved c =
    let t = c.args.table.now in
    λ i low l. elim (eqb_tells i c.loop-k.k) [
      | inl same ↦
          subst (λ m. All (λ u. Crosses m u.monomial) (poly_at t m)) (sym same.1)
          (subst (All (λ u. Crosses c.loop-k.k u.monomial)) (c.terms.ensures.terms ∙ c.lend.ensures)
          (c.all_cross_in.ensures c.if-not-all_cross_in.false))
      | inr other ↦ let n : i ≢ c.loop-k.k = other.1 in c.loop-k.invariant i low (omega arith)
    ]

pub returns : goal.returns
returns c = λ true k low high. c.loop-k.invariant k low (omega arith)
