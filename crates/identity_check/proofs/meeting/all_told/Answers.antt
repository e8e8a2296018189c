use Rattle.std.proofs.Common.{◌≢◌, ◌∙◌, sym, subst, arith, inl, inr}
use Rattle.std.specs.Prelude.{All}
use Rattle.std.proofs.lemmas.Bool.Decides.{eqb_tells}
use Rattle.nil_pres.specs.Relations.{relations_of}
use Rattle.hall_table.specs.Tabled.{last_of, poly_at}
use Rattle.identity_check.specs.Meeting.{IsTold}
use Rattle.identity_check.proofs.meeting.all_told.Goals as goal

pub loop-k-preserved : goal.loop-k-preserved
loop-k-preserved c =
    let t = c.args.table.now in
    let rels = relations_of c.args.pres.now in
    λ i low l. elim (eqb_tells i c.loop-k.k) [
      | inl same ↦
          subst (λ m. All (λ u. IsTold rels (last_of t) m u.monomial) (poly_at t m)) (sym same.1)
          (subst (All (λ u. IsTold rels (last_of t) c.loop-k.k u.monomial))
          (c.terms.ensures.terms ∙ c.lend.ensures)
          (subst (λ n. All (λ u. IsTold rels n c.loop-k.k u.monomial) c.terms.result.now)
          (sym c.requires)
          (c.all_told_in.ensures c.if-not-all_told_in.false)))
      | inr other ↦ let n : i ≢ c.loop-k.k = other.1 in c.loop-k.invariant i low (omega arith)
    ]

pub returns : goal.returns
returns c = λ true k low high. c.loop-k.invariant k low (omega arith)
