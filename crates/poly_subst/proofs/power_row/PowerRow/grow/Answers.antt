use Rattle.std.proofs.Common.{rules, ◌≡◌, ◌+◌, ◌-◌, ◌∷◌, [], length, length-append, sym, ap, ◌∙◌, subst, arith}
use Rattle.binom_poly.proofs.Refusals.{refuses_passed}
use Rattle.poly_subst.specs.Rows.{IsRow}
use Rattle.poly_subst.proofs.Exactness.{step_overflows}
use Rattle.poly_subst.proofs.Running.{row_grows}
use Rattle.poly_subst.proofs.power_row.PowerRow.grow.Goals as goal

pub loop-m-init : goal.loop-m-init
loop-m-init c = (subst (IsRow c.args.q.now) (sym c.self.view_is) c.requires.row, search rules)

pub returns-in_err-next-clause-wide : goal.returns-in_err-next-clause-wide
returns-in_err-next-clause-wide c =
    refuses_passed c.from_residual.result _ c.from_residual.ensures.1
    c.in_err-next.ensures.next
    (step_overflows c.args.q.now (c.loop-m.m - 1) c.args.top (omega (arith, c.loop-m.invariant.0.first, c.loop-m.invariant.1, c.loop-m-test.true)))

pub loop-m-preserved : goal.loop-m-preserved
loop-m-preserved c =
    let e = c.in_ok-push.ensures.items in
    let r : c.loop-m.m ≡ (c.loop-m.m - 1) + 1 = omega (arith, c.loop-m.invariant.0.first, c.loop-m.invariant.1) in (
      subst (IsRow c.args.q.now) (sym e) (row_grows c.args.q.now c.in_ok-next.next c.loop-m.self-inside.entries.items (c.loop-m.m - 1) c.loop-m.invariant.0 (c.loop-m.invariant.1 ∙ r) c.in_ok-next.ensures.next.0 c.in_ok-next.ensures.value c.in_ok-next.ensures.next.1),
      ap length e ∙ omega (arith, c.loop-m.invariant.1, length-append c.loop-m.self-inside.entries.items (c.in_ok-next.next ∷ [])),
    )
