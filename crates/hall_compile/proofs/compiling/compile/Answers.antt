use Rattle.std.proofs.Common.{◌++◌, ◌∷◌, [], ◌-◌, refl, ap, ◌∙◌, arith, sym}
use Rattle.hall_table.specs.Multiplies.{Paired}
use Rattle.hall_compile.specs.declared.origin.Origin.TheVariants.{Base}
use Rattle.hall_compile.proofs.Descending.{given_for, mean_same, starts, chosen, inconsistent, wide, sound}
use Rattle.hall_compile.proofs.compiling.compile.Goals as goal

pub loop-i-init : goal.loop-i-init
loop-i-init g c = record {
  pres = ap (λ (d : Paired). d.pres) c.in_ok-checked.ensures.base;
  level = ap (λ (d : Paired). d.table.level) c.in_ok-checked.ensures.base
      ∙ sym c.count-i.ensures.count;
  reached = starts c.args.pres.now c.in_ok-checked.checked c.push.new.self.items
      c.new-asked.result.items c.in_ok-checked.ensures.base
      (c.in_ok-push.ensures.items ∙ ap (λ bs. bs ++ Base ∷ []) c.new-by.ensures.items)
      c.new-asked.ensures.items;
  same = λ m. refl;
}

pub loop-i-preserved : goal.loop-i-preserved
loop-i-preserved g c =
    let i = c.loop-i.i - 1 in
    let comes = chosen c.loop-i.checked i record {
      pres = c.loop-i.invariant.pres;
      level = omega (arith, c.loop-i.invariant.level, c.loop-i-test.true);
      least = omega (arith, c.loop-i-test.true);
      reached = c.loop-i.invariant.reached;
      given = given_for _ c.as_mut_slice.ensures.value (c.loop-i.invariant.same i);
    } c.in-Chosen.origin c.in-Chosen.next c.in_ok-origin.field-0 c.in-Chosen.is
    c.in_ok-push-in-Chosen.ensures.items c.in_ok-origin.ensures.passes in
    record {
      pres = comes.pres;
      level = comes.level;
      reached = comes.reached;
      same = mean_same _ _ c.loop-i.proposers c.as_mut_slice.result.now c.pass.new.proposers
          c.as_mut_slice.ensures.len c.as_mut_slice.ensures.value c.pass.ensures.same
          c.loop-i.invariant.same;
    }

pub returns-in-Inconsistent-clause-outcome : goal.returns-in-Inconsistent-clause-outcome
returns-in-Inconsistent-clause-outcome g c =
    let i = c.loop-i.i - 1 in
    inconsistent c.loop-i.checked i record {
      pres = c.loop-i.invariant.pres;
      level = omega (arith, c.loop-i.invariant.level, c.loop-i-test.true);
      least = omega (arith, c.loop-i-test.true);
      reached = c.loop-i.invariant.reached;
      given = given_for _ c.as_mut_slice.ensures.value (c.loop-i.invariant.same i);
    } c.in-Inconsistent.overlap c.in_ok-origin.field-0 c.in-Inconsistent.is
    c.in_ok-origin.ensures.passes

pub returns-in-Wide-clause-outcome : goal.returns-in-Wide-clause-outcome
returns-in-Wide-clause-outcome g c =
    let i = c.loop-i.i - 1 in
    wide c.loop-i.checked i record {
      pres = c.loop-i.invariant.pres;
      level = omega (arith, c.loop-i.invariant.level, c.loop-i-test.true);
      least = omega (arith, c.loop-i-test.true);
      reached = c.loop-i.invariant.reached;
      given = given_for _ c.as_mut_slice.ensures.value (c.loop-i.invariant.same i);
    } c.in-Wide.place c.in_ok-origin.field-0 c.in-Wide.is c.in_ok-origin.ensures.passes

pub returns-clause-decided : goal.returns-clause-decided
returns-clause-decided g c =
    sound c.args.pres.now record {
      checked = c.loop-i.checked;
      by = c.loop-i.by;
      asked = c.loop-i.asked;
    } c.group.ensures.consistent c.count-i.ensures.lawful c.loop-i.invariant.pres
    (omega (arith, c.loop-i.invariant.level, c.loop-i-test.false, c.loop-i.auto.i))
    c.table.ensures.multiplies
