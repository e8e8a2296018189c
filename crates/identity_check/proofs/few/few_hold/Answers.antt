use Rattle.std.proofs.Common.{◌≡◌, Ok, OnOk, IsTrue, refl, sym, subst}
use Rattle.std.proofs.lemmas.Result.{IfOk-weaker}
use Rattle.nil_word.specs.Congruence.{Relations}
use Rattle.nil_pres.specs.Relations.{relations_of}
use Rattle.identity_check.specs.Drawing.{AreEnough}
use Rattle.identity_check.specs.Events.{HaveEqualSides}
use Rattle.identity_check.specs.Halts.{WalksIn}
use Rattle.identity_check.specs.Few.{AllStep, all_relation_events}
use Rattle.identity_check.proofs.StepsFollow.{fits_all}
use Rattle.identity_check.proofs.FewSteps.{few_follow}
use Rattle.identity_check.proofs.few.few_hold.Goals as goal

-- the walked generators are enough, and what was tried of them makes a table
pub returns : goal.returns
returns c =
    let t = c.args.table.now in
    let pres = c.args.pres.now in
    let rels = relations_of pres in
    let ms = c.deref-3.result.now in
    IfOk-weaker c.is_through-2.result
    (λ held. IsTrue held → c.all_relations.result ≡ Ok tt)
    (λ held. IsTrue held → HaveEqualSides rels t)
    (λ held through i.
    few_follow pres t ms (c.relations.ensures.presentation pres c.count.ensures.lawful)
    c.last.ensures.form c.requires
    record {
      fits = fits_all t c.level.result c.lend_all.result.now c.level.ensures.level c.lend_all.ensures
          (c.if-not-steps_fit.ensures refl);
      crossing = c.all_cross.ensures c.if-not-all_cross.false;
      enough = subst (λ l. AreEnough rels l ms) c.level-2.ensures.level
          (subst (λ ns. AreEnough rels c.level-2.result ns) (sym c.deref-3.ensures.value)
          c.in_ok-walked.ensures.enough);
      steps = subst (λ r. OnOk r ((some : Relations) → AllStep some t ms))
          (c.in_ok-is_through.ensures c.if-not-branch.false) c.steps_up.ensures rels;
    }
    (subst (λ r. WalksIn rels t (all_relation_events t) r) (through i)
    c.all_relations.ensures))
    c.is_through-2.ensures
