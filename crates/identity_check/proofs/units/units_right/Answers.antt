use Rattle.std.proofs.Common.{◌≡◌, ◌-◌, suc, arith}
use Rattle.std.proofs.lemmas.Result.{err_from_is_err_and}
use Rattle.hall_table.specs.Tabled.{last_of}
use Rattle.identity_check.specs.declared.identity.Identity.TheVariants.{UnitRight}
use Rattle.identity_check.specs.Events.Event.{tries}
use Rattle.identity_check.proofs.Stretches.{halt_each, none_each, each_ends}
use Rattle.identity_check.proofs.units.units_right.Goals as goal

pub returns-in_err-unit_right : goal.returns-in_err-unit_right
returns-in_err-unit_right c = λ rels.
    let t = c.args.table.now in
    let p = err_from_is_err_and c.from_residual-in_err-unit_right.result
    c.from_residual-in_err-unit_right.ensures.1 in
    rw (p.1, p.2)
    (halt_each rels t (λ k. tries (UnitRight k)) t.level (suc (last_of t) - t.level) c.loop-k.k
    c.in_err-unit_right.field-0.0 (omega arith) (omega arith) (c.loop-k.invariant rels)
    (c.in_err-unit_right.ensures rels))

pub loop-k-preserved : goal.loop-k-preserved
loop-k-preserved c = λ rels.
    none_each rels c.args.table.now (λ k. tries (UnitRight k)) c.args.table.now.level c.loop-k.k
    (omega arith) (c.loop-k.invariant rels) (c.in_ok-unit_right.ensures rels)

pub returns : goal.returns
returns c = λ rels.
    let t = c.args.table.now in
    let e : c.loop-k.k - t.level ≡ suc (last_of t) - t.level = omega arith in
    each_ends rels t (λ k. tries (UnitRight k)) c.loop-k.k e (c.loop-k.invariant rels)
