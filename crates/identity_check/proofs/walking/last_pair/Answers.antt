use Rattle.std.proofs.lemmas.Result.{err_from_is_err_and}
use Rattle.identity_check.specs.declared.identity.Identity.TheVariants.{Up, Down}
use Rattle.identity_check.specs.Sides.{xs}
use Rattle.identity_check.specs.Events.{at_each}
use Rattle.identity_check.specs.Events.Event.{tries}
use Rattle.identity_check.proofs.Halting.{halt_sooner, later_walk}
use Rattle.identity_check.proofs.walking.last_pair.Goals as goal

pub returns-in_err-last_letters : goal.returns-in_err-last_letters
returns-in_err-last_letters c = λ rels.
    let t = c.args.table.now in
    let p = err_from_is_err_and c.from_residual.result c.from_residual.ensures.1 in
    rw (p.1, p.2)
    (halt_sooner rels t (at_each (xs t) (λ k. tries (Up c.args.j k)))
    (at_each (xs t) (λ k. tries (Down c.args.j k))) c.in_err-last_letters.field-0.0
    (c.in_err-last_letters.ensures rels))

pub returns : goal.returns
returns c = λ rels.
    let t = c.args.table.now in
    later_walk rels t (at_each (xs t) (λ k. tries (Up c.args.j k)))
    (at_each (xs t) (λ k. tries (Down c.args.j k))) c.last_letters-2.result
    (c.in_ok-last_letters.ensures rels) (c.last_letters-2.ensures rels)
