use Rattle.std.proofs.Common.{◌≡◌, ◌-◌, pos, Ok, Err, length, take, drop, sym, ◌∙◌, ap, subst, rules}
use Rattle.std.specs.Prelude.{IfSome, Option, Some, None}
use Rattle.std.proofs.lemmas.Int.{to_z-of_z}
use Rattle.std.proofs.lemmas.List.{length-replicate}
use Rattle.std.proofs.lemmas.Result.{err_from_is_err_and}
use mir.Syntax.{w128}
use Rattle.nil_num.specs.Outcome.{Gives}
use Rattle.nil_word.specs.declared.expr.Expr.TheVariants.{Product}
use Rattle.hall_table.specs.declared.wide_at.WideAt.{WideAt}
use Rattle.nil_pres.specs.Presented.{IsPresented}
use Rattle.hall_table.specs.Tabled.{IsTabled, last_of}
use Rattle.hall_table.specs.Order.{multiplied}
use Rattle.hall_law.specs.Table.{zeros, single}
use Rattle.hall_law.specs.Plan.{put}
use Rattle.group_eval.specs.declared.pairing.Pairing.TheVariants.{Conjugate, Commutator}
use Rattle.group_eval.specs.Fault.{place_of}
use Rattle.group_eval.specs.Order.{and_then, powered}
use Rattle.group_eval.specs.Expressions.{joined, evaluated, IsExprOf}
use Rattle.group_eval.proofs.Singles.{set-zeros}
use Rattle.group_eval.proofs.Evaluations.{outcomes}
use Rattle.group_eval.proofs.Joining.{IsIn-evaluated, IsIn-joined}
use Rattle.group_eval.proofs.Parts.{items_some, take-rest, rest_shaped, rest_from, joined-more, joined-wide, product_begins, power-generator, power-other, evaluated-Conj, evaluated-Comm, evaluated-Gen, pair-parts, base_in, first_in, conj_parts_in, comm_parts_in, length-evaluated}
use Rattle.group_eval.proofs.expressions.+vectors.Goals as goal

-- the place of a fault stays
refused_more : (o : Option WideAt) (P Q : WideAt → Type 0) → ((at : WideAt) → P at → Q at)
    → IfSome o P → IfSome o Q
refused_more (Some at) P Q f h = f at h
refused_more None P Q f h = h

-- the vector has the exponent at the generator's place
pub power_of-returns-in-Gen-clause-order : goal.power_of-returns-in-Gen-clause-order
power_of-returns-in-Gen-clause-order t c =
    let table = c.args.checked.now.table in
    let k = c.in-Gen.k in
    let zero : c.in_ok-out.out ≡ zeros (last_of table) =
    c.in_ok-out.ensures ∙ ap zeros c.count.ensures.count
    ∙ ap (λ p. zeros (length p.names)) c.pres.ensures.pres
    ∙ ap zeros (sym c.pres.ensures.multiplies.last) in
    let made : c.set.new.self ≡ single (last_of table) k c.args.e =
    c.set.ensures ∙ ap (λ z. put c.in_ok-out.out k z) (to_z-of_z w128 c.args.e c.ranges.e)
    ∙ ap (λ v. put v k c.args.e) zero ∙ set-zeros (last_of table) k c.args.e in
    power-generator table c.args.base.now k c.args.e c.in-Gen.is ∙ ap (λ v. Ok v) (sym made)

pub power_of-power-requires : goal.power_of-power-requires
power_of-power-requires t c =
    let base = base_in c.args.checked.now c.args.base.now c.args.e c.requires.power in
    record {
      vectors = (
        length-evaluated c.args.checked.now c.args.base.now c.in_ok-vector.vector base
            c.in_ok-vector.ensures.order
            ∙ c.pres.ensures.multiplies.last,
        (
          ap length c.in_ok-out.ensures ∙ length-replicate c.count.result (pos 0)
              ∙ c.count.ensures.count ∙ ap (λ p. length p.names) c.pres.ensures.pres,
          tt,
        ),
      );
      ws = c.in_ok-vector.ensures.ws;
    }

-- the base isn't one generator
pub power_of-returns-in_err-power : goal.power_of-returns-in_err-power
power_of-returns-in_err-power t c =
    let table = c.args.checked.now.table in
    let p = err_from_is_err_and c.from_residual-in_err-power.result
    c.from_residual-in_err-power.ensures.1 in
    record {
      order = rw (p.1, p.2)
          (power-other table c.args.base.now c.args.e (Ok c.in_ok-vector.vector)
          c.in_default.not-Gen c.in_ok-vector.ensures.order
          ∙ ap (powered table c.in_ok-vector.vector)
          (sym (to_z-of_z w128 c.args.e c.ranges.e))
          ∙ c.in_err-power.ensures.order);
      ws = c.in_err-power.ensures.ws;
    }

pub power_of-returns : goal.power_of-returns
power_of-returns t c =
    let table = c.args.checked.now.table in
    record {
      order = power-other table c.args.base.now c.args.e (Ok c.in_ok-vector.vector)
          c.in_default.not-Gen c.in_ok-vector.ensures.order
          ∙ ap (powered table c.in_ok-vector.vector)
          (sym (to_z-of_z w128 c.args.e c.ranges.e))
          ∙ c.in_ok-power.ensures.order;
      ws = c.in_ok-power.ensures.ws;
    }

-- the items but the first are what a slice has of them
pub product_of-loop-item-init : goal.product_of-loop-item-init
product_of-loop-item-init t c =
    let checked = c.args.checked.now in
    let table = checked.table in
    let n = length checked.pres.names in
    let items = c.args.items.now in
    let first = first_in checked items c.index-items-0.result
    (items_some n items c.requires.items.shaped) c.index-items-0.is c.requires.items in
    record {
      shaped = rest_shaped n items c.requires.items.shaped;
      level = rest_from table.level items c.requires.items.level;
      ws = c.in_ok-left.ensures.ws;
      left = IsIn-evaluated checked c.index-items-0.result c.in_ok-left.left
          (c.expressions.ensures checked (subst IsPresented c.pres.ensures.pres c.count-n.ensures.lawful)
          (subst IsTabled c.table.ensures.table c.level-level.ensures.form)
          c.pres.ensures.multiplies)
          first c.in_ok-left.ensures.order;
      room = ap length c.in_ok-room.ensures ∙ length-replicate c.count-n.result (pos 0)
          ∙ c.count-n.ensures.count ∙ ap (λ p. length p.names) c.pres.ensures.pres;
      made = ap (λ es. joined table c.in_ok-left.left (outcomes table es)) (take-rest items)
          ∙ sym (product_begins table items c.index-items-0.result c.in_ok-left.left
          (items_some n items c.requires.items.shaped) c.index-items-0.is
          c.in_ok-left.ensures.order);
    }

pub product_of-returns-in_err-multiply_on-clause-order :
    goal.product_of-returns-in_err-multiply_on-clause-order
product_of-returns-in_err-multiply_on-clause-order t c =
    let table = c.args.checked.now.table in
    let items = c.args.items.now in
    let rest = take (length items - 1) (drop 1 items) in
    let p = err_from_is_err_and c.from_residual-in_err-multiply_on.result
    c.from_residual-in_err-multiply_on.ensures.1 in
    rw (p.1, p.2)
    (refused_more (place_of c.in_err-multiply_on.field-0.0)
    (λ at. and_then (evaluated table c.item-item.result) (multiplied table c.loop-item.left) ≡ Err at)
    (λ at. evaluated table (Product items) ≡ Err at)
    (λ at h.
    sym c.loop-item.invariant.made
    ∙ joined-wide table c.loop-item.left rest c.loop-item.item-index c.item-item.result at
    c.loop-item-test.true c.item-item.is h)
    c.in_err-multiply_on.ensures.order)

pub product_of-loop-item-preserved : goal.product_of-loop-item-preserved
product_of-loop-item-preserved t c =
    let checked = c.args.checked.now in
    let table = checked.table in
    let items = c.args.items.now in
    let rest = take (length items - 1) (drop 1 items) in
    let item : IsExprOf checked c.item-item.result = search rules in
    record {
      shaped = c.loop-item.invariant.shaped;
      level = c.loop-item.invariant.level;
      ws = c.in_ok-multiply_on.ensures.ws;
      left = IsIn-joined checked c.item-item.result c.loop-item.left c.multiply_on.new.left
          c.pres.ensures.multiplies
          (c.expressions.ensures checked (subst IsPresented c.pres.ensures.pres c.count-n.ensures.lawful)
          (subst IsTabled c.table.ensures.table c.level-level.ensures.form)
          c.pres.ensures.multiplies)
          item c.loop-item.invariant.left c.in_ok-multiply_on.ensures.order;
      room = c.in_ok-multiply_on.ensures.room;
      made = sym (joined-more table c.loop-item.left c.multiply_on.new.left rest
          c.loop-item.item-index c.item-item.result c.loop-item-test.true c.item-item.is
          c.in_ok-multiply_on.ensures.order)
          ∙ c.loop-item.invariant.made;
    }

-- ---- an item multiplied on
pub multiply_on-multiply-requires-clause-vectors : goal.multiply_on-multiply-requires-clause-vectors
multiply_on-multiply-requires-clause-vectors t c = (
  c.requires.left.entries,
  (
    length-evaluated c.args.checked.now c.args.item.now c.in_ok-right.right c.requires.item
        c.in_ok-right.ensures.order
        ∙ c.table-table.ensures.multiplies.last,
    (c.requires.room, tt),
  ),
)

pub vector_of-pair-requires-clause-vectors : goal.vector_of-pair-requires-clause-vectors
vector_of-pair-requires-clause-vectors t c =
    let parts = conj_parts_in c.args.checked.now c.args.expr.now c.in-Conj.u c.in-Conj.v
    c.get-in-Conj.result.now c.get-in-Conj-2.result.now c.in-Conj.is c.get-in-Conj.ensures
    c.get-in-Conj-2.ensures c.requires.expr in (
      length-evaluated c.args.checked.now c.get-in-Conj.result.now c.in_ok-left-in-Conj.left parts.0
          c.in_ok-left-in-Conj.ensures.order,
      (
        length-evaluated c.args.checked.now c.get-in-Conj-2.result.now
            c.in_ok-right-in-Conj.right parts.1 c.in_ok-right-in-Conj.ensures.order,
        tt,
      ),
    )

pub vector_of-returns-in_ok-right-in-Conj-clause-order :
    goal.vector_of-returns-in_ok-right-in-Conj-clause-order
vector_of-returns-in_ok-right-in-Conj-clause-order t c =
    let table = c.args.checked.now.table in
    subst (λ o. Gives place_of c.pair.result (λ r. o ≡ r))
    (sym (pair-parts table Conjugate c.args.expr.now c.in-Conj.u c.in-Conj.v
    c.get-in-Conj.result.now c.get-in-Conj-2.result.now c.in_ok-left-in-Conj.left
    c.in_ok-right-in-Conj.right
    (evaluated-Conj table c.args.expr.now c.in-Conj.u c.in-Conj.v c.in-Conj.is)
    c.get-in-Conj.ensures c.get-in-Conj-2.ensures c.in_ok-left-in-Conj.ensures.order
    c.in_ok-right-in-Conj.ensures.order))
    c.pair.ensures.order

pub vector_of-pair-requires-in-Comm-clause-vectors : goal.vector_of-pair-requires-in-Comm-clause-vectors
vector_of-pair-requires-in-Comm-clause-vectors t c =
    let parts = comm_parts_in c.args.checked.now c.args.expr.now c.in-Comm.u c.in-Comm.v
    c.get-in-Comm.result.now c.get-in-Comm-2.result.now c.in-Comm.is c.get-in-Comm.ensures
    c.get-in-Comm-2.ensures c.requires.expr in (
      length-evaluated c.args.checked.now c.get-in-Comm.result.now c.in_ok-left-in-Comm.left parts.0
          c.in_ok-left-in-Comm.ensures.order,
      (
        length-evaluated c.args.checked.now c.get-in-Comm-2.result.now
            c.in_ok-right-in-Comm.right parts.1 c.in_ok-right-in-Comm.ensures.order,
        tt,
      ),
    )

pub vector_of-returns-in_ok-right-in-Comm-clause-order :
    goal.vector_of-returns-in_ok-right-in-Comm-clause-order
vector_of-returns-in_ok-right-in-Comm-clause-order t c =
    let table = c.args.checked.now.table in
    subst (λ o. Gives place_of c.pair-in-Comm.result (λ r. o ≡ r))
    (sym (pair-parts table Commutator c.args.expr.now c.in-Comm.u c.in-Comm.v
    c.get-in-Comm.result.now c.get-in-Comm-2.result.now c.in_ok-left-in-Comm.left
    c.in_ok-right-in-Comm.right
    (evaluated-Comm table c.args.expr.now c.in-Comm.u c.in-Comm.v c.in-Comm.is)
    c.get-in-Comm.ensures c.get-in-Comm-2.ensures c.in_ok-left-in-Comm.ensures.order
    c.in_ok-right-in-Comm.ensures.order))
    c.pair-in-Comm.ensures.order

pub vector_of-returns-in_ok-unit-in-Gen-clause-order :
    goal.vector_of-returns-in_ok-unit-in-Gen-clause-order
vector_of-returns-in_ok-unit-in-Gen-clause-order t c =
    evaluated-Gen c.args.checked.now.table c.args.expr.now c.in-Gen.k c.count-n.result
    c.in_ok-unit-in-Gen.field-0 c.in-Gen.is
    (c.count-n.ensures.count ∙ ap (λ p. length p.names) c.pres.ensures.pres
    ∙ sym c.pres.ensures.multiplies.last)
    c.in_ok-unit-in-Gen.ensures
