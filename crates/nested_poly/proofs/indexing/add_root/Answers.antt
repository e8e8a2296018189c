use Rattle.std.proofs.Common.{◌∙◌, ◌<◌, length, set, [], ◌∷◌, ◌++◌, refl, sym, ap, subst, arith}
use Rattle.nested_poly.specs.declared.root.Group.{Group}
use Rattle.nested_poly.specs.Roots.{AddsRoot}
use Rattle.nested_poly.proofs.Ending.{same_is}
use Rattle.nested_poly.proofs.Rooting.{adds_to_group, adds_group, read_twice}
use Rattle.nested_poly.proofs.indexing.add_root.Goals as goal

pub returns-then-eq : goal.returns-then-eq
returns-then-eq c =
    let new : Group = record { part = c.index_mut.result.now.part; roots = c.push.new.self } in
    let l : c.loop-place.place < length c.loop-place.groups.items = subst (λ gs. c.loop-place.place < length gs) (sym c.loop-place.invariant) (omega (arith, c.loop-place-test.true, c.len-place-end.ensures)) in
    subst (λ gs. AddsRoot gs (set c.loop-place.groups.items c.loop-place.place new) c.args.part c.args.root) c.loop-place.invariant
    (adds_to_group c.loop-place.groups.items (set c.loop-place.groups.items c.loop-place.place new) c.loop-place.place c.index_mut.result.now new c.args.part c.args.root l c.index_mut.ensures.value refl refl
    (read_twice c.loop-place.groups.items c.loop-place.place c.index.result.now c.index_mut.result.now c.args.part l c.index.ensures c.index_mut.ensures.value (same_is c.index.result.now.part c.args.part (sym c.if-eq.ensures)))
    c.in_ok-push.ensures.items)

pub returns : goal.returns
returns c =
    adds_group c.args.groups.now.items c.push-3.new.self.items record { part = c.args.part; roots = c.push-2.new.self } c.args.part c.args.root (c.in_ok-push-3.ensures.items ∙ ap (λ gs. gs ++ record { part = c.args.part; roots = c.push-2.new.self } ∷ []) c.loop-place.invariant) refl
    (c.in_ok-push-2.ensures.items ∙ ap (λ rs. rs ++ c.args.root ∷ []) c.new-roots.ensures.items)
