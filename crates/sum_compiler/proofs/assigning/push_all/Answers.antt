-- The variables count up with the polynomials.
use Rattle.std.proofs.Common.{◌++◌, [], ◌∷◌, List, sym, ap, ◌∙◌, arith, append_assoc, append-nil, ℕ}
use Rattle.std.proofs.lemmas.List.{length_push, map-id}
use Rattle.std.proofs.lemmas.Iterator.Adapters.{YieldsList-from_vec}
use Rattle.std.proofs.lemmas.Iterator.Consumers.{YieldsList-turn, YieldsList-end}
use Rattle.binom_poly.specs.declared.term.Term.{Term}
use Rattle.poly_subst.specs.declared.assign.Assign.{Assign}
use Rattle.sum_compiler.specs.Putting.{in_place}
use Rattle.sum_compiler.proofs.Listing.{in_place-push}
use Rattle.sum_compiler.proofs.assigning.push_all.Goals as goal

pub loop-to-init : goal.loop-to-init
unfolding in_place
loop-to-init c = record {
  counts = omega arith;
  listed = sym (append-nil c.args.list.now.items);
}

pub overflow_add-var : goal.overflow_add-var
overflow_add-var c =
    let gives = c.into_iter-to-iterator.ensures.into_iter_gives in
    let turn = YieldsList-turn (YieldsList-from_vec {s = c.into_iter-to-iterator.result} c.args.polys.items gives.0 (gives.1 ∙ c.args.polys.ok.0))
    c.loop-to.yielded c.loop-to.to-iterator c.loop-to.yielded_by c.next.result c.next.new.self c.in-Some.to c.in-Some.is c.next.ensures.steps in
    omega (arith, turn.0)

pub loop-to-preserved : goal.loop-to-preserved
loop-to-preserved c =
    let e = length_push c.loop-to.yielded c.in-Some.to in
    record {
      counts = omega arith;
      listed = c.in_ok-push.ensures.items
          ∙ ap (λ (ss : List Assign). ss ++ record { var = c.loop-to.var; to = c.in-Some.to } ∷ [])
          c.loop-to.invariant.listed
          ∙ append_assoc c.args.list.now.items (in_place c.args.first c.loop-to.yielded)
          (record { var = c.loop-to.var; to = c.in-Some.to } ∷ [])
          ∙ ap (λ (ss : List Assign). c.args.list.now.items ++ ss)
          (ap (λ (w : ℕ). in_place c.args.first c.loop-to.yielded
          ++ record { var = w; to = c.in-Some.to } ∷ []) c.loop-to.invariant.counts
          ∙ sym (in_place-push c.args.first c.loop-to.yielded c.in-Some.to));
    }

pub returns : goal.returns
returns c =
    let gives = c.into_iter-to-iterator.ensures.into_iter_gives in
    let end = YieldsList-end (YieldsList-from_vec {s = c.into_iter-to-iterator.result} c.args.polys.items gives.0 (gives.1 ∙ c.args.polys.ok.0))
    c.loop-to.yielded c.loop-to.to-iterator c.loop-to.yielded_by c.next.result c.next.new.self c.in-None.is c.next.ensures.steps in
    c.loop-to.invariant.listed
    ∙ ap (λ (ps : List (List Term)). c.args.list.now.items ++ in_place c.args.first ps)
    (sym (map-id c.loop-to.yielded) ∙ end.0)
