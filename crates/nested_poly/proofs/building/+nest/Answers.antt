use Rattle.std.proofs.Common.{◌+◌, ◌-◌, [], drop, refl, sym, subst, arith, rules, FitsSigned}
use Rattle.std.specs.Int.{w128}
use Rattle.std.proofs.lemmas.Int.{to_z-of_z}
use Rattle.std.proofs.lemmas.List.Elements.{All-take, All-drop}
use Rattle.nested_poly.specs.Tails.{HasPart}
use Rattle.nested_poly.specs.Splits.{IsSplitOf}
use Rattle.nested_poly.proofs.Behind.{nests_none, nests_whole, on_ok, tails_behind}
use Rattle.nested_poly.proofs.Runs.{nests_more, parts_in-run}
use Rattle.nested_poly.proofs.building.+nest.Goals as goal

pub nest_run-returns-in_default : goal.nest_run-returns-in_default
nest_run-returns-in_default t c = nests_none c.args.nodes.now.items c.args.run.now c.in_default.ensures.cases

pub nest_run-of-requires-clause-rest : goal.nest_run-of-requires-clause-rest
nest_run-of-requires-clause-rest t c = tails_behind c.args.run.now c.in-Some.rest.now c.in-Some.first.now c.in-Some.ensures.cases.0 c.requires

pub nest_run-returns : goal.nest_run-returns
nest_run-returns t c =
    let f : FitsSigned w128 c.in_ok-split.split.coefficient = search rules in
    on_ok c.nest-2.result
    (λ h. nests_whole c.args.nodes.now.items c.push.new.self.items c.nest.new.nodes.items _ c.nest-2.new.nodes.items c.in_ok-split.split c.args.run.now _ _ _ _ c.index_mut.result.now c.len-place.result c.len.result
    c.in_ok-push.ensures.items (omega (arith, c.len-place.ensures)) c.in_ok-nest.ensures c.deref.ensures.value c.index_mut.ensures.value (omega (arith, c.len.ensures)) refl refl refl refl (to_z-of_z w128 c.in_ok-split.split.coefficient f) refl h c.deref-2.ensures.value
    (subst (IsSplitOf c.in_ok-split.split) (sym c.in-Some.ensures.cases.0) c.in_ok-split.ensures))
    c.nest-2.ensures

-- ---- run by run
pub nest-runs-init : goal.nest-runs-init
nest-runs-init t c = record { within = omega arith; nests = nests_none c.args.nodes.now.items [] refl }

pub nest-nest_run-requires : goal.nest-nest_run-requires
nest-nest_run-requires t c =
    let n = c.runs.start + c.run_of.result - c.runs.start in
    let fewer = parts_in-run n c.runs.start c.args.tails.now in (
      omega (arith, fewer, c.decreases),
      All-take HasPart n (drop c.runs.start c.args.tails.now)
          (All-drop HasPart c.runs.start c.args.tails.now c.requires),
    )

pub nest-runs-preserved : goal.nest-runs-preserved
nest-runs-preserved t c = record {
  within = omega (arith, c.run_of.ensures.most, c.runs-test.true);
  nests = nests_more c.args.nodes.now.items c.runs.nodes.items c.nest_run.new.nodes.items c.runs.start
      (c.runs.start + c.run_of.result) c.args.tails.now (omega arith) c.runs.invariant.nests
      c.in_ok-nest_run.ensures;
}
