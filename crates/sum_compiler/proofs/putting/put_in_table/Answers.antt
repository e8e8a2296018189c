-- One polynomial after another.
use Rattle.std.proofs.Common.{List, ap, subst, ◌-◌, ◌<◌, length, ◌∙◌, refl, arith}
use Rattle.std.specs.Prelude.{All, [], ◌∷◌}
use Rattle.poly_subst.specs.declared.assign.Assign.{Assign}
use Rattle.poly_subst.specs.Substitute.{substituted}
use Rattle.sum_compiler.specs.Calls.{IsFirstAt, IsMade}
use Rattle.sum_compiler.specs.Calls.Call.{puts_in}
use Rattle.sum_compiler.specs.Putting.{calls_in}
use Rattle.sum_compiler.proofs.Walking.{handed_on}
use Rattle.sum_compiler.proofs.PutSoFar.{at, PutAll, put_begins, put_more, put_ends, put_stops}
use Rattle.sum_compiler.proofs.putting.put_in_table.Goals as goal

pub loop-k-init : goal.loop-k-init
loop-k-init c =
    let t = c.args.table.now in
    record {
      kept = refl;
      so_far = put_begins c.args.step c.args.j t.level c.level-k.result c.args.substitution.now
          t.polys
          c.new-made.result.items c.new-made.ensures.items c.level-k.ensures.level;
    }

pub returns-in_err-poly-clause-makes : goal.returns-in_err-poly-clause-makes
returns-in_err-poly-clause-makes c =
    let t = c.args.table.now in
    let list = c.args.substitution.now in
    let k = c.loop-k.k in
    let u : k - t.level < length t.polys = omega arith in
    handed_on c.in_err-poly.field-0.0 c.from_residual.result
    (puts_in (at c.args.step c.args.j k) c.lend.result.now c.loop-k.substitution ∷ [])
    (calls_in c.args.step c.args.j t.level list t.polys) c.from_residual.ensures.1
    c.in_err-poly.ensures.makes
    (λ place f. put_stops c.args.step c.args.j t.level k list t.polys
    c.loop-k.made.items c.lend.result.now place (omega arith) u c.lend.ensures
    c.loop-k.invariant.so_far
    (subst (λ (ss : List Assign). IsFirstAt (puts_in (at c.args.step c.args.j k) c.lend.result.now
    ss ∷ []) place)
    c.loop-k.invariant.kept f))

pub loop-k-preserved : goal.loop-k-preserved
loop-k-preserved c =
    let t = c.args.table.now in
    let k = c.loop-k.k in
    let p = c.lend.result.now in
    let u : k - t.level < length t.polys = omega arith in
    let kept = c.loop-k.invariant.kept in
    record {
      kept = c.in_ok-poly.ensures.kept ∙ kept;
      so_far = put_more c.args.step c.args.j t.level k c.args.substitution.now t.polys
          c.loop-k.made.items c.push.new.self.items p c.in_ok-poly.poly
          (omega arith) u c.lend.ensures
          (c.in_ok-poly.ensures.put ∙ ap (substituted p) kept) c.in_ok-push.ensures.items
          (subst (λ (ss : List Assign). All IsMade (puts_in (at c.args.step c.args.j k) p ss ∷ []))
          kept
          c.in_ok-poly.ensures.makes) c.loop-k.invariant.so_far;
    }

pub returns-clause-put : goal.returns-clause-put
returns-clause-put c =
    let t = c.args.table.now in
    let all : PutAll c.args.step c.args.j t.level c.args.substitution.now t.polys
    c.loop-k.made.items =
    put_ends c.args.step c.args.j t.level c.loop-k.k c.args.substitution.now t.polys
    c.loop-k.made.items (omega arith) c.loop-k.invariant.so_far in all.made_all

pub returns-clause-makes : goal.returns-clause-makes
returns-clause-makes c =
    let t = c.args.table.now in
    let all : PutAll c.args.step c.args.j t.level c.args.substitution.now t.polys
    c.loop-k.made.items =
    put_ends c.args.step c.args.j t.level c.loop-k.k c.args.substitution.now t.polys
    c.loop-k.made.items (omega arith) c.loop-k.invariant.so_far in all.walked
