-- The product of the right side, and then the entries.
use Rattle.std.proofs.Common.{◌≡◌, ℕ, ◌-◌, ◌++◌, List, length, ap, ◌∙◌, subst, arith}
use Rattle.std.specs.Prelude.{IfOk}
use Rattle.std.proofs.lemmas.List.{length-map}
use Rattle.nil_num.specs.Outcome.{Gives}
use Rattle.nil_pres.specs.Relations.{between}
use Rattle.binom_poly.specs.declared.term.Term.{Term}
use Rattle.hall_table.specs.Order.{generators}
use Rattle.hall_table.specs.Tabled.{last_of}
use Rattle.sum_compiler.specs.declared.sum_step.SumStep.TheVariants as step
use Rattle.sum_compiler.specs.Calls.{Call, IsFirstAt, MakesIn, place_of}
use Rattle.sum_compiler.specs.Summing.{with_sums, sum_calls}
use Rattle.sum_compiler.specs.Images.{families, right_of, right_calls, first_of, next_generator, next_image_calls}
use Rattle.sum_compiler.proofs.Walking.{handed_on, first_sooner, makes_later}
use Rattle.sum_compiler.proofs.ImageEntries.{length-first_of}
use Rattle.sum_compiler.proofs.Rights.{length-right_of}
use Rattle.sum_compiler.proofs.images.next_image.Goals as goal

pub returns-in_err-steps-clause-makes : goal.returns-in_err-steps-clause-makes
returns-in_err-steps-clause-makes c =
    let t = c.args.table.now in
    let fam = families c.args.images.now in
    let right = between c.args.pres.now c.args.i in
    let e : c.args.j ≡ next_generator t fam = omega (arith, length-map c.args.images.now (λ v. v.items)) in
    handed_on c.in_err-steps.field-0.0 c.from_residual.result (right_calls fam t c.args.j (right c.args.j))
    (next_image_calls t right fam) c.from_residual.ensures.1 c.in_err-steps.ensures.makes
    (λ place f. subst (λ (m : ℕ). IsFirstAt (right_calls fam t m (right m)
    ++ sum_calls step.Image m t (right_of fam t m (right m)) (first_of t m) (last_of t - m)) place) e
    (first_sooner (right_calls fam t c.args.j (right c.args.j))
    (sum_calls step.Image c.args.j t (right_of fam t c.args.j (right c.args.j)) (first_of t c.args.j) (last_of t - c.args.j))
    place f))

pub with_sums-requires-clause-size : goal.with_sums-requires-clause-size
with_sums-requires-clause-size c =
    ap length c.in_ok-steps.ensures.right
    ∙ length-right_of (families c.args.images.now) c.args.table.now c.args.j (between c.args.pres.now c.args.i c.args.j)

pub returns-clause-image : goal.returns-clause-image
returns-clause-image c =
    let t = c.args.table.now in
    let fam = families c.args.images.now in
    let right = between c.args.pres.now c.args.i in
    let e : c.args.j ≡ next_generator t fam = omega (arith, length-map c.args.images.now (λ v. v.items)) in
    let size = length-first_of t c.args.j (omega arith) in
    let first : length c.in_ok-first.first.items ≡ length (first_of t c.args.j) = ap length c.in_ok-first.ensures in
    let more : generators t - length c.in_ok-first.first.items ≡ last_of t - c.args.j = omega arith in
    subst (λ (target : List (List Term)). IfOk c.with_sums.result (λ polys. polys.items ≡ target))
    (ap (λ (w : List (List Term)). with_sums t w c.in_ok-first.first.items (generators t - length c.in_ok-first.first.items)) c.in_ok-steps.ensures.right
    ∙ ap (λ (d : ℕ). with_sums t (right_of fam t c.args.j (right c.args.j)) c.in_ok-first.first.items d) more
    ∙ ap (λ (f : List (List Term)). with_sums t (right_of fam t c.args.j (right c.args.j)) f (last_of t - c.args.j)) c.in_ok-first.ensures
    ∙ ap (λ (m : ℕ). with_sums t (right_of fam t m (right m)) (first_of t m) (last_of t - m)) e)
    c.with_sums.ensures.entries

pub returns-clause-makes : goal.returns-clause-makes
returns-clause-makes c =
    let t = c.args.table.now in
    let fam = families c.args.images.now in
    let right = between c.args.pres.now c.args.i in
    let e : c.args.j ≡ next_generator t fam = omega (arith, length-map c.args.images.now (λ v. v.items)) in
    let size = length-first_of t c.args.j (omega arith) in
    let first : length c.in_ok-first.first.items ≡ length (first_of t c.args.j) = ap length c.in_ok-first.ensures in
    let more : generators t - length c.in_ok-first.first.items ≡ last_of t - c.args.j = omega arith in
    subst (λ (m : ℕ). Gives place_of c.with_sums.result (MakesIn (right_calls fam t m (right m)
    ++ sum_calls step.Image m t (right_of fam t m (right m)) (first_of t m) (last_of t - m)))) e
    (makes_later c.with_sums.result (right_calls fam t c.args.j (right c.args.j))
    (sum_calls step.Image c.args.j t (right_of fam t c.args.j (right c.args.j)) (first_of t c.args.j) (last_of t - c.args.j))
    c.in_ok-steps.ensures.makes
    (subst (λ (cs : List Call). Gives place_of c.with_sums.result (MakesIn cs))
    (ap (λ (w : List (List Term)). sum_calls step.Image c.args.j t w c.in_ok-first.first.items (generators t - length c.in_ok-first.first.items)) c.in_ok-steps.ensures.right
    ∙ ap (λ (d : ℕ). sum_calls step.Image c.args.j t (right_of fam t c.args.j (right c.args.j)) c.in_ok-first.first.items d) more
    ∙ ap (λ (f : List (List Term)). sum_calls step.Image c.args.j t (right_of fam t c.args.j (right c.args.j)) f (last_of t - c.args.j)) c.in_ok-first.ensures)
    c.with_sums.ensures.makes))
