-- The image at the syllable's place.
use Rattle.std.proofs.Common.{rules, FitsSigned, ◌≡◌, ◌-◌, ◌<◌, ℕ, List, [], length, get_or, sym, ap, ◌∙◌, subst, arith}
use Rattle.std.specs.Prelude.{IfOk}
use Rattle.std.specs.Int.{w64, w128}
use Rattle.std.proofs.lemmas.Int.{to_z-of_z}
use Rattle.std.proofs.lemmas.List.{get_or-map}
use Rattle.nil_num.specs.Outcome.{Gives}
use Rattle.binom_poly.specs.declared.term.Term.{Term}
use Rattle.binom_poly.specs.Collected.{constant_terms}
use Rattle.hall_table.specs.Order.{generators}
use Rattle.hall_table.specs.Tabled.{last_of}
use Rattle.sum_compiler.specs.declared.sum_step.SumStep.TheVariants as step
use Rattle.sum_compiler.specs.Calls.{Call, MakesIn, place_of}
use Rattle.sum_compiler.specs.Putting.{to_power, put_in, calls_in}
use Rattle.sum_compiler.specs.Images.{families, image_at}
use Rattle.sum_compiler.specs.Powers.{zs, powers}
use Rattle.sum_compiler.proofs.SumsSoFar.{length-with_sums}
use Rattle.sum_compiler.proofs.images.right_power.Goals as goal

pub power-requires-clause-powers : goal.power-requires-clause-powers
power-requires-clause-powers c =
    let t = c.args.table.now in
    let size = length-with_sums t (zs t) [] (generators t) in
    ap length c.requires.powers ∙ omega arith

pub returns-clause-power : goal.returns-clause-power
returns-clause-power c =
    let t = c.args.table.now in
    let place = last_of t - c.args.syllable.number in
    let f : FitsSigned w64 c.args.syllable.exp = search rules in
    let g : FitsSigned w128 c.args.syllable.exp = search rules in
    let inner = to_z-of_z w64 c.args.syllable.exp f in
    let l : place < length c.args.images.now = omega arith in
    let exponent : c.in_ok-exponent.exponent ≡ constant_terms c.args.syllable.exp =
    c.in_ok-exponent.ensures.constant ∙ ap constant_terms (to_z-of_z w128 _ (subst (FitsSigned w128) (sym inner) g) ∙ inner) in
    let vector : c.in_ok-vector.vector.items ≡ image_at (families c.args.images.now) t c.args.syllable.number =
    c.in_ok-vector.ensures ∙ c.deref.ensures.value
    ∙ ap (λ v. v.items) c.index-images-place.is
    ∙ ap (λ (m : ℕ). (get_or c.args.images.now (m - c.args.syllable.number) c.index-images-place.result).items) c.last.ensures.last
    ∙ sym (get_or-map (λ v. v.items) c.args.images.now place c.index-images-place.result [] l) in
    subst (λ (target : List (List Term)). IfOk c.power.result (λ polys. polys.items ≡ target))
    (ap (λ (ps : List (List Term)). put_in (to_power t.level c.in_ok-vector.vector.items c.in_ok-exponent.exponent) ps) c.requires.powers
    ∙ ap (λ (v : List (List Term)). put_in (to_power t.level v c.in_ok-exponent.exponent) (powers t)) vector
    ∙ ap (λ (e : List Term). put_in (to_power t.level (image_at (families c.args.images.now) t c.args.syllable.number) e) (powers t)) exponent)
    c.power.ensures.power

pub returns-clause-makes : goal.returns-clause-makes
returns-clause-makes c =
    let t = c.args.table.now in
    let place = last_of t - c.args.syllable.number in
    let f : FitsSigned w64 c.args.syllable.exp = search rules in
    let g : FitsSigned w128 c.args.syllable.exp = search rules in
    let inner = to_z-of_z w64 c.args.syllable.exp f in
    let l : place < length c.args.images.now = omega arith in
    let exponent : c.in_ok-exponent.exponent ≡ constant_terms c.args.syllable.exp =
    c.in_ok-exponent.ensures.constant ∙ ap constant_terms (to_z-of_z w128 _ (subst (FitsSigned w128) (sym inner) g) ∙ inner) in
    let vector : c.in_ok-vector.vector.items ≡ image_at (families c.args.images.now) t c.args.syllable.number =
    c.in_ok-vector.ensures ∙ c.deref.ensures.value
    ∙ ap (λ v. v.items) c.index-images-place.is
    ∙ ap (λ (m : ℕ). (get_or c.args.images.now (m - c.args.syllable.number) c.index-images-place.result).items) c.last.ensures.last
    ∙ sym (get_or-map (λ v. v.items) c.args.images.now place c.index-images-place.result [] l) in
    subst (λ (cs : List Call). Gives place_of c.power.result (MakesIn cs))
    (ap (λ (ps : List (List Term)). calls_in step.Image c.args.j t.level (to_power t.level c.in_ok-vector.vector.items c.in_ok-exponent.exponent) ps) c.requires.powers
    ∙ ap (λ (v : List (List Term)). calls_in step.Image c.args.j t.level (to_power t.level v c.in_ok-exponent.exponent) (powers t)) vector
    ∙ ap (λ (e : List Term). calls_in step.Image c.args.j t.level (to_power t.level (image_at (families c.args.images.now) t c.args.syllable.number) e) (powers t)) exponent)
    c.power.ensures.makes
