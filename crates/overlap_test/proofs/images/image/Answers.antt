use Rattle.std.proofs.Common.{◌≡◌, ℕ, ◌-◌, ◌<◌, ◌≤◌, ◌∙◌, List, length, get_or, pos, ap, arith, rules, FitsSigned}
use Rattle.std.specs.Int.{w64}
use mir.Syntax.{w128}
use Rattle.std.proofs.lemmas.Int.{to_z-of_z}
use Rattle.std.proofs.lemmas.List.{length-set}
use Rattle.nil_pres.specs.Presented.{right_of}
use Rattle.nil_pres.specs.declared.syllable.Syllable.{Syllable}
use Rattle.hall_law.specs.Plan.{put}
use Rattle.hall_law.specs.Table.{zeros}
use Rattle.overlap_test.proofs.Imaging.{begun, with_syllables, image_made, syllable_next, length-begun}
use Rattle.overlap_test.proofs.images.image.Goals as goal

pub loop-syllable-init : goal.loop-syllable-init
loop-syllable-init c =
    let p = c.args.pres.now in
    let is : c.in_ok-image.image ≡ begun p c.args.l =
    c.in_ok-image.ensures ∙ ap (λ (n : ℕ). put (zeros n) c.args.l (pos 1)) c.count.ensures.count in
    record {
      size = ap length is ∙ length-begun p c.args.l;
      made = ap (λ (ss : List Syllable). with_syllables ss c.in_ok-image.image)
          c.right_side-syllable-items.ensures.right
          ∙ ap (with_syllables (right_of p c.args.i c.args.l)) is
          ∙ image_made p c.args.i c.args.l c.count.ensures.lawful c.requires.least c.requires.below
          c.requires.most;
    }

pub set-requires-clause-most : goal.set-requires-clause-most
set-requires-clause-most c =
    let s : Syllable =
    get_or c.right_side-syllable-items.result.now c.loop-syllable.syllable-index
    record { number = 0; exp = pos 0 } in
    let above : (c.args.l < s.number) × (s.number ≤ length c.args.pres.now.names) =
    c.right_side-syllable-items.ensures.generators c.loop-syllable.syllable-index
    record { number = 0; exp = pos 0 } c.loop-syllable-test.true in
    let size = c.loop-syllable.invariant.size in
    omega arith

pub loop-syllable-preserved : goal.loop-syllable-preserved
loop-syllable-preserved c =
    let none : Syllable = record { number = 0; exp = pos 0 } in
    let items = c.right_side-syllable-items.result.now in
    let k = c.loop-syllable.syllable-index in
    let s : Syllable = get_or items k none in
    let narrow : FitsSigned w64 s.exp = search rules in
    let fits : FitsSigned w128 c.from.result = search rules in
    let is : c.set.new.self ≡ put c.loop-syllable.image s.number s.exp =
    c.set.ensures
    ∙ ap (put c.loop-syllable.image s.number)
    (to_z-of_z w128 c.from.result fits ∙ c.from.ensures ∙ to_z-of_z w64 s.exp narrow) in
    record {
      size = ap length is ∙ length-set c.loop-syllable.image (s.number - 1) s.exp
          ∙ c.loop-syllable.invariant.size;
      made = syllable_next items k none c.loop-syllable.image c.set.new.self
          c.loop-syllable-test.true is
          ∙ c.loop-syllable.invariant.made;
    }
