-- Equal right sides pass the test, and others don't.
use Rattle.std.proofs.Common.{◌≡◌, ◌≤◌, ◌∙◌, false, sym, arith, below_more}
use Rattle.std.specs.Cmp.Lexicographic.{pointwise, pointwise_decides}
use Rattle.std.proofs.lemmas.Bool.{false≢true}
use Rattle.nil_pres.specs.Presented.{right_of}
use Rattle.tree_propose.proofs.Same.{same_syllable, same_syllable-Decides, not_false, not_true}
use Rattle.tree_propose.proofs.sameness.have_same_row.Goals as goal

pub returns-then-ne : goal.returns-then-ne
returns-then-ne c =
    let left = c.right_side.result.now in
    let right = c.right_side-in-loop-i.result.now in
    let differ : pointwise same_syllable left right ≡ false =
    not_true (pointwise same_syllable left right) c.if-ne.ensures in (
      λ h. absurd (false≢true h),
      λ same.
          let equal : left ≡ right =
          c.right_side.ensures.right ∙ same c.loop-i.i (omega arith) (omega arith)
          ∙ sym c.right_side-in-loop-i.ensures.right in
          sym differ ∙ (pointwise_decides same_syllable-Decides left right).1 equal,
    )

pub loop-i-preserved : goal.loop-i-preserved
loop-i-preserved c =
    let p = c.args.p.now in
    let q = c.args.q.now in
    let left = c.right_side.result.now in
    let right = c.right_side-in-loop-i.result.now in
    let equal : left ≡ right =
    (pointwise_decides same_syllable-Decides left right).0
    (not_false (pointwise same_syllable left right) c.if-ne.ensures) in
    below_more (λ m. 1 ≤ m → right_of p m c.args.j ≡ right_of q m c.args.j) c.loop-i.i c.loop-i.invariant
    (λ _. sym c.right_side.ensures.right ∙ equal ∙ c.right_side-in-loop-i.ensures.right)
