use Rattle.std.proofs.Common.{◌≡◌, ℕ, ◌≤◌, ◌<◌, ◌-◌, ℤ, pos, length, eqb, Bool, true, false, List, to_z, of_z, sym, ◌∙◌, ap, inl, inr, arith}
use mir.Syntax.{w128}
use mir.Val.{SFits}
use Rattle.std.proofs.lemmas.Int.{to_z-of_z, fits_signed_from_abs}
use Rattle.std.proofs.lemmas.Option.{get_or_from_slice_get}
use Rattle.nil_pres.specs.declared.syllable.Syllable.{Syllable}
use Rattle.nil_pres.specs.Presented.{Presented, IsPresented, right_of}
use Rattle.nil_pres.specs.Relations.{relations_of}
use Rattle.left_collect.specs.Conjugates.{is_empty}
use Rattle.left_collect.proofs.Syllables.{is_empty-right}
use Rattle.left_collect.proofs.Walking.{commutes_more, commutes_stops}
use Rattle.left_collect.proofs.entries.is_free.Goals as goal
use Rattle.left_collect.proofs.entries.is_free.Goals.{else-at-ne0-via-then-at-ne0+else-not-is_empty, else-at-ne0-via-else-at-ne0}

-- what the test of a right side tells
tells : (p : Presented) → IsPresented p → (g k : ℕ) → 1 ≤ g → g < k → k ≤ length p.names
    → (right : List Syllable) → right ≡ right_of p g k → (t : Bool) → eqb (length right) 0 ≡ t
    → is_empty ((relations_of p).right g k) ≡ t
tells p h g k a b d right e t test =
    is_empty-right p h g k a b d ∙ (ap (λ (ss : List Syllable). eqb (length ss) 0) (sym e) ∙ test)

is_zero : (e : ℤ) → SFits w128 e → of_z w128 e ≡ 0 → e ≡ pos 0
is_zero e h z = sym (to_z-of_z w128 e h) ∙ ap (to_z w128) z

-- a letter behind it that doesn't commute
pub returns-then-not-is_empty : goal.returns-then-not-is_empty
returns-then-not-is_empty c =
    let at = get_or_from_slice_get c.args.v.now (c.loop-k.k - 1) c.at.result (pos 0)
    c.at.ensures.entry in
    let low = c.loop-k.auto.k in
    let test = c.loop-k-test.true in
    let count = c.count-count.ensures.count in
    let size = c.requires.entries in
    sym (c.loop-k.invariant
    ∙ commutes_stops (relations_of c.args.pres.now) c.args.generator c.loop-k.k c.args.v.now
    (omega (arith, low)) (omega (arith, test, count, size))
    (λ z. c.if-at-ne0.true (ap (of_z w128) (sym at ∙ z)))
    (tells c.args.pres.now c.count-count.ensures.lawful c.args.generator c.loop-k.k
    c.requires.least (omega (arith, low)) (omega (arith, test, count)) c.right_side.result.now
    c.right_side.ensures.right false (sym c.is_empty.ensures ∙ c.if-not-is_empty.true)))

pub loop-k-preserved : goal.loop-k-preserved
loop-k-preserved c =
    let at = get_or_from_slice_get c.args.v.now (c.loop-k.k - 1) c.at.result (pos 0)
    c.at.ensures.entry in
    let low = c.loop-k.auto.k in
    let test = c.loop-k-test.true in
    let count = c.count-count.ensures.count in
    let size = c.requires.entries in
    c.loop-k.invariant
    ∙ commutes_more (relations_of c.args.pres.now) c.args.generator c.loop-k.k c.args.v.now
    (omega (arith, low)) (omega (arith, test, count, size))
    (elim c.else-at-ne0.branch [
      | else-at-ne0-via-then-at-ne0+else-not-is_empty w ↦
          inr (tells c.args.pres.now c.count-count.ensures.lawful c.args.generator c.loop-k.k
          c.requires.least (omega (arith, low)) (omega (arith, test, count))
          w.right_side.result.now w.right_side.ensures.right true
          (sym w.is_empty.ensures ∙ w.if-not-is_empty.false))
      | else-at-ne0-via-else-at-ne0 w ↦
          inl (at ∙ is_zero c.at.result (fits_signed_from_abs w128 c.at.result c.at.ensures.number)
          w.if-at-ne0.false)
    ])
