use Rattle.std.proofs.Common.{rules, ◌≡◌, ◌+◌, ◌-◌, ℤ, pos, neg_ℤ, int_lt, unsigned_abs, not, List, [], ◌∷◌, get_or, drop, take, Some, None, to_z, of_z, ◌∙◌, ap, subst, arith}
use mir.Syntax.{w64, w128}
use mir.Val.{SFits}
use Rattle.std.proofs.lemmas.Int.{to_z-of_z}
use Rattle.nil_word.specs.declared.letter.Letter.{Letter}
use Rattle.nil_word.specs.Words.{up, inverse}
use Rattle.nil_word.specs.Exponents.{entry}
use Rattle.nil_word.specs.Expressions.{repeated, raised}
use Rattle.nil_pres.specs.declared.syllable.Syllable.{Syllable}
use Rattle.nil_pres.specs.Presented.{right_of}
use Rattle.nil_pres.specs.Relations.{relations_of}
use Rattle.left_collect.specs.Conjugates.{image, conjugated}
use Rattle.left_collect.specs.Collected.{collected}
use Rattle.left_collect.specs.Pieces.{piece, pieces, turned}
use Rattle.left_collect.proofs.Widened.{signed_letter, wide_exponent, turned_exponent, saved_is}
use Rattle.left_collect.proofs.Sides.{onward_stops, back_stops}
use Rattle.left_collect.proofs.Syllables.{conjugated-onward, conjugated-back, pieces-drop, pieces-take}
use Rattle.left_collect.proofs.Walking.{onward, image-onward}
use Rattle.left_collect.proofs.Steps.{goes_on, stops, taking_first, taking_more, taking_stops, last_ok, last_spent, on_err, entry_fits}
use Rattle.left_collect.proofs.rewriting.+rewriting.Goals as goal

-- the letter comes first, and then what the right side becomes
pub append_conjugate-returns-in_err-append_letter-clause-spent :
    goal.append_conjugate-returns-in_err-append_letter-clause-spent
append_conjugate-returns-in_err-append_letter-clause-spent t c =
    let p = c.args.pres.now in
    let a = c.args.past in
    let x : Letter = record { number = c.args.generator; up = c.args.up } in
    let w = turned a.up (pieces (relations_of p) a (right_of p a.number c.args.generator)) in
    let all = turned c.args.up (conjugated (relations_of p) a c.args.generator) in
    on_err c.from_residual.result
    (stops (relations_of p) c.args.left.now c.args.v.now all (x ∷ []) w
    (conjugated-onward p c.requires.ready.lawful a c.args.generator c.requires.least
    c.requires.below c.requires.most c.args.up c.if-up.true) c.in_err-append_letter.ensures.spent)

pub append_conjugate-returns-then-up-clause-ok : goal.append_conjugate-returns-then-up-clause-ok
append_conjugate-returns-then-up-clause-ok t c =
    let p = c.args.pres.now in
    let a = c.args.past in
    let x : Letter = record { number = c.args.generator; up = c.args.up } in
    let w = turned a.up (pieces (relations_of p) a (right_of p a.number c.args.generator)) in
    let all = turned c.args.up (conjugated (relations_of p) a c.args.generator) in
    last_ok (relations_of p) c.args.left.now c.args.v.now all (x ∷ []) w
    (conjugated-onward p c.requires.ready.lawful a c.args.generator c.requires.least
    c.requires.below c.requires.most c.args.up c.if-up.true) c.append_letter.new.v
    c.append_letter.new.left c.in_ok-append_letter.ensures.ok c.append_right.result
    c.append_right.new.v c.append_right.new.left c.append_right.ensures.ok

pub append_conjugate-returns-then-up-clause-spent :
    goal.append_conjugate-returns-then-up-clause-spent
append_conjugate-returns-then-up-clause-spent t c =
    let p = c.args.pres.now in
    let a = c.args.past in
    let x : Letter = record { number = c.args.generator; up = c.args.up } in
    let w = turned a.up (pieces (relations_of p) a (right_of p a.number c.args.generator)) in
    let all = turned c.args.up (conjugated (relations_of p) a c.args.generator) in
    last_spent (relations_of p) c.args.left.now c.args.v.now all (x ∷ []) w
    (conjugated-onward p c.requires.ready.lawful a c.args.generator c.requires.least
    c.requires.below c.requires.most c.args.up c.if-up.true) c.append_letter.new.v
    c.append_letter.new.left c.in_ok-append_letter.ensures.ok c.append_right.result
    c.append_right.ensures.spent

-- the other way round
pub append_conjugate-returns-in_err-append_right-clause-spent :
    goal.append_conjugate-returns-in_err-append_right-clause-spent
append_conjugate-returns-in_err-append_right-clause-spent t c =
    let p = c.args.pres.now in
    let a = c.args.past in
    let x : Letter = record { number = c.args.generator; up = c.args.up } in
    let w = turned (not a.up) (pieces (relations_of p) a (right_of p a.number c.args.generator)) in
    let all = turned c.args.up (conjugated (relations_of p) a c.args.generator) in
    on_err c.from_residual-in_err-append_right.result
    (stops (relations_of p) c.args.left.now c.args.v.now all w (x ∷ [])
    (conjugated-back p c.requires.ready.lawful a c.args.generator c.requires.least
    c.requires.below c.requires.most c.args.up c.if-up.false) c.in_err-append_right.ensures.spent)

pub append_conjugate-returns-clause-ok : goal.append_conjugate-returns-clause-ok
append_conjugate-returns-clause-ok t c =
    let p = c.args.pres.now in
    let a = c.args.past in
    let x : Letter = record { number = c.args.generator; up = c.args.up } in
    let w = turned (not a.up) (pieces (relations_of p) a (right_of p a.number c.args.generator)) in
    let all = turned c.args.up (conjugated (relations_of p) a c.args.generator) in
    last_ok (relations_of p) c.args.left.now c.args.v.now all w (x ∷ [])
    (conjugated-back p c.requires.ready.lawful a c.args.generator c.requires.least
    c.requires.below c.requires.most c.args.up c.if-up.false) c.append_right-2.new.v
    c.append_right-2.new.left c.in_ok-append_right.ensures.ok c.append_letter-2.result
    c.append_letter-2.new.v c.append_letter-2.new.left c.append_letter-2.ensures.ok

pub append_conjugate-returns-clause-spent : goal.append_conjugate-returns-clause-spent
append_conjugate-returns-clause-spent t c =
    let p = c.args.pres.now in
    let a = c.args.past in
    let x : Letter = record { number = c.args.generator; up = c.args.up } in
    let w = turned (not a.up) (pieces (relations_of p) a (right_of p a.number c.args.generator)) in
    let all = turned c.args.up (conjugated (relations_of p) a c.args.generator) in
    last_spent (relations_of p) c.args.left.now c.args.v.now all w (x ∷ [])
    (conjugated-back p c.requires.ready.lawful a c.args.generator c.requires.least
    c.requires.below c.requires.most c.args.up c.if-up.false) c.append_right-2.new.v
    c.append_right-2.new.left c.in_ok-append_right.ensures.ok c.append_letter-2.result
    c.append_letter-2.ensures.spent

-- a word is taken once more
pub append_conjugates-taking-init : goal.append_conjugates-taking-init
append_conjugates-taking-init t c = record {
  ready = c.requires.ready;
  rest = taking_first (relations_of c.args.pres.now) c.args.left.now c.args.v.now
      (conjugated (relations_of c.args.pres.now) c.args.past c.args.generator)
      (to_z w128 (of_z w128 c.args.exponent));
}

pub append_conjugates-taking-preserved : goal.append_conjugates-taking-preserved
append_conjugates-taking-preserved t c =
    let rels = relations_of c.args.pres.now in
    let z = to_z w128 (of_z w128 c.args.exponent) in
    let word = conjugated rels c.args.past c.args.generator in
    record {
      ready = c.in_ok-append_conjugate.ensures.ready;
      rest = taking_more rels c.taking.left c.taking.v (turned (int_lt (pos 0) z) word)
          (unsigned_abs z) c.taking._i
          (omega (arith, c.taking-test.true, c.unsigned_abs-i-end.ensures.value))
          (collected rels c.args.left.now c.args.v.now (raised word z)) c.taking.invariant.rest
          c.append_conjugate.new.v c.append_conjugate.new.left
          c.in_ok-append_conjugate.ensures.ok;
    }

pub append_conjugates-returns-in_err-append_conjugate-clause-spent :
    goal.append_conjugates-returns-in_err-append_conjugate-clause-spent
append_conjugates-returns-in_err-append_conjugate-clause-spent t c =
    let rels = relations_of c.args.pres.now in
    let z = to_z w128 (of_z w128 c.args.exponent) in
    let word = conjugated rels c.args.past c.args.generator in
    let stop : collected rels c.args.left.now c.args.v.now (raised word z) ≡ None =
    taking_stops rels c.taking.left c.taking.v (turned (int_lt (pos 0) z) word) (unsigned_abs z)
    c.taking._i (omega (arith, c.taking-test.true, c.unsigned_abs-i-end.ensures.value))
    (collected rels c.args.left.now c.args.v.now (raised word z)) c.taking.invariant.rest
    c.in_err-append_conjugate.ensures.spent in
    on_err c.from_residual.result
    (subst (λ (e : ℤ). collected rels c.args.left.now c.args.v.now (raised word e) ≡ None)
    (to_z-of_z w128 c.args.exponent c.ranges.exponent) stop)

pub append_power-taking-init : goal.append_power-taking-init
append_power-taking-init t c =
    let rels = relations_of c.args.pres.now in
    let z = to_z w128 (of_z w128 c.args.exponent) in
    record {
      ready = c.requires.ready;
      rest = taking_first rels c.args.left.now c.args.v.now (up c.args.generator ∷ []) z
          ∙ ap (λ (w : List Letter). collected rels c.args.left.now c.args.v.now
          (repeated (unsigned_abs z - 0) w)) (signed_letter c.args.generator (int_lt (pos 0) z));
    }

pub append_power-taking-preserved : goal.append_power-taking-preserved
append_power-taking-preserved t c =
    let rels = relations_of c.args.pres.now in
    let z = to_z w128 (of_z w128 c.args.exponent) in
    let x : Letter = record { number = c.args.generator; up = int_lt (pos 0) z } in
    record {
      ready = c.in_ok-append_letter.ensures.ready;
      rest = taking_more rels c.taking.left c.taking.v (x ∷ []) (unsigned_abs z) c.taking._i
          (omega (arith, c.taking-test.true, c.unsigned_abs-i-end.ensures.value))
          (collected rels c.args.left.now c.args.v.now (raised (up c.args.generator ∷ []) z))
          c.taking.invariant.rest c.append_letter.new.v c.append_letter.new.left
          c.in_ok-append_letter.ensures.ok;
    }

pub append_power-returns-in_err-append_letter-clause-spent :
    goal.append_power-returns-in_err-append_letter-clause-spent
append_power-returns-in_err-append_letter-clause-spent t c =
    let rels = relations_of c.args.pres.now in
    let z = to_z w128 (of_z w128 c.args.exponent) in
    let x : Letter = record { number = c.args.generator; up = int_lt (pos 0) z } in
    let word = up c.args.generator ∷ [] in
    let stop : collected rels c.args.left.now c.args.v.now (raised word z) ≡ None =
    taking_stops rels c.taking.left c.taking.v (x ∷ []) (unsigned_abs z) c.taking._i
    (omega (arith, c.taking-test.true, c.unsigned_abs-i-end.ensures.value))
    (collected rels c.args.left.now c.args.v.now (raised word z)) c.taking.invariant.rest
    c.in_err-append_letter.ensures.spent in
    on_err c.from_residual.result
    (subst (λ (e : ℤ). collected rels c.args.left.now c.args.v.now (raised word e) ≡ None)
    (to_z-of_z w128 c.args.exponent c.ranges.exponent) stop)

none : Syllable
none = record { number = 0; exp = pos 0 }

-- a syllable of a right side
pub append_right-onward-preserved : goal.append_right-onward-preserved
unfolding none
append_right-onward-preserved t c =
    let rels = relations_of c.args.pres.now in
    let a = c.args.past in
    let ss = c.right_side-right.result.now in
    let i = c.onward.syllable-index in
    let s = get_or ss i none in
    let f : SFits w64 s.exp = search rules in
    let ok = subst (λ (e : ℤ). collected rels c.onward.left c.onward.v
    (raised (piece rels a s.number) e) ≡ Some (c.append_pieces.new.v, c.append_pieces.new.left))
    (wide_exponent s.exp f) c.in_ok-append_pieces.ensures.ok in
    record {
      ready = c.in_ok-append_pieces.ensures.ready;
      rest = c.onward.invariant.rest
          ∙ goes_on rels c.onward.left c.onward.v (pieces rels a (drop i ss))
          (raised (piece rels a s.number) s.exp) (pieces rels a (drop (i + 1) ss))
          (pieces-drop rels a ss i none c.onward-test.true) c.append_pieces.new.v
          c.append_pieces.new.left ok;
    }

pub append_right-returns-in_err-append_pieces-clause-spent :
    goal.append_right-returns-in_err-append_pieces-clause-spent
unfolding none
append_right-returns-in_err-append_pieces-clause-spent t c =
    let rels = relations_of c.args.pres.now in
    let a = c.args.past in
    let ss = c.right_side-right.result.now in
    let i = c.onward.syllable-index in
    let s = get_or ss i none in
    let f : SFits w64 s.exp = search rules in
    let spent = subst (λ (e : ℤ). collected rels c.onward.left c.onward.v
    (raised (piece rels a s.number) e) ≡ None) (wide_exponent s.exp f)
    c.in_err-append_pieces.ensures.spent in
    on_err c.from_residual.result
    (onward_stops rels c.args.left.now c.args.v.now a ss
    (right_of c.args.pres.now a.number c.args.generator) c.right_side-right.ensures.right
    c.args.forward c.if-forward.true
    (c.onward.invariant.rest
    ∙ stops rels c.onward.left c.onward.v (pieces rels a (drop i ss))
    (raised (piece rels a s.number) s.exp) (pieces rels a (drop (i + 1) ss))
    (pieces-drop rels a ss i none c.onward-test.true) spent))

pub append_right-back-preserved : goal.append_right-back-preserved
unfolding none
append_right-back-preserved t c =
    let rels = relations_of c.args.pres.now in
    let a = c.args.past in
    let ss = c.right_side-right.result.now in
    let i = c.back.i in
    let s = get_or ss (i - 1) none in
    let f : SFits w64 s.exp = search rules in
    let ok = subst (λ (e : ℤ). collected rels c.back.left c.back.v
    (raised (piece rels a s.number) e)
    ≡ Some (c.append_pieces-in-back.new.v, c.append_pieces-in-back.new.left))
    (turned_exponent s.exp f) c.in_ok-append_pieces-2.ensures.ok in
    record {
      ready = c.in_ok-append_pieces-2.ensures.ready;
      rest = c.back.invariant.rest
          ∙ goes_on rels c.back.left c.back.v (inverse (pieces rels a (take i ss)))
          (raised (piece rels a s.number) (neg_ℤ s.exp))
          (inverse (pieces rels a (take (i - 1) ss)))
          (pieces-take rels a ss i none (omega (arith, c.back-test.true))
          (omega (arith, c.back.auto.i))) c.append_pieces-in-back.new.v
          c.append_pieces-in-back.new.left ok;
    }

pub append_right-returns-in_err-append_pieces-2-clause-spent :
    goal.append_right-returns-in_err-append_pieces-2-clause-spent
unfolding none
append_right-returns-in_err-append_pieces-2-clause-spent t c =
    let rels = relations_of c.args.pres.now in
    let a = c.args.past in
    let ss = c.right_side-right.result.now in
    let i = c.back.i in
    let s = get_or ss (i - 1) none in
    let f : SFits w64 s.exp = search rules in
    let spent = subst (λ (e : ℤ). collected rels c.back.left c.back.v
    (raised (piece rels a s.number) e) ≡ None) (turned_exponent s.exp f)
    c.in_err-append_pieces-2.ensures.spent in
    on_err c.from_residual-in_err-append_pieces-2.result
    (back_stops rels c.args.left.now c.args.v.now a ss
    (right_of c.args.pres.now a.number c.args.generator) c.right_side-right.ensures.right
    c.args.forward c.if-forward.false
    (c.back.invariant.rest
    ∙ stops rels c.back.left c.back.v (inverse (pieces rels a (take i ss)))
    (raised (piece rels a s.number) (neg_ℤ s.exp)) (inverse (pieces rels a (take (i - 1) ss)))
    (pieces-take rels a ss i none (omega (arith, c.back-test.true))
    (omega (arith, c.back.auto.i))) spent))

-- the letters of one generator behind
pub go_past-loop-k-preserved : goal.go_past-loop-k-preserved
go_past-loop-k-preserved t c =
    let p = c.args.pres.now in
    let rels = relations_of p in
    let v = c.args.v.now in
    let k = c.loop-k.k in
    let f = conjugated rels c.args.letter in
    let low = c.loop-k.auto.k in
    let test = c.loop-k-test.true in
    let count = c.count-count.ensures.count in
    let size = c.requires.ready.entries in
    let is = saved_is (get_or c.entries_of-saved.result (k - 1) (pos 0)) (entry v k)
    (c.entries_of-saved.ensures (k - 1) (omega (arith, low, test, count, size)))
    (entry_fits p v (c.args.left.now + 1) k c.requires.ready (omega (arith, low))
    (omega (arith, test, count))) in
    let ok = subst (λ (e : ℤ). collected rels c.loop-k.left c.loop-k.v (raised (f k) e)
    ≡ Some (c.append_conjugates.new.v, c.append_conjugates.new.left)) is
    c.in_ok-append_conjugates.ensures.ok in
    record {
      ready = c.in_ok-append_conjugates.ensures.ready;
      rest = c.loop-k.invariant.rest
          ∙ goes_on rels c.loop-k.left c.loop-k.v (image f (onward v k))
          (raised (f k) (entry v k)) (image f (onward v (k + 1)))
          (image-onward f v k (omega (arith, low)) (omega (arith, test, count, size)))
          c.append_conjugates.new.v c.append_conjugates.new.left ok;
    }

pub go_past-returns-in_err-append_conjugates-clause-spent :
    goal.go_past-returns-in_err-append_conjugates-clause-spent
go_past-returns-in_err-append_conjugates-clause-spent t c =
    let p = c.args.pres.now in
    let rels = relations_of p in
    let v = c.args.v.now in
    let k = c.loop-k.k in
    let f = conjugated rels c.args.letter in
    let low = c.loop-k.auto.k in
    let test = c.loop-k-test.true in
    let count = c.count-count.ensures.count in
    let size = c.requires.ready.entries in
    let is = saved_is (get_or c.entries_of-saved.result (k - 1) (pos 0)) (entry v k)
    (c.entries_of-saved.ensures (k - 1) (omega (arith, low, test, count, size)))
    (entry_fits p v (c.args.left.now + 1) k c.requires.ready (omega (arith, low))
    (omega (arith, test, count))) in
    let spent = subst (λ (e : ℤ). collected rels c.loop-k.left c.loop-k.v (raised (f k) e) ≡ None)
    is c.in_err-append_conjugates.ensures.spent in
    on_err c.from_residual.result
    (c.loop-k.invariant.rest
    ∙ stops rels c.loop-k.left c.loop-k.v (image f (onward v k)) (raised (f k) (entry v k))
    (image f (onward v (k + 1)))
    (image-onward f v k (omega (arith, low)) (omega (arith, test, count, size))) spent)
