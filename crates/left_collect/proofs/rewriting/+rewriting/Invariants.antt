use Rattle.std.proofs.Common.{◌≡◌, ◌+◌, ◌-◌, ◌*◌, [], ◌∷◌, length, take, drop, int_lt, unsigned_abs, pos}
use Rattle.nil_word.specs.Words.{up, inverse}
use Rattle.nil_word.specs.Expressions.{repeated, raised}
use Rattle.nil_pres.specs.Relations.{relations_of}
use Rattle.left_collect.specs.Conjugates.{image, conjugated}
use Rattle.left_collect.specs.Collected.{behind, cut, collected}
use Rattle.left_collect.specs.Pieces.{pieces, turned, IsReady}
use Rattle.left_collect.proofs.Walking.{onward}
use Rattle.left_collect.proofs.rewriting.+rewriting.Given as goal

-- each call is of a later generator, or of the same one and further down this list
abbrev pub decreases-append_pieces : goal.decreases-append_pieces
decreases-append_pieces l = 8 * (length l.pres.now.names - l.generator) + 5

abbrev pub decreases-append_conjugates : goal.decreases-append_conjugates
decreases-append_conjugates l = 8 * (length l.pres.now.names - l.generator) + 4

abbrev pub decreases-append_conjugate : goal.decreases-append_conjugate
decreases-append_conjugate l = 8 * (length l.pres.now.names - l.generator) + 3

abbrev pub decreases-append_right : goal.decreases-append_right
decreases-append_right l = 8 * (length l.pres.now.names - l.generator) + 2

abbrev pub decreases-append_power : goal.decreases-append_power
decreases-append_power l = 8 * (length l.pres.now.names - l.generator) + 2

abbrev pub decreases-append_letter : goal.decreases-append_letter
decreases-append_letter l = 8 * (length l.pres.now.names - l.letter.number) + 1

abbrev pub decreases-go_past : goal.decreases-go_past
decreases-go_past l = 8 * (length l.pres.now.names - l.letter.number)

-- what is left to append gives what the whole word gives
abbrev pub invariant-append_conjugates-taking : goal.invariant-append_conjugates-taking
invariant-append_conjugates-taking l = record {
  ready : IsReady l.pres l.v l.left;
  rest : collected (relations_of l.pres) l.initial.left l.initial.v
      (raised (conjugated (relations_of l.pres) l.past l.generator) l.exponent)
      ≡ collected (relations_of l.pres) l.left l.v (repeated (unsigned_abs l.exponent - l._i)
      (turned (int_lt (pos 0) l.exponent)
      (conjugated (relations_of l.pres) l.past l.generator)));
}

abbrev pub invariant-append_power-taking : goal.invariant-append_power-taking
invariant-append_power-taking l = record {
  ready : IsReady l.pres l.v l.left;
  rest : collected (relations_of l.pres) l.initial.left l.initial.v
      (raised (up l.generator ∷ []) l.exponent)
      ≡ collected (relations_of l.pres) l.left l.v (repeated (unsigned_abs l.exponent - l._i)
      (l.letter ∷ []));
}

abbrev pub invariant-append_right-onward : goal.invariant-append_right-onward
invariant-append_right-onward l = record {
  ready : IsReady l.pres l.v l.left;
  rest : collected (relations_of l.pres) l.initial.left l.initial.v
      (pieces (relations_of l.pres) l.past l.right)
      ≡ collected (relations_of l.pres) l.left l.v
      (pieces (relations_of l.pres) l.past (drop l.syllable-index l.right));
}

abbrev pub invariant-append_right-back : goal.invariant-append_right-back
invariant-append_right-back l = record {
  ready : IsReady l.pres l.v l.left;
  rest : collected (relations_of l.pres) l.initial.left l.initial.v
      (inverse (pieces (relations_of l.pres) l.past l.right))
      ≡ collected (relations_of l.pres) l.left l.v
      (inverse (pieces (relations_of l.pres) l.past (take l.i l.right)));
}

abbrev pub invariant-go_past-loop-k : goal.invariant-go_past-loop-k
invariant-go_past-loop-k l = record {
  ready : IsReady l.pres l.v l.left;
  rest : collected (relations_of l.pres) l.fn.left (cut l.fn.v l.letter)
      (image (conjugated (relations_of l.pres) l.letter) (behind l.fn.v l.letter.number))
      ≡ collected (relations_of l.pres) l.left l.v
      (image (conjugated (relations_of l.pres) l.letter) (onward l.fn.v l.k));
}
