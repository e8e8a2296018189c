use Rattle.std.proofs.Common.{◌≡◌, ◌^◌, length, drop, replicate, pos}
use Rattle.nil_pres.specs.Relations.{relations_of}
use Rattle.left_collect.specs.Collected.{collected}
use Rattle.left_collect.specs.Pieces.{IsReady}
use Rattle.left_collect.proofs.collecting.collect.Given as goal

-- what is left to append gives what the whole word gives
abbrev pub invariant-loop-letter : goal.invariant-loop-letter
invariant-loop-letter l = record {
  ready : IsReady l.pres l.vector l.left;
  rest : collected (relations_of l.pres) (2 ^ 24) (replicate (length l.pres.names) (pos 0)) l.word
      ≡ collected (relations_of l.pres) l.left l.vector (drop l.letter-index l.word);
}
