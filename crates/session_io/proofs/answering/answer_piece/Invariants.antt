use Rattle.std.proofs.Common.{◌≡◌, ℕ, ◌≤◌, List, ◌++◌, length}
use Rattle.session_io.specs.Holding.{IsHeld}
use Rattle.session_io.proofs.PieceByPiece.{IsWithin}
use Rattle.session_io.proofs.answering.answer_piece.Given as goal

abbrev pub invariant-answering : goal.invariant-answering
invariant-answering g l = record {
  within : (begun : List ℕ) → IsHeld begun l.initial.line
      → IsWithin (g.T.Replier.reply l.initial.replier)
      (λ done. (lines : List (List ℕ)) → g.T.Replier.recalls l.initial.replier lines
      → g.T.Replier.recalls l.replier (lines ++ done)) (begun ++ l.piece) l.rest l.line
      (g.K.Sink.written l.initial.out) (g.K.Sink.written l.out);
  later : g.K.Sink.faults l.initial.out ≤ g.K.Sink.faults l.out;
  same : g.T.Replier.reply l.replier ≡ g.T.Replier.reply l.initial.replier;
}

abbrev pub decreases-answering : goal.decreases-answering
decreases-answering g l = length l.rest
