use Rattle.std.proofs.Common.{◌≡◌, ◌≤◌, []}
use Rattle.session_io.proofs.ReadSoFar.{HasRead}
use Rattle.session_io.proofs.pieces.answer_pieces.Given as goal

abbrev pub invariant-reading : goal.invariant-reading
invariant-reading g l = record {
  read : HasRead (g.T.Replier.reply l.initial.replier)
      (λ lines. g.T.Replier.recalls l.initial.replier [] → g.T.Replier.recalls l.replier lines)
      l.initial.limit l.room
      (g.S.Source.left l.initial.queries) (g.S.Source.left l.queries)
      (g.S.Source.given l.initial.queries) (g.S.Source.given l.queries) l.line
      (g.K.Sink.written l.initial.out) (g.K.Sink.written l.out);
  source : g.S.Source.faults l.initial.queries ≤ g.S.Source.faults l.queries;
  later : g.K.Sink.faults l.initial.out ≤ g.K.Sink.faults l.out;
  same : g.T.Replier.reply l.replier ≡ g.T.Replier.reply l.initial.replier;
}

abbrev pub decreases-reading : goal.decreases-reading
decreases-reading g l = l.room
