-- What an open bracket waits for.
--   in_round f    the level around a round bracket, or none
--   in_square f   the level around a square bracket that waits for its `,`, or none
--   in_second f   the level around a square bracket behind its `,`, and the expression before the
--                 `,`, or none
use Rattle.std.specs.Prelude.{Option, Some, None}
use Rattle.nil_word.specs.declared.expr.Expr.{Expr}
use Rattle.word_text.specs.declared.level.Level.{Level}
use Rattle.word_text.specs.declared.frame.Frame.{Frame}
use Rattle.word_text.specs.declared.bracket.Bracket.TheVariants.{Round, Square, Second}

abbrev pub in_round : Frame → Option Level
in_round f = elim f.bracket [ Round ↦ Some f.level | _ ↦ None ]

abbrev pub in_square : Frame → Option Level
in_square f = elim f.bracket [ Square ↦ Some f.level | _ ↦ None ]

abbrev pub in_second : Frame → Option (Level × Expr)
in_second f = elim f.bracket [ Second u ↦ Some (f.level, u) | _ ↦ None ]
