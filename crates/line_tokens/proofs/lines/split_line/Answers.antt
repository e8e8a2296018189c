use Rattle.std.proofs.Common.{◌≡◌, ℕ, ◌+◌, ◌-◌, List, ◌∷◌, length, take, drop, take_all, length-drop, ◌∙◌, ap, sym, arith}
use Rattle.line_tokens.specs.Lines.{is_line_feed, lines_of}
use Rattle.line_tokens.proofs.Pieces.{slice_split-position, slice_split-none}
use Rattle.line_tokens.proofs.lines.split_line.Goals as goal

pub returns-in-Some-clause-cut : goal.returns-in-Some-clause-cut
returns-in-Some-clause-cut c =
    let xs = c.args.bytes.now in
    let n = c.in-Some.at + 1 in
    let whole : take (length xs - n) (drop n xs) ≡ drop n xs =
    take_all (length xs - n) (drop n xs) (omega (arith, length-drop n xs)) in
    slice_split-position is_line_feed xs c.in-Some.at (sym c.in-Some.ensures.place)
    ∙ ap (λ (ys : List ℕ). take c.in-Some.at xs ∷ lines_of ys) (sym whole)

pub returns-in-None-clause-cut : goal.returns-in-None-clause-cut
returns-in-None-clause-cut c =
    slice_split-none is_line_feed c.args.bytes.now (sym c.in-None.ensures.place)
