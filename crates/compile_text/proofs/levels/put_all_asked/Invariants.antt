use Rattle.std.proofs.Common.{◌≡◌, ◌++◌, string_bytes, drop}
use Rattle.session_io.specs.Lines.{as_lines}
use Rattle.compile_text.specs.Lines.{asked_lines}
use Rattle.compile_text.proofs.levels.put_all_asked.Given as goal

abbrev pub invariant-asked : goal.invariant-asked
invariant-asked l =
    string_bytes l.text ++ as_lines (asked_lines l.level (drop l.one-index l.asked))
    ≡ string_bytes l.initial.text ++ as_lines (asked_lines l.level l.asked)
