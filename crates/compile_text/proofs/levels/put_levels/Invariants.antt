use Rattle.std.proofs.Common.{◌≡◌, ◌+◌, ◌++◌, length, string_bytes, drop}
use Rattle.session_io.specs.Lines.{as_lines}
use Rattle.compile_text.specs.Lines.{levels_lines}
use Rattle.compile_text.proofs.levels.put_levels.Given as goal

abbrev pub invariant-levels : goal.invariant-levels
invariant-levels l =
    (string_bytes l.text ++ as_lines (levels_lines l.asked (drop l.origin-index l.by))
    ≡ string_bytes l.initial.text ++ as_lines (levels_lines l.asked l.by))
    × (l.level + l.origin-index ≡ length l.by)
