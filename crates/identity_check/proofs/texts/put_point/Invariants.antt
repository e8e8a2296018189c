use Rattle.std.proofs.Common.{◌≡◌, ◌++◌, string_bytes, drop}
use Rattle.identity_check.specs.Texts.{more_values}
use Rattle.identity_check.proofs.texts.put_point.Given as goal

abbrev pub invariant-loop-at : goal.invariant-loop-at
invariant-loop-at l =
    string_bytes l.text ++ more_values (drop l.at-index l.rest)
    ≡ string_bytes l.initial.text ++ more_values l.rest
