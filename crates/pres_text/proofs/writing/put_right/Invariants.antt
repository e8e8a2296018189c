use Rattle.std.proofs.Common.{◌≡◌, ◌++◌, string_bytes, drop, codes}
use Rattle.std.specs.List.{flat_map}
use Rattle.pres_text.specs.Text.{power_text}
use Rattle.pres_text.proofs.writing.put_right.Given as goal

abbrev pub invariant-powers : goal.invariant-powers
invariant-powers l =
    string_bytes l.text ++ flat_map (λ t. codes "*" ++ power_text l.pres.names t) (drop l.syllable-index l.rest)
    ≡ string_bytes l.initial.text ++ flat_map (λ t. codes "*" ++ power_text l.pres.names t) l.rest
