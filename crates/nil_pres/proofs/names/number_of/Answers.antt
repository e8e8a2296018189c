use Rattle.std.proofs.Common.{◌+◌, option_map, sym, ◌∙◌, ap, string_bytes}
use Rattle.std.specs.Str.{bytes_eq}
use Rattle.nil_pres.proofs.Reading.{position-map}
use Rattle.nil_pres.proofs.names.number_of.Goals as goal

pub returns-in-Some : goal.returns-in-Some
returns-in-Some c =
    ap (option_map (λ i. i + 1)) (c.in-Some.ensures.index ∙ sym (position-map (bytes_eq c.args.name.now) string_bytes c.args.names.now.keys))

pub returns-in-None : goal.returns-in-None
returns-in-None c =
    ap (option_map (λ i. i + 1)) (c.in-None.ensures.index ∙ sym (position-map (bytes_eq c.args.name.now) string_bytes c.args.names.now.keys))
