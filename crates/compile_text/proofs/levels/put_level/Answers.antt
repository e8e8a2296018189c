use Rattle.std.proofs.Common.{[], ◌∷◌, ◌++◌, string_bytes, ap, sym, ◌∙◌, append_assoc}
use Rattle.std.proofs.lemmas.List.{append-nil}
use Rattle.std.proofs.lemmas.Result.{on_ok_weaker}
use Rattle.session_io.specs.Lines.{as_line, as_lines}
use Rattle.compile_text.specs.Lines.{asked_lines, origin_line}
use Rattle.compile_text.proofs.Growing.{as_lines-append}
use Rattle.compile_text.proofs.levels.put_level.Goals as goal

pub returns : goal.returns
returns c =
    let asked = asked_lines c.args.level c.args.asked.now in
    let own = origin_line c.args.level c.args.origin in
    let old = string_bytes c.args.text.now in
    on_ok_weaker c.put_origin_line.result
    (λ h. h ∙ ap (λ t. t ++ as_line own) c.in_ok-put_all_asked.ensures
    ∙ append_assoc old (as_lines asked) (as_line own)
    ∙ ap (λ t. old ++ (as_lines asked ++ t)) (sym (append-nil (as_line own)))
    ∙ ap (λ t. old ++ t) (sym (as_lines-append asked (own ∷ []))))
    c.put_origin_line.ensures
