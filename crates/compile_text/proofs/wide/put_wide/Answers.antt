use Rattle.std.proofs.Common.{ℕ, List, ap, ◌∙◌, ◌++◌, codes, string_bytes, append_assoc}
use Rattle.std.proofs.lemmas.Result.{on_ok_weaker}
use Rattle.compile_text.specs.Lines.{three_names}
use Rattle.compile_text.proofs.wide.put_wide.Goals as goal

pub returns-in_ok-push_str-in-Overlap : goal.returns-in_ok-push_str-in-Overlap
returns-in_ok-push_str-in-Overlap c =
    let names : List ℕ =
    three_names c.args.pres.now.names c.in-Overlap.k c.in-Overlap.j c.in-Overlap.i in
    rw c.in-Overlap.is (on_ok_weaker c.put_names.result
    (λ h. h ∙ ap (λ t. t ++ names) c.in_ok-push_str-in-Overlap.ensures.bytes
    ∙ append_assoc (string_bytes c.args.text.now) (codes "wide overlap ") names)
    c.put_names.ensures)
