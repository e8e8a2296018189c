use Rattle.std.proofs.Common.{List, ℕ, ◌+◌, ◌++◌, string_bytes, ap, sym, ◌∙◌, append_assoc}
use Rattle.nil_pres.specs.Presented.{right_of}
use Rattle.pres_text.specs.Text.{line_text, pairs_text}
use Rattle.pres_text.proofs.Written.{pairs_text-next}
use Rattle.pres_text.proofs.writing.put_pairs.Goals as goal

pub pairs-preserved : goal.pairs-preserved
pairs-preserved c =
    let next : List ℕ = line_text c.args.pres.now.names c.args.j (c.pairs.i + 1) (right_of c.args.pres.now (c.pairs.i + 1) c.args.j) in
    c.in_ok-put_line.ensures
    ∙ ap (λ t. t ++ next) c.pairs.invariant
    ∙ append_assoc (string_bytes c.args.text.now) (pairs_text c.args.pres.now c.args.j c.pairs.i) next
    ∙ ap (λ t. string_bytes c.args.text.now ++ t) (sym (pairs_text-next c.args.pres.now c.args.j c.pairs.i))
