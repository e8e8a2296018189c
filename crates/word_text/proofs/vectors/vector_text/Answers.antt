use Rattle.std.proofs.Common.{◌≡◌, pos, get_or, string_bytes, ◌∙◌, sym, ap, rules, ◌++◌}
use Rattle.std.specs.Fmt.{signed_decimal}
use Rattle.word_text.specs.Vectors.{space_before}
use Rattle.word_text.proofs.Joining.{entries-take}
use Rattle.word_text.proofs.vectors.vector_text.Goals as goal

pub loop-i-preserved : goal.loop-i-preserved
loop-i-preserved c =
    let entries = c.entries-entries.result.now in
    let own : string_bytes c.push_decimal.new.text ≡ string_bytes c.push_space.new.text ++ signed_decimal (get_or entries c.loop-i.i (pos 0)) = search rules in
    own ∙ ap (λ t. t ++ signed_decimal (get_or entries c.loop-i.i (pos 0))) (c.in_ok-push_space.ensures ∙ ap (λ t. t ++ space_before c.loop-i.i) c.loop-i.invariant)
    ∙ sym (entries-take entries c.loop-i.i c.loop-i-test.true)
