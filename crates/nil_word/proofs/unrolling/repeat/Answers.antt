use Rattle.std.proofs.Common.{◌∙◌, sym, ap, ◌++◌, add-one}
use Rattle.nil_word.specs.Expressions.{repeated}
use Rattle.nil_word.proofs.Expanding.{repeated-none, repeated-append}
use Rattle.nil_word.proofs.unrolling.repeat.Goals as goal

-- the empty word stays empty
pub returns-then-is_empty : goal.returns-then-is_empty
returns-then-is_empty c =
    c.new-word.ensures ∙ sym (repeated-none c.args.times c.letters.result.now (sym c.is_empty.ensures ∙ c.if-is_empty.true)) ∙ ap (repeated c.args.times) c.letters.ensures

pub repeating-preserved : goal.repeating-preserved
repeating-preserved c =
    c.in_ok-append.ensures ∙ ap (λ w. w ++ c.args.base.now) c.repeating.invariant ∙ repeated-append c.repeating._i c.args.base.now ∙ ap (λ n. repeated n c.args.base.now) (sym (add-one c.repeating._i))
