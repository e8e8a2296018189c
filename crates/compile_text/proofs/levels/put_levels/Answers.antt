use Rattle.std.proofs.Common.{◌+◌, ◌++◌, get_or, drop, string_bytes, ap, sym, ◌∙◌, append_assoc, arith}
use Rattle.session_io.specs.Lines.{as_lines}
use Rattle.hall_compile.specs.declared.origin.Origin.TheVariants.{Base}
use Rattle.compile_text.specs.Lines.{level_lines, levels_lines}
use Rattle.compile_text.proofs.Growing.{levels_lines-next}
use Rattle.compile_text.proofs.levels.put_levels.Goals as goal

pub levels-preserved : goal.levels-preserved
levels-preserved c =
    let k = c.levels.origin-index in
    let asked = c.args.asked.now in
    let by = c.args.by.now in
    let own = as_lines (level_lines asked c.levels.level (get_or by k Base)) in
    let rest = as_lines (levels_lines asked (drop (k + 1) by)) in
    let done = c.levels.invariant in (
      ap (λ t. t ++ rest) c.in_ok-put_level.ensures
          ∙ append_assoc (string_bytes c.levels.text) own rest
          ∙ ap (λ t. string_bytes c.levels.text ++ t)
          (sym (levels_lines-next asked by k c.levels.level Base c.levels-test.true done.1))
          ∙ done.0,
      omega (arith, done.1, c.levels-test.true),
    )
