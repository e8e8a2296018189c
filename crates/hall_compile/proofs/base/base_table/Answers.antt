use Rattle.std.proofs.Common.{◌≡◌, ap, ◌∙◌, [], ◌∷◌, ◌++◌}
use Rattle.sum_compiler.specs.Plan.{first_poly}
use Rattle.hall_compile.proofs.Bases.{base_shaped}
use Rattle.hall_compile.proofs.base.base_table.Goals as goal

pub unreachable-requires : goal.unreachable-requires
unreachable-requires c =
    let polys : c.push.new.self.items ≡ first_poly c.args.n ∷ [] =
    c.in_ok-push.ensures.items ∙ ap (λ ps. ps ++ c.in_ok-last_poly.field-0 ∷ [])
    c.new-polys.ensures.items ∙ ap (λ p. p ∷ []) c.in_ok-last_poly.ensures in
    base_shaped c.args.n c.in-Err-Shape.field-0-0 c.push.new.self.items polys
    (c.in-Err-Shape.ensures.unshaped c.in-Err-Shape.field-0-0 c.in-Err-Shape.field-0-is)
