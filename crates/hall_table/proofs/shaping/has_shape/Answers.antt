use Rattle.std.proofs.Common.{◌∙◌, ap}
use Rattle.hall_table.specs.Shape.{has_shape}
use Rattle.hall_table.proofs.Shapes.{shape_tells}
use Rattle.hall_table.proofs.shaping.has_shape.Goals as goal

-- the test decides the shape
pub returns-clause-shape : goal.returns-clause-shape
returns-clause-shape c =
    shape_tells c.args.level c.args.k c.args.poly.now c.is_shaped.result
    (c.is_shaped.ensures ∙ ap (has_shape c.args.level c.args.k) c.terms-terms.ensures.terms)
