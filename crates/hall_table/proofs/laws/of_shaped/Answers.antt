use Rattle.hall_table.proofs.OfShape.{HasShape-points, HasShape-vectors}
use Rattle.hall_table.proofs.laws.of_shaped.Goals as goal

pub returns-clause-points : goal.returns-clause-points
returns-clause-points c = HasShape-points

pub returns-clause-vectors : goal.returns-clause-vectors
returns-clause-vectors c = HasShape-vectors
