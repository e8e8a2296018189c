use Rattle.std.proofs.Common.{inr, refl}
use Rattle.table_json.proofs.polynomials.shaped.Goals as goal

pub returns-in-Err-Shape-clause-refused : goal.returns-in-Err-Shape-clause-refused
returns-in-Err-Shape-clause-refused c =
    inr (
      c.in-Err-Shape.k,
      refl,
      c.in-Err-Shape.ensures.unshaped c.in-Err-Shape.k
          c.in-Err-Shape.field-0-is,
    )
