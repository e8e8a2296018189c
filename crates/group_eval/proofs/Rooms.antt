-- The room of a workspace fits its table.
--   s what is seen of a workspace · c a presentation with its table · z the vector of zeros
use Rattle.std.proofs.Common.{◌≡◌, List, length, ℤ, sym, ap, ◌∙◌}
use Rattle.binom_poly.specs.Reading.{Reading}
use Rattle.hall_law.specs.Table.{zeros}
use Rattle.hall_table.specs.Multiplies.{Paired, IsChecked}
use Rattle.hall_table.specs.Tabled.{last_of}
use Rattle.group_eval.specs.Space.{Space, IsSpaceOf}

pub length-zero : {s : Space} {c : Paired} (z : List ℤ) (rows : List Reading) → IsSpaceOf s c
    → IsChecked c → record { count = length z; rows = rows } ≡ s → length z ≡ last_of c.table
length-zero {s} {c} z rows h i e =
    ap (λ (r : Space). r.count) e ∙ h.count ∙ sym i.last

pub zero_is : {s : Space} {c : Paired} (z : List ℤ) (rows : List Reading) → IsSpaceOf s c
    → IsChecked c → record { count = length z; rows = rows } ≡ s → z ≡ zeros (length z)
    → z ≡ zeros (last_of c.table)
zero_is z rows h i e f = f ∙ ap zeros (length-zero z rows h i e)
