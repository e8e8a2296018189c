-- A table from a higher level on, with the variables below the level set to 0.
--   is_from level v         v is no variable below the level
--   is_kept level m         the monomial m has no variable below the level
--   from_level level p      p with the lower variables set to 0: the terms that hold one go
--   tail_of t level         the table from the level on
--   at_level level a v      a, and 0 at the variables below the level
-- m monomial · p polynomial · t table · a point · v variable
use Rattle.std.specs.Prelude.{ℕ, ◌-◌, nat_le, Bool, ◌&&◌, ◌||◌, ℤ, pos, List, filter, drop, map, if◌then◌else◌}
use Rattle.std.specs.List.{list_all}
use Rattle.binom_poly.specs.declared.part.Part.{Part}
use Rattle.binom_poly.specs.declared.term.Term.{Term}
use Rattle.binom_poly.specs.Variable.{y_of}
use Rattle.hall_table.specs.Shape.{is_x}
use Rattle.hall_table.specs.Tabled.{Tabled}

-- x_k and y_k are from the level on where k is
abbrev pub is_from : ℕ → ℕ → Bool
is_from level v = (nat_le level v && is_x v) || nat_le (y_of level) v

abbrev pub is_kept : ℕ → List Part → Bool
is_kept level m = list_all (λ q. is_from level q.var) m

abbrev pub from_level : ℕ → List Term → List Term
from_level level p = filter (λ t. is_kept level t.monomial) p

abbrev pub tail_of : Tabled → ℕ → Tabled
tail_of t level =
    record { level = level; polys = map (from_level level) (drop (level - t.level) t.polys) }

abbrev pub at_level : ℕ → (ℕ → ℤ) → ℕ → ℤ
at_level level a v = if is_from level v then a v else pos 0
