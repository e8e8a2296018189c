-- The elements that vectors are, by the words that stand for them.
--   IsOf c a w             a is the vector of the word w, at the level of the table of c
--   IsSolution c x u v     x is a vector x with u x = v
-- c a presentation with its table · u v w words · a x vectors
use Rattle.std.specs.Prelude.{ℤ, List, ◌++◌, length}
use Rattle.nil_word.specs.declared.letter.Letter.{Letter}
use Rattle.nil_word.specs.Words.{ordered, IsVector}
use Rattle.nil_word.specs.Congruence.{Congruent}
use Rattle.nil_pres.specs.Relations.{relations_of}
use Rattle.hall_law.specs.Elements.{IsVectorOf}
use Rattle.hall_table.specs.Multiplies.{Paired}

abbrev pub IsOf : Paired → List ℤ → List Letter → Type 0
IsOf c a w = IsVectorOf (relations_of c.pres) c.table.level a w

pub record IsSolution (c : Paired) (x : List ℤ) (u v : List Letter) : Type 0 where
  pub vector : IsVector (length c.pres.names) c.table.level x
  pub solves : Congruent (relations_of c.pres) c.table.level (u ++ ordered x) v
