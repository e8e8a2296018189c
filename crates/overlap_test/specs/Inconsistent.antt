-- What an overlap shows whose two ways differ.
--   ShowsInconsistent rels o   both vectors stand for a_k a_j a_i, and they are different; so
--                              neither the level nor the presentation is consistent
-- rels a presentation · o overlap
use Rattle.std.specs.Prelude.{◌≢◌, [], ◌∷◌}
use Rattle.nil_word.specs.Words.{up, ordered}
use Rattle.nil_word.specs.Congruence.{Relations, Congruent, IsConsistent}
use Rattle.overlap_test.specs.declared.overlap.Overlap.{Overlap}

pub record ShowsInconsistent (rels : Relations) (o : Overlap) : Type 0 where
  pub left : Congruent rels o.i (ordered o.left) (up o.k ∷ up o.j ∷ up o.i ∷ [])
  pub right : Congruent rels o.i (ordered o.right) (up o.k ∷ up o.j ∷ up o.i ∷ [])
  pub different : o.left ≢ o.right
  pub level : ¬ IsConsistent rels o.i
  pub presentation : ¬ IsConsistent rels 1
