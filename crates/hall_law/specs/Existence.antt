-- What exists: powers, images and tables. So no law that speaks of all of them is empty.
--   HasPowers rels level f         some Q gives the powers by f of the vectors of the level
--   AgreeOnPowers rels level f     all that do agree at these vectors
--   HasImages rels factors i f Q   some A are images
--   HasTables rels                 each level has a table
-- rels a presentation · i level · z vector · t an integer · f table · Q R its powers · A images
use Rattle.std.specs.Prelude.{◌≡◌, ℕ, ◌≤◌, ℤ, List}
use Rattle.nil_word.specs.Words.{IsVector}
use Rattle.nil_word.specs.Congruence.{Relations}
use Rattle.hall_law.specs.Table.{Operation, IsTable}
use Rattle.nil_word.specs.Factors.{Factoring}
use Rattle.hall_law.specs.Plan.{Powers, Images, IsPower, AreImages}

abbrev pub HasPowers : Relations → ℕ → Operation → Type 0
HasPowers rels level f = (Q : Powers) × IsPower rels.count level f Q

abbrev pub AgreeOnPowers : Relations → ℕ → Operation → Type 0
AgreeOnPowers rels level f =
    (Q R : Powers) → IsPower rels.count level f Q → IsPower rels.count level f R
    → (z : List ℤ) (t : ℤ) → IsVector rels.count level z → Q z t ≡ R z t

abbrev pub HasImages : Relations → Factoring → ℕ → Operation → Powers → Type 0
HasImages rels factors i f Q = (A : Images) × AreImages rels factors i f Q A

abbrev pub HasTables : Relations → Type 0
HasTables rels =
    (level : ℕ) → 1 ≤ level → level ≤ rels.count → (f : Operation) × IsTable rels level f
