-- What terms have below some parts, and their nodes.
--   last_part ms d        the last of the parts ms, and d where there is none
--   tail_terms ts         the terms that the tails are
--   parts_in ts           how many parts they have together
--   HasPart t             t has a part
--   Nests old new ts      new is old with the nodes of the tails behind
--   HaveParts ts          no term of ts is constant
-- ms parts · t tail · ts tails or terms · old new nodes
use Rattle.std.specs.Prelude.{◌≡◌, ℕ, ◌+◌, ◌-◌, ◌<◌, List, [], ◌∷◌, ◌++◌, length}
use Rattle.std.proofs.Common.{get_or}
use Rattle.binom_poly.specs.declared.part.Part.{Part}
use Rattle.binom_poly.specs.declared.term.Term.{Term}
use Rattle.nested_poly.specs.declared.node.Node.{Node}
use Rattle.nested_poly.specs.declared.tail.Tail.{Tail}
use Rattle.nested_poly.specs.Nodes.{terms_of, IsForest, IsNestOf}

abbrev pub last_part : List Part → Part → Part
last_part ms d = get_or ms (length ms - 1) d

unfoldable pub tail_terms : List Tail → List Term
tail_terms [] = []
tail_terms (t ∷ ts) =
    record { monomial = t.parts.now; coefficient = t.coefficient } ∷ tail_terms ts

unfoldable pub parts_in : List Tail → ℕ
parts_in [] = 0
parts_in (t ∷ ts) = length t.parts.now + parts_in ts

abbrev pub HasPart : Tail → Type 0
HasPart t = 0 < length t.parts.now

pub record Nests (old new : List Node) (ts : List Tail) : Type 0 where
  pub added : List Node
  pub behind : new ≡ old ++ added
  pub form : IsForest added
  pub nest : IsNestOf (terms_of added) (tail_terms ts)

unfoldable pub HaveParts : List Term → Type 0
HaveParts [] = Unit {0}
HaveParts (t ∷ ts) = (0 < length t.monomial) × HaveParts ts
