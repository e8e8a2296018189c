-- What contracts see while values are read and made.
--   data_of vs            the data of values
--   AreParts n ds ps      the values ds are the parts ps as they are written, each of them right
--   HasParts t            the parts of t are right for some count of generators
--   last_monomial ts      the monomial of the last of the terms, where there are terms
-- n generators · ds data · vs values · ps parts · t term · ts terms
use Rattle.std.specs.Prelude.{◌≡◌, ℕ, List, [], ◌∷◌, map, Option, Some, None, All}
use Rattle.serde_json.specs.Data.{Data}
use Rattle.serde_json.specs.View.{view}
use Rattle.serde_json.specs.declared.value.Value.{Value}
use Rattle.binom_poly.specs.declared.part.Part.{Part}
use Rattle.binom_poly.specs.declared.term.Term.{Term}
use Rattle.table_json.specs.Format.{parts_data}
use Rattle.table_json.specs.TermRules.{IsPart}

abbrev pub data_of : List Value → List Data
data_of vs = map view vs

pub record AreParts (n : ℕ) (ds : List Data) (ps : List Part) : Type 0 where
  pub written : ds ≡ parts_data ps
  pub parts : All (IsPart n) ps

abbrev pub HasParts : Term → Type 0
HasParts t = All (IsPart 48) t.monomial

abbrev pub last_monomial : List Term → Option (List Part)
last_monomial [] = None
last_monomial (t ∷ []) = Some t.monomial
last_monomial (t ∷ u ∷ ts) = last_monomial (u ∷ ts)
