-- The first refusal of a text that says no table, in the order in which the rules are tried: the
-- keys, then the polynomials in order and in each its terms in order, then the shape.
--   SaysTerms n before ds ts       the values say these terms, one each
--   RefusesTerms n before ds f     f is the fault of the first value that says no term
--   SaysPoly n d p, RefusesPoly n d f        the same of an array of terms
--   SaysPolys n ds ps, RefusesPolys n ds f   and of arrays of terms, one for each polynomial
--   IsArray d                      d is an array
--   HasPolynomials n d ds          the polynomials are the arrays ds, one for each generator
--   RefusesTable n d f             f is the first refusal of the value d
--   IsFirstRefusal n text f        f is the first refusal of the text
-- d value · ds values · before the monomial before · n generators · p polynomial · ps polynomials
-- t term · ts terms · f fault
use Rattle.std.specs.Prelude.{◌≡◌, ◌⊎◌, ℕ, List, [], ◌∷◌, length, codes, Option, Some, None, All}
use Rattle.serde_json.specs.Data.{Data}
use Rattle.serde_json.specs.Find.{get}
use Rattle.binom_poly.specs.declared.part.Part.{Part}
use Rattle.binom_poly.specs.declared.term.Term.{Term}
use Rattle.hall_table.specs.Tabled.{IsFirstUnshaped}
use Rattle.table_json.specs.declared.key.Key.TheVariants.{Format, Generators, Level, Polynomials}
use Rattle.table_json.specs.declared.table_fault.TableFault.{TableFault}
use Rattle.table_json.specs.declared.table_fault.TableFault.TheVariants.{Json, Field, Shape}
use Rattle.table_json.specs.Format.{array_of}
use Rattle.table_json.specs.Saying.{HasFormat, HasGenerators, HasLevel, HasHeads, IsJson}
use Rattle.table_json.specs.TermRules.{SaysTerm, RefusesTerm}

abbrev pub SaysTerms : ℕ → Option (List Part) → List Data → List Term → Type 0
SaysTerms n before [] [] = Unit {0}
SaysTerms n before [] (t ∷ ts) = ⊥
SaysTerms n before (d ∷ ds) [] = ⊥
SaysTerms n before (d ∷ ds) (t ∷ ts) =
    SaysTerm n before d t × SaysTerms n (Some t.monomial) ds ts

abbrev pub RefusesTerms : ℕ → Option (List Part) → List Data → TableFault → Type 0
RefusesTerms n before [] f = ⊥
RefusesTerms n before (d ∷ ds) f =
    RefusesTerm n before d f
    ⊎ ((t : Term) × SaysTerm n before d t × RefusesTerms n (Some t.monomial) ds f)

abbrev pub SaysPoly : ℕ → Data → List Term → Type 0
SaysPoly n d p = (ds : List Data) × (d ≡ array_of ds) × SaysTerms n None ds p

abbrev pub RefusesPoly : ℕ → Data → TableFault → Type 0
RefusesPoly n d f = (ds : List Data) × (d ≡ array_of ds) × RefusesTerms n None ds f

abbrev pub SaysPolys : ℕ → List Data → List (List Term) → Type 0
SaysPolys n [] [] = Unit {0}
SaysPolys n [] (p ∷ ps) = ⊥
SaysPolys n (d ∷ ds) [] = ⊥
SaysPolys n (d ∷ ds) (p ∷ ps) = SaysPoly n d p × SaysPolys n ds ps

abbrev pub RefusesPolys : ℕ → List Data → TableFault → Type 0
RefusesPolys n [] f = ⊥
RefusesPolys n (d ∷ ds) f =
    RefusesPoly n d f ⊎ ((p : List Term) × SaysPoly n d p × RefusesPolys n ds f)

abbrev pub IsArray : Data → Type 0
IsArray d = (ds : List Data) × (d ≡ array_of ds)

pub record HasPolynomials (n : ℕ) (d : Data) (ds : List Data) : Type 0 where
  pub found : get (codes "polynomials") d ≡ Some (array_of ds)
  pub count : length ds ≡ n
  pub arrays : All IsArray ds

pub data RefusesTable (n : ℕ) (d : Data) : TableFault → Type 0 where
  format : ¬ HasFormat d → RefusesTable n d (Field Format)
  generators : HasFormat d → ¬ HasGenerators n d → RefusesTable n d (Field Generators)
  level : HasFormat d → HasGenerators n d → ¬ HasLevel d → RefusesTable n d (Field Level)
  polynomials : HasHeads n d → ((ds : List Data) → ¬ HasPolynomials n d ds)
      → RefusesTable n d (Field Polynomials)
  term : (ds : List Data) (f : TableFault) → HasHeads n d → HasPolynomials n d ds
      → RefusesPolys n ds f → RefusesTable n d f
  shape : (ds : List Data) (ps : List (List Term)) (k : ℕ) → HasHeads n d
      → HasPolynomials n d ds → SaysPolys n ds ps → IsFirstUnshaped 1 ps k
      → RefusesTable n d (Shape k)

pub data IsFirstRefusal (n : ℕ) (text : List ℕ) : TableFault → Type 0 where
  json : ((d : Data) → ¬ IsJson text d) → IsFirstRefusal n text Json
  value : (d : Data) (f : TableFault) → IsJson text d → RefusesTable n d f
      → IsFirstRefusal n text f
