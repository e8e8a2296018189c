-- The JSON value of a table of level 1, and its text.
--   array_of ds      the array of these values
--   parts_data ps    for each part its variable as a string such as x2, and its exponent
--   term_data t      the array of the coefficient in decimal, as a string, and of the parts
--   poly_data p      the array of the terms
--   polys_data ps    the array of the polynomials
--   table_data t     the object with the keys format, generators, level and polynomials
--   table_text t     its text: compact, keys ascending, no line feed
-- t term, at the end table · p polynomial · ps parts, polynomials
use Rattle.std.specs.Prelude.{ℕ, List, [], ◌∷◌, length, map, codes}
use Rattle.std.specs.Fmt.{signed_decimal}
use Rattle.serde_json.specs.Data.{unsigned, Data, number, string, array, object, no_members, member}
use Rattle.serde_json.specs.View.{items_of}
use Rattle.serde_json.specs.Written.{compact_text}
use Rattle.binom_poly.specs.declared.part.Part.{Part}
use Rattle.binom_poly.specs.declared.term.Term.{Term}
use Rattle.binom_poly.specs.Text.{variable_text}
use Rattle.hall_table.specs.Tabled.{Tabled}

abbrev pub array_of : List Data → Data
array_of ds = array (items_of ds)

abbrev pub parts_data : List Part → List Data
parts_data [] = []
parts_data (p ∷ ps) = string (variable_text p.var) ∷ number (unsigned p.exp) ∷ parts_data ps

abbrev pub term_data : Term → Data
term_data t = array_of (string (signed_decimal t.coefficient) ∷ parts_data t.monomial)

abbrev pub poly_data : List Term → Data
poly_data p = array_of (map term_data p)

abbrev pub polys_data : List (List Term) → Data
polys_data ps = array_of (map poly_data ps)

abbrev pub table_data : Tabled → Data
table_data t =
    object (member (codes "format") (string (codes "hall table 1"))
    (member (codes "generators") (number (unsigned (length t.polys)))
    (member (codes "level") (number (unsigned t.level))
    (member (codes "polynomials") (polys_data t.polys) no_members))))

abbrev pub table_text : Tabled → List ℕ
table_text t = compact_text (table_data t)
