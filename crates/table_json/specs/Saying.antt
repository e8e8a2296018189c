-- Which table a JSON value says, and what a text says.
--   HasFormat d, HasGenerators n d, HasLevel d
--                        the key is there, and has the value that it must have; so a value that is
--                        no object has none of them
--   HasHeads n d         it has all three
--   SaysTable n d t      the value says the table t of n generators: the heads, and the polynomials
--                        of t as they are written; other keys are passed over
--   IsJson text d        the text is JSON, and d is its value; of equal keys the last one counts
--   IsTableText n text t the text's value says t
-- d value · n generators · t table
use Rattle.std.specs.Prelude.{◌≡◌, ℕ, List, length, codes, Some, IsUtf8}
use Rattle.serde_json.specs.Data.{unsigned, Data, number, string}
use Rattle.serde_json.specs.Find.{get}
use Rattle.serde_json.specs.Read.{read}
use Rattle.hall_table.specs.Tabled.{Tabled, IsTabled}
use Rattle.table_json.specs.Format.{polys_data}

abbrev pub HasFormat : Data → Type 0
HasFormat d = get (codes "format") d ≡ Some (string (codes "hall table 1"))

abbrev pub HasGenerators : ℕ → Data → Type 0
HasGenerators n d = get (codes "generators") d ≡ Some (number (unsigned n))

abbrev pub HasLevel : Data → Type 0
HasLevel d = get (codes "level") d ≡ Some (number (unsigned 1))

pub record HasHeads (n : ℕ) (d : Data) : Type 0 where
  pub format : HasFormat d
  pub generators : HasGenerators n d
  pub level : HasLevel d

pub record SaysTable (n : ℕ) (d : Data) (t : Tabled) : Type 0 where
  pub heads : HasHeads n d
  pub polynomials : get (codes "polynomials") d ≡ Some (polys_data t.polys)
  pub level : t.level ≡ 1
  pub count : length t.polys ≡ n
  pub table : IsTabled t

pub record IsJson (text : List ℕ) (d : Data) : Type 0 where
  pub utf8 : IsUtf8 text
  pub value : read text ≡ Some d

pub record IsTableText (n : ℕ) (text : List ℕ) (t : Tabled) : Type 0 where
  pub value : Data
  pub json : IsJson text value
  pub says : SaysTable n value t
