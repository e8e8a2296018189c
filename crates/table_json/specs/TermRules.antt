-- Which term a value says, and the first rule that it breaks where it says none: its form, then its
-- coefficient, then its order.
--   IsPart n p              the variable is x_k or y_k of one of n generators, and the exponent is
--                           from 1 to the limit
--   HasForm n d c ps        the value d is an array of the string c and of these parts as they are
--                           written, each of them right
--   IsCoefficient c z       c is the integer z in decimal, which is a number and not 0
--   Ascend low ps           the variables ascend, from above low
--   IsBehind before ps      ps comes after the monomial before, where there is one
--   IsNext before ps        both
--   SaysTerm n before d t   d says the term t, behind a term with the monomial before
--   RefusesTerm n before d f       d says none there, and f is the first rule that it breaks
-- d value · n generators · p part · ps parts · t term · f fault
use Rattle.std.specs.Prelude.{◌≡◌, ◌≢◌, ℕ, ◌+◌, ◌<◌, ◌≤◌, ℤ, pos, List, [], ◌∷◌, Option, Some, None, IsTrue, All}
use Rattle.std.specs.declared.cmp.Ordering.TheVariants.{Less}
use Rattle.std.specs.Fmt.{signed_decimal}
use Rattle.serde_json.specs.Data.{Data, string}
use Rattle.nil_num.specs.Bound.{IsNumber}
use Rattle.binom_poly.specs.declared.part.Part.{Part}
use Rattle.binom_poly.specs.declared.term.Term.{Term}
use Rattle.binom_poly.specs.Monomial.{monomial_cmp}
use Rattle.binom_poly.specs.Variable.{exponent_limit}
use Rattle.hall_table.specs.Shape.{is_lower}
use Rattle.table_json.specs.declared.key.Key.TheVariants.{Polynomials}
use Rattle.table_json.specs.declared.table_fault.TableFault.{TableFault}
use Rattle.table_json.specs.declared.table_fault.TableFault.TheVariants.{Field, Number, Order}
use Rattle.table_json.specs.Format.{array_of, parts_data}

pub record IsPart (n : ℕ) (p : Part) : Type 0 where
  pub variable : IsTrue (is_lower 1 (n + 1) p.var)
  pub least : 1 ≤ p.exp
  pub most : p.exp ≤ exponent_limit

pub record HasForm (n : ℕ) (d : Data) (c : List ℕ) (ps : List Part) : Type 0 where
  pub written : d ≡ array_of (string c ∷ parts_data ps)
  pub parts : All (IsPart n) ps

pub record IsCoefficient (c : List ℕ) (z : ℤ) : Type 0 where
  pub decimal : c ≡ signed_decimal z
  pub not_zero : z ≢ pos 0
  pub within : IsNumber z

abbrev pub Ascend : ℕ → List Part → Type 0
Ascend low [] = Unit {0}
Ascend low (p ∷ ps) = (low < p.var) × Ascend p.var ps

abbrev pub IsBehind : Option (List Part) → List Part → Type 0
IsBehind None ps = Unit {0}
IsBehind (Some before) ps = monomial_cmp before ps ≡ Less

pub record IsNext (before : Option (List Part)) (ps : List Part) : Type 0 where
  pub ascend : Ascend 0 ps
  pub behind : IsBehind before ps

pub record SaysTerm (n : ℕ) (before : Option (List Part)) (d : Data) (t : Term) : Type 0 where
  pub form : HasForm n d (signed_decimal t.coefficient) t.monomial
  pub coefficient : IsCoefficient (signed_decimal t.coefficient) t.coefficient
  pub order : IsNext before t.monomial

pub data RefusesTerm (n : ℕ) (before : Option (List Part)) (d : Data) : TableFault → Type 0 where
  form : ((c : List ℕ) (ps : List Part) → ¬ HasForm n d c ps)
      → RefusesTerm n before d (Field Polynomials)
  number : (c : List ℕ) (ps : List Part) → HasForm n d c ps → ((z : ℤ) → ¬ IsCoefficient c z)
      → RefusesTerm n before d Number
  order : (c : List ℕ) (ps : List Part) (z : ℤ) → HasForm n d c ps → IsCoefficient c z
      → ¬ IsNext before ps → RefusesTerm n before d Order
