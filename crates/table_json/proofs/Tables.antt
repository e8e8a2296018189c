-- A value says at most one table, or has one first refusal, and not both; so does a text.
--   n generators · d e values · ds values of polynomials · t u tables · f g faults
use Rattle.std.proofs.Common.{◌≡◌, ℕ, ◌+◌, ◌≤◌, List, [], length, map, get_or, Option, Some, inl, inr, refl, sym, ◌∙◌, ap, subst, arith}
use Rattle.std.proofs.lemmas.Bool.{cases_lt}
use Rattle.std.proofs.lemmas.List.Elements.{All-map}
use Rattle.std.proofs.lemmas.List.{length-map}
use Rattle.serde_json.specs.Data.{Data}
use Rattle.binom_poly.specs.declared.term.Term.{Term}
use Rattle.hall_table.specs.Shape.{HasShape}
use Rattle.hall_table.specs.Tabled.{Tabled, IsTabled, AreShaped, IsFirstUnshaped}
use Rattle.table_json.specs.declared.key.Key.TheVariants.{Format, Generators, Level, Polynomials}
use Rattle.table_json.specs.declared.table_fault.TableFault.{TableFault}
use Rattle.table_json.specs.declared.table_fault.TableFault.TheVariants.{Field, Shape}
use Rattle.table_json.specs.Format.{array_of, term_data, poly_data}
use Rattle.table_json.specs.Saying.{HasFormat, HasGenerators, HasLevel, HasHeads, SaysTable}
use Rattle.table_json.specs.Refusing.{IsArray, HasPolynomials, SaysPolys, RefusesPolys, RefusesTable, format, generators, level, polynomials, term, shape}
use Rattle.table_json.proofs.Arrays.{array_of-same}
use Rattle.table_json.proofs.Forms.{polys_say, polys_written}
use Rattle.table_json.proofs.Sequences.{says_polys-same, refuses_polys-no, refuses_polys-same}

found_same : (o : Option Data) (a b : Data) → o ≡ Some a → o ≡ Some b → a ≡ b
found_same o a b g h = cc

arrays_same : (n : ℕ) (d : Data) (ds es : List Data) → HasPolynomials n d ds → HasPolynomials n d es
    → ds ≡ es
arrays_same n d ds es g h =
    array_of-same ds es (found_same _ (array_of ds) (array_of es) g.found h.found)

-- ---- what a value says
pub has_polynomials : (n : ℕ) (d : Data) (t : Tabled) → SaysTable n d t
    → HasPolynomials n d (map poly_data t.polys)
has_polynomials n d t says = record {
  found = says.polynomials;
  count = length-map t.polys poly_data ∙ says.count;
  arrays = All-map IsArray poly_data t.polys (λ i p l. (map term_data _, refl));
}

pub says_polys : (n : ℕ) (d : Data) (t : Tabled) → SaysTable n d t
    → SaysPolys n (map poly_data t.polys) t.polys
says_polys n d t says =
    let table = says.table in
    let one : t.level ≡ 1 = says.level in
    let count : length t.polys ≡ n = says.count in
    polys_say n 1 t.polys (omega arith) (omega arith) table.forms
    (λ i l.
    let shaped = subst (λ j. AreShaped j t.polys) one table.shapes in
    subst (λ j. HasShape 1 (1 + i) (get_or t.polys j [])) (omega arith)
    (shaped (1 + i) (omega arith) (omega arith)))

pub said_table : (n : ℕ) (d : Data) (ds : List Data) (t : Tabled) → HasHeads n d
    → HasPolynomials n d ds
    → SaysPolys n ds t.polys → t.level ≡ 1 → IsTabled t → SaysTable n d t
said_table n d ds t heads has says one table =
    let written = polys_written n ds t.polys says in
    record {
      heads = heads;
      polynomials = has.found ∙ ap (λ es. Some (array_of es)) written;
      level = one;
      count = sym (length-map t.polys poly_data) ∙ ap length (sym written) ∙ has.count;
      table = table;
    }

table_same : (t u : Tabled) → t.level ≡ u.level → t.polys ≡ u.polys → t ≡ u
table_same t u e f =
    ap (λ (i : ℕ). let r : Tabled = record { level = i; polys = t.polys } in r) e
    ∙ ap (λ (ps : List (List Term)). let r : Tabled = record { level = u.level; polys = ps } in r) f

pub says_table-same : (n : ℕ) (d : Data) (t u : Tabled) → n ≤ 48 → SaysTable n d t → SaysTable n d u
    → t ≡ u
says_table-same n d t u most g h =
    let arrays = arrays_same n d _ _ (has_polynomials n d t g) (has_polynomials n d u h) in
    table_same t u (g.level ∙ sym h.level)
    (says_polys-same n (map poly_data u.polys) t.polys u.polys most
    (subst (λ ds. SaysPolys n ds t.polys) arrays (says_polys n d t g)) (says_polys n d u h))

pub refuses_table-no : (n : ℕ) (d : Data) (t : Tabled) (f : TableFault) → n ≤ 48 → SaysTable n d t
    → RefusesTable n d f → ⊥
refuses_table-no n d t f most says (format fails) = fails says.heads.format
refuses_table-no n d t f most says (generators is fails) = fails says.heads.generators
refuses_table-no n d t f most says (level is has fails) = fails says.heads.level
refuses_table-no n d t f most says (polynomials heads fails) = fails _ (has_polynomials n d t says)
refuses_table-no n d t f most says (term ds g heads has r) =
    refuses_polys-no n ds t.polys g most
    (subst (λ es. SaysPolys n es t.polys) (arrays_same n d _ ds (has_polynomials n d t says) has)
    (says_polys n d t says)) r
refuses_table-no n d t f most says (shape ds ps k heads has also first) =
    let same = says_polys-same n ds ps t.polys most also
    (subst (λ es. SaysPolys n es t.polys) (arrays_same n d _ ds (has_polynomials n d t says) has)
    (says_polys n d t says)) in
    let shapes = subst (λ j. AreShaped j t.polys) says.level says.table.shapes in
    let unshaped = subst (λ qs. IsFirstUnshaped 1 qs k) same first in
    unshaped.breaks (shapes k unshaped.from unshaped.to)

-- ---- the first refusal
unshaped_same : (ps : List (List Term)) (j k : ℕ) → IsFirstUnshaped 1 ps j → IsFirstUnshaped 1 ps k
    → j ≡ k
unshaped_same ps j k g h =
    elim (cases_lt j k) [
      | inl l ↦ absurd (g.breaks (h.before j g.from l))
      | inr m ↦ elim (cases_lt k j) [
        | inl l ↦ absurd (h.breaks (g.before k h.from l))
        | inr l ↦ omega arith
      ]
    ]

at_format : (n : ℕ) (d : Data) (g : TableFault) → ¬ HasFormat d → RefusesTable n d g
    → Field Format ≡ g
at_format n d g fails (format nor) = refl
at_format n d g fails (generators is nor) = absurd (fails is)
at_format n d g fails (level is has nor) = absurd (fails is)
at_format n d g fails (polynomials heads nor) = absurd (fails heads.format)
at_format n d g fails (term ds f heads has r) = absurd (fails heads.format)
at_format n d g fails (shape ds ps k heads has says first) = absurd (fails heads.format)

at_generators : (n : ℕ) (d : Data) (g : TableFault) → HasFormat d → ¬ HasGenerators n d
    → RefusesTable n d g → Field Generators ≡ g
at_generators n d g given fails (format nor) = absurd (nor given)
at_generators n d g given fails (generators is nor) = refl
at_generators n d g given fails (level is has nor) = absurd (fails has)
at_generators n d g given fails (polynomials heads nor) = absurd (fails heads.generators)
at_generators n d g given fails (term ds f heads has r) = absurd (fails heads.generators)
at_generators n d g given fails (shape ds ps k heads has says first) = absurd (fails
    heads.generators)

at_level : (n : ℕ) (d : Data) (g : TableFault) → HasFormat d → HasGenerators n d → ¬ HasLevel d
    → RefusesTable n d g → Field Level ≡ g
at_level n d g given also fails (format nor) = absurd (nor given)
at_level n d g given also fails (generators is nor) = absurd (nor also)
at_level n d g given also fails (level is has nor) = refl
at_level n d g given also fails (polynomials heads nor) = absurd (fails heads.level)
at_level n d g given also fails (term ds f heads has r) = absurd (fails heads.level)
at_level n d g given also fails (shape ds ps k heads has says first) = absurd (fails heads.level)

at_polynomials : (n : ℕ) (d : Data) (g : TableFault) → HasHeads n d
    → ((ds : List Data) → ¬ HasPolynomials n d ds) → RefusesTable n d g → Field Polynomials ≡ g
at_polynomials n d g given fails (format nor) = absurd (nor given.format)
at_polynomials n d g given fails (generators is nor) = absurd (nor given.generators)
at_polynomials n d g given fails (level is has nor) = absurd (nor given.level)
at_polynomials n d g given fails (polynomials heads nor) = refl
at_polynomials n d g given fails (term ds f heads has r) = absurd (fails ds has)
at_polynomials n d g given fails (shape ds ps k heads has says first) = absurd (fails ds has)

at_term : (n : ℕ) (d : Data) (es : List Data) (f g : TableFault) → n ≤ 48 → HasHeads n d
    → HasPolynomials n d es → RefusesPolys n es f → RefusesTable n d g → f ≡ g
at_term n d es f g most given found q (format nor) = absurd (nor given.format)
at_term n d es f g most given found q (generators is nor) = absurd (nor given.generators)
at_term n d es f g most given found q (level is has nor) = absurd (nor given.level)
at_term n d es f g most given found q (polynomials heads nor) = absurd (nor es found)
at_term n d es f g most given found q (term ds h heads has r) =
    refuses_polys-same n ds f h most
    (subst (λ cs. RefusesPolys n cs f) (arrays_same n d es ds found has) q) r
at_term n d es f g most given found q (shape ds ps k heads has says first) =
    absurd (refuses_polys-no n ds ps f most says
    (subst (λ cs. RefusesPolys n cs f) (arrays_same n d es ds found has) q))

at_shape : (n : ℕ) (d : Data) (es : List Data) (qs : List (List Term)) (j : ℕ) (g : TableFault)
    → n ≤ 48
    → HasHeads n d → HasPolynomials n d es → SaysPolys n es qs → IsFirstUnshaped 1 qs j
    → RefusesTable n d g → Shape j ≡ g
at_shape n d es qs j g most given found also first (format nor) = absurd (nor given.format)
at_shape n d es qs j g most given found also first (generators is nor) = absurd (nor
    given.generators)
at_shape n d es qs j g most given found also first (level is has nor) = absurd (nor given.level)
at_shape n d es qs j g most given found also first (polynomials heads nor) = absurd (nor es found)
at_shape n d es qs j g most given found also first (term ds h heads has r) =
    absurd (refuses_polys-no n ds qs h most
    (subst (λ cs. SaysPolys n cs qs) (arrays_same n d es ds found has) also) r)
at_shape n d es qs j g most given found also first (shape ds ps k heads has says second) =
    let same = says_polys-same n ds qs ps most
    (subst (λ cs. SaysPolys n cs qs) (arrays_same n d es ds found has) also) says in
    ap Shape (unshaped_same ps j k (subst (λ rs. IsFirstUnshaped 1 rs j) same first) second)

pub refuses_table-same : (n : ℕ) (d : Data) (f g : TableFault) → n ≤ 48 → RefusesTable n d f
    → RefusesTable n d g → f ≡ g
refuses_table-same n d f g most (format fails) r = at_format n d g fails r
refuses_table-same n d f g most (generators is fails) r = at_generators n d g is fails r
refuses_table-same n d f g most (level is has fails) r = at_level n d g is has fails r
refuses_table-same n d f g most (polynomials heads fails) r = at_polynomials n d g heads fails r
refuses_table-same n d f g most (term ds h heads has q) r = at_term n d ds h g most heads has q r
refuses_table-same n d f g most (shape ds ps k heads has says first) r =
    at_shape n d ds ps k g most heads has says first r
