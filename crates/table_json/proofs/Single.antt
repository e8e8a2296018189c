-- A value says at most one term, or breaks one rule first, and not both.
--   n generators · d value · b the monomial before · t u terms · f g faults
use Rattle.std.proofs.Common.{◌≡◌, ℕ, ◌≤◌, ℤ, List, ◌∷◌, Option, refl, sym, ◌∙◌, ap, subst}
use Rattle.std.specs.Fmt.{signed_decimal}
use Rattle.serde_json.specs.Data.{Data, string}
use Rattle.binom_poly.specs.declared.part.Part.{Part}
use Rattle.binom_poly.specs.declared.term.Term.{Term}
use Rattle.table_json.specs.declared.table_fault.TableFault.{TableFault}
use Rattle.table_json.specs.Format.{array_of, parts_data}
use Rattle.table_json.specs.TermRules.{HasForm, IsCoefficient, IsNext, SaysTerm, RefusesTerm, form, number, order}
use Rattle.table_json.specs.Reading.{AreParts}
use Rattle.table_json.proofs.Numerals.{signed_same}
use Rattle.table_json.proofs.Arrays.{array_of-same}
use Rattle.table_json.proofs.Pairs.{parts_data-same}

abbrev written_list : List ℕ → List Part → List Data
written_list c ps = string c ∷ parts_data ps

lists_same : (n : ℕ) (d : Data) (c e : List ℕ) (ps qs : List Part) → HasForm n d c ps
    → HasForm n d e qs
    → written_list c ps ≡ written_list e qs
lists_same n d c e ps qs g h =
    array_of-same (written_list c ps) (written_list e qs) (sym g.written ∙ h.written)

text_same : (n : ℕ) (d : Data) (c e : List ℕ) (ps qs : List Part) → HasForm n d c ps
    → HasForm n d e qs
    → c ≡ e
text_same n d c e ps qs g h = let lists = lists_same n d c e ps qs g h in cc

parts_same : (n : ℕ) (d : Data) (c e : List ℕ) (ps qs : List Part) → n ≤ 48 → HasForm n d c ps
    → HasForm n d e qs → ps ≡ qs
parts_same n d c e ps qs most g h =
    let lists = lists_same n d c e ps qs g h in
    let tails : parts_data ps ≡ parts_data qs = cc in
    parts_data-same n ps qs most g.parts h.parts tails

term_same : (t u : Term) → t.monomial ≡ u.monomial → t.coefficient ≡ u.coefficient → t ≡ u
term_same t u e f =
    ap (λ (m : List Part). let r : Term = record { monomial = m; coefficient = t.coefficient } in r)
    e
    ∙ ap (λ (z : ℤ). let r : Term = record { monomial = u.monomial; coefficient = z } in r) f

pub says_term-same : (n : ℕ) (b c : Option (List Part)) (d : Data) (t u : Term) → n ≤ 48
    → SaysTerm n b d t → SaysTerm n c d u → t ≡ u
says_term-same n b c d t u most g h =
    let texts = text_same n d (signed_decimal t.coefficient) (signed_decimal u.coefficient)
    t.monomial u.monomial g.form h.form in
    term_same t u (parts_same n d _ _ t.monomial u.monomial most g.form h.form)
    (signed_same t.coefficient u.coefficient g.coefficient.within h.coefficient.within texts)

pub refuses_term-no : (n : ℕ) (b : Option (List Part)) (d : Data) (t : Term) (f : TableFault)
    → n ≤ 48
    → SaysTerm n b d t → RefusesTerm n b d f → ⊥
refuses_term-no n b d t f most says (form fails) = fails _ _ says.form
refuses_term-no n b d t f most says (number c ps has fails) =
    let texts = text_same n d (signed_decimal t.coefficient) c t.monomial ps says.form has in
    fails t.coefficient (subst (λ e. IsCoefficient e t.coefficient) texts says.coefficient)
refuses_term-no n b d t f most says (order c ps z has is fails) =
    fails (subst (IsNext b) (parts_same n d _ c t.monomial ps most says.form has) says.order)

pub refuses_term-same : (n : ℕ) (b : Option (List Part)) (d : Data) (f g : TableFault)
    → RefusesTerm n b d f → RefusesTerm n b d g → f ≡ g
refuses_term-same n b d f g (form fails) (form nor) = refl
refuses_term-same n b d f g (form fails) (number c ps has nor) = absurd (fails c ps has)
refuses_term-same n b d f g (form fails) (order c ps z has is nor) = absurd (fails c ps has)
refuses_term-same n b d f g (number c ps has fails) (form nor) = absurd (nor c ps has)
refuses_term-same n b d f g (number c ps has fails) (number e qs also nor) = refl
refuses_term-same n b d f g (number c ps has fails) (order e qs z also is nor) =
    absurd (fails z (subst (λ s. IsCoefficient s z) (text_same n d e c qs ps also has) is))
refuses_term-same n b d f g (order c ps z has is fails) (form nor) = absurd (nor c ps has)
refuses_term-same n b d f g (order c ps z has is fails) (number e qs also nor) =
    absurd (nor z (subst (λ s. IsCoefficient s z) (text_same n d c e ps qs has also) is))
refuses_term-same n b d f g (order c ps z has is fails) (order e qs y also be nor) = refl

-- ---- the front of an array, and the parts behind it
pub form_of : (n : ℕ) (d : Data) (c : List ℕ) (ds : List Data) (ps : List Part)
    → d ≡ array_of (string c ∷ ds) → AreParts n ds ps → HasForm n d c ps
form_of n d c ds ps e are = record {
  written = e ∙ ap (λ es. array_of (string c ∷ es)) are.written;
  parts = are.parts;
}

pub parts_of_form : (n : ℕ) (d : Data) (c s : List ℕ) (ds : List Data) (ps : List Part)
    → d ≡ array_of (string c ∷ ds) → HasForm n d s ps → AreParts n ds ps
parts_of_form n d c s ds ps e has =
    let lists = array_of-same (string c ∷ ds) (string s ∷ parts_data ps) (sym e ∙ has.written) in
    let tails : ds ≡ parts_data ps = cc in
    record { written = tails; parts = has.parts }
