-- Parts as they are written, and reading them two values at a time.
--   n generators · ds values · a b values · p part · ps qs parts · done the parts that were read
use Rattle.std.proofs.Common.{◌≡◌, ◌≢◌, ℕ, ◌≤◌, List, [], ◌∷◌, ◌++◌, refl, sym, ◌∙◌, ap, subst, append_assoc, append-nil}
use Rattle.std.specs.Prelude.{All}
use Rattle.std.proofs.lemmas.List.Elements.{All-nil, All-cons, All-head, All-tail}
use Rattle.serde_json.specs.Data.{unsigned, Data, number, string}
use Rattle.binom_poly.specs.declared.part.Part.{Part}
use Rattle.binom_poly.specs.Text.{variable_text}
use Rattle.table_json.specs.Format.{parts_data}
use Rattle.table_json.specs.TermRules.{IsPart}
use Rattle.table_json.specs.Reading.{AreParts}
use Rattle.table_json.proofs.Names.{variable_text-same}

part_same : (p q : Part) → p.var ≡ q.var → p.exp ≡ q.exp → p ≡ q
part_same p q e f =
    ap (λ (v : ℕ). let r : Part = record { var = v; exp = p.exp } in r) e
    ∙ ap (λ (x : ℕ). let r : Part = record { var = q.var; exp = x } in r) f

pub parts_data-same : (n : ℕ) (ps qs : List Part) → n ≤ 48 → All (IsPart n) ps → All (IsPart n) qs
    → parts_data ps ≡ parts_data qs → ps ≡ qs
parts_data-same n [] [] most g h e = refl
parts_data-same n [] (q ∷ qs) most g h e = cc
parts_data-same n (p ∷ ps) [] most g h e = cc
parts_data-same n (p ∷ ps) (q ∷ qs) most g h e =
    let names : variable_text p.var ≡ variable_text q.var = cc in
    let exps : p.exp ≡ q.exp = cc in
    let tails : parts_data ps ≡ parts_data qs = cc in
    let vars = variable_text-same n p.var q.var most (All-head (IsPart n) p ps g).variable
    (All-head (IsPart n) q qs h).variable names in
    ap (λ r. r ∷ ps) (part_same p q vars exps)
    ∙ ap (λ rs. q ∷ rs) (parts_data-same n ps qs most (All-tail (IsPart n) p ps g)
    (All-tail (IsPart n) q qs h) tails)

-- what is still to be read gives all, behind what was read
abbrev pub Joins : ℕ → List Data → List Part → List Data → Type 0
Joins n all done rest = (ps : List Part) → AreParts n rest ps → AreParts n all (done ++ ps)

-- where all are parts, what is still to be read are parts
abbrev pub Leaves : ℕ → List Data → List Data → Type 0
Leaves n all rest = (ps : List Part) → AreParts n all ps → (qs : List Part) × AreParts n rest qs

pub joins_begin : (n : ℕ) (all : List Data) → Joins n all [] all
joins_begin n all ps h = h

pub leaves_begin : (n : ℕ) (all : List Data) → Leaves n all all
leaves_begin n all ps h = (ps, h)

pub joins_more : (n : ℕ) (all : List Data) (done : List Part) (a b : Data) (rest : List Data) (p :
    Part)
    → IsPart n p → a ≡ string (variable_text p.var) → b ≡ number (unsigned p.exp)
    → Joins n all done (a ∷ b ∷ rest) → Joins n all (done ++ p ∷ []) rest
joins_more n all done a b rest p is name exp join ps h =
    let written : a ∷ b ∷ rest ≡ parts_data (p ∷ ps) =
    ap (λ x. x ∷ b ∷ rest) name ∙ ap (λ x. string (variable_text p.var) ∷ x ∷ rest) exp
    ∙ ap (λ xs. string (variable_text p.var) ∷ number (unsigned p.exp) ∷ xs) h.written in
    subst (AreParts n all) (sym (append_assoc done (p ∷ []) ps))
    (join (p ∷ ps) record { written = written; parts = All-cons (IsPart n) p ps is h.parts })

rest_are : (n : ℕ) (a b : Data) (rest : List Data) (ps : List Part) → AreParts n (a ∷ b ∷ rest) ps
    → (qs : List Part) × AreParts n rest qs
rest_are n a b rest [] h = let e = h.written in cc
rest_are n a b rest (p ∷ ps) h =
    let e = h.written in
    let tails : rest ≡ parts_data ps = cc in
    (ps, record { written = tails; parts = All-tail (IsPart n) p ps h.parts })

pub leaves_more : (n : ℕ) (all : List Data) (a b : Data) (rest : List Data)
    → Leaves n all (a ∷ b ∷ rest) → Leaves n all rest
leaves_more n all a b rest leave ps h = let left = leave ps h in rest_are n a b rest left.0 left.1

front_is : (n : ℕ) (a b : Data) (rest : List Data) (ps : List Part) → AreParts n (a ∷ b ∷ rest) ps
    → ((p : Part) → IsPart n p → a ≡ string (variable_text p.var) → b ≢ number (unsigned p.exp))
    → ⊥
front_is n a b rest [] h fails = let e = h.written in cc
front_is n a b rest (p ∷ ps) h fails =
    let e = h.written in
    let name : a ≡ string (variable_text p.var) = cc in
    let exp : b ≡ number (unsigned p.exp) = cc in
    fails p (All-head (IsPart n) p ps h.parts) name exp

-- two values that are no part
pub none_with : (n : ℕ) (all : List Data) (a b : Data) (rest : List Data)
    → ((p : Part) → IsPart n p → a ≡ string (variable_text p.var) → b ≢ number (unsigned p.exp))
    → Leaves n all (a ∷ b ∷ rest) → (ps : List Part) → ¬ AreParts n all ps
none_with n all a b rest fails leave ps h = let left = leave ps h in front_is n a b rest left.0
    left.1 fails

one_is : (n : ℕ) (a : Data) (ps : List Part) → ¬ AreParts n (a ∷ []) ps
one_is n a [] h = let e = h.written in cc
one_is n a (p ∷ ps) h = let e = h.written in cc

-- one value that is left over
pub none_odd : (n : ℕ) (all : List Data) (a : Data) → Leaves n all (a ∷ []) → (ps : List Part)
    → ¬ AreParts n all ps
none_odd n all a leave ps h = let left = leave ps h in one_is n a left.0 left.1

pub joins_end : (n : ℕ) (all : List Data) (done : List Part) → Joins n all done []
    → AreParts n all done
joins_end n all done join =
    subst (AreParts n all) (append-nil done) (join [] record {
      written = refl;
      parts = All-nil
          (IsPart n);
    })
