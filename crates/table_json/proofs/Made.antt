-- Values that are made one after another, and what is made of a table.
--   vs ws values · ps parts · p part · i how many were made · t table
use Rattle.std.proofs.Common.{◌≡◌, ℕ, ◌+◌, ◌-◌, ◌≤◌, ◌<◌, Bool, false, ◌||◌, List, [], ◌∷◌, ◌++◌, length, map, get_or, take, refl, sym, ◌∙◌, ap, subst, append_assoc, arith}
use Rattle.std.specs.Prelude.{All, Some}
use Rattle.std.proofs.lemmas.List.{map-append, take_all, take_more}
use Rattle.serde_json.specs.Data.{unsigned, Data, number, string, depth, items_depth}
use Rattle.serde_json.specs.View.{view, items_of}
use Rattle.serde_json.specs.Written.{has_float, items_have_float}
use Rattle.serde_json.specs.declared.value.Value.{Value}
use Rattle.binom_poly.specs.declared.part.Part.{Part}
use Rattle.binom_poly.specs.declared.term.Term.{Term}
use Rattle.binom_poly.specs.Text.{variable_text}
use Rattle.binom_poly.proofs.Sorting.{polynomial_terms}
use Rattle.hall_table.specs.Shape.{HasShape}
use Rattle.hall_table.specs.Tabled.{Tabled, IsTabled, last_of, poly_at}
use Rattle.table_json.specs.Format.{parts_data, term_data, poly_data, table_data}
use Rattle.table_json.specs.Reading.{HasParts, data_of}
use Rattle.table_json.specs.Saying.{SaysTable}
use Rattle.table_json.proofs.Forms.{held, right_parts}

pub parts_data-append : (ps qs : List Part) → parts_data (ps ++ qs) ≡ parts_data ps ++ parts_data qs
parts_data-append [] qs = refl
parts_data-append (p ∷ ps) qs =
    ap (λ ds. string (variable_text p.var) ∷ number (unsigned p.exp) ∷ ds) (parts_data-append ps qs)

pub data_of-push : (vs : List Value) (v : Value)
    → data_of (vs ++ v ∷ []) ≡ data_of vs ++ view v ∷ []
data_of-push vs v = map-append view vs (v ∷ [])

-- two values for a part
pub pushed_twice : (vs us ws : List Value) (u w : Value) (p : Part) → us ≡ vs ++ u ∷ []
    → ws ≡ us ++ w ∷ [] → view u ≡ string (variable_text p.var) → view w ≡ number (unsigned p.exp)
    → data_of ws ≡ data_of vs ++ parts_data (p ∷ [])
pushed_twice vs us ws u w p e f g h =
    ap data_of f ∙ data_of-push us w ∙ ap (λ xs. data_of xs ++ view w ∷ []) e
    ∙ ap (λ ds. ds ++ view w ∷ []) (data_of-push vs u)
    ∙ append_assoc (data_of vs) (view u ∷ []) (view w ∷ [])
    ∙ ap (λ d. data_of vs ++ d ∷ view w ∷ []) g
    ∙ ap (λ d. data_of vs ++ string (variable_text p.var) ∷ d ∷ []) h

-- a part more
pub parts_more : (ds es fs : List Data) (ps : List Part) (i : ℕ) (d : Part) → i < length ps
    → es ≡ ds ++ parts_data (take i ps) → fs ≡ es ++ parts_data (get_or ps i d ∷ [])
    → fs ≡ ds ++ parts_data (take (i + 1) ps)
parts_more ds es fs ps i d l g h =
    h ∙ ap (λ xs. xs ++ parts_data (get_or ps i d ∷ [])) g
    ∙ append_assoc ds (parts_data (take i ps)) (parts_data (get_or ps i d ∷ []))
    ∙ ap (λ xs. ds ++ xs)
    (sym (parts_data-append (take i ps) (get_or ps i d ∷ []))
    ∙ ap parts_data (sym (take_more ps i d l)))

pub parts_all : (ds es : List Data) (ps : List Part) (i : ℕ) → length ps ≤ i
    → es ≡ ds ++ parts_data (take i ps) → es ≡ ds ++ parts_data ps
parts_all ds es ps i l e = e ∙ ap (λ qs. ds ++ parts_data qs) (take_all i ps l)

-- one more of any kind
pub made_more : {A : Type 0} (f : A → Data) (xs : List A) (i : ℕ) (d : A) (vs ws : List Value)
    (v : Value) → i < length xs → data_of vs ≡ map f (take i xs) → view v ≡ f (get_or xs i d)
    → ws ≡ vs ++ v ∷ [] → data_of ws ≡ map f (take (i + 1) xs)
made_more f xs i d vs ws v l e g h =
    ap data_of h ∙ data_of-push vs v ∙ ap (λ ds. ds ++ view v ∷ []) e
    ∙ ap (λ x. map f (take i xs) ++ x ∷ []) g
    ∙ sym (ap (map f) (take_more xs i d l) ∙ map-append f (take i xs) (get_or xs i d ∷ []))

pub made_all : {A : Type 0} (f : A → Data) (xs : List A) (i : ℕ) (vs : List Value) → length xs ≤ i
    → data_of vs ≡ map f (take i xs) → data_of vs ≡ map f xs
made_all f xs i vs l e = e ∙ ap (map f) (take_all i xs l)

-- ---- the parts of a table
pub has_parts : (t : Tabled) (k : ℕ) → IsTabled t → t.level ≡ 1 → 1 ≤ k → k ≤ last_of t
    → All HasParts (poly_at t k)
has_parts t k table one least most =
    let count : t.level + length t.polys ≤ 49 = table.most in
    let shape : HasShape 1 k (poly_at t k) =
    subst (λ j. HasShape j k (poly_at t k)) one (table.shapes k (omega arith) (omega arith)) in
    let terms = polynomial_terms (poly_at t k) (table.forms (k - t.level) (omega arith)) in
    λ i u l.
    right_parts 48 0 (get_or (poly_at t k) i u).monomial (terms i u l).monomial
    (held 48 k (get_or (poly_at t k) i u).monomial least (omega arith) (shape.others i u l))

-- ---- a table's value has no float, and isn't deep
parts_plain : (ps : List Part) → items_have_float (items_of (parts_data ps)) ≡ false
parts_plain [] = refl
parts_plain (p ∷ ps) = parts_plain ps

terms_plain : (ts : List Term) → items_have_float (items_of (map term_data ts)) ≡ false
terms_plain [] = refl
terms_plain (t ∷ ts) =
    ap (λ (b : Bool). b || items_have_float (items_of (map term_data ts))) (parts_plain t.monomial)
    ∙ terms_plain ts

polys_plain : (ps : List (List Term)) → items_have_float (items_of (map poly_data ps)) ≡ false
polys_plain [] = refl
polys_plain (p ∷ ps) =
    ap (λ (b : Bool). b || items_have_float (items_of (map poly_data ps))) (terms_plain p)
    ∙ polys_plain ps

pub table_plain : (t : Tabled) → has_float (table_data t) ≡ false
table_plain t = ap (λ (b : Bool). b || false) (polys_plain t.polys)

parts_depth : (ps : List Part) → items_depth (items_of (parts_data ps)) ≡ 0
parts_depth [] = refl
parts_depth (p ∷ ps) = omega (arith, parts_depth ps)

terms_depth : (ts : List Term) → items_depth (items_of (map term_data ts)) ≤ 1
terms_depth [] = omega arith
terms_depth (t ∷ ts) = omega (arith, parts_depth t.monomial, terms_depth ts)

polys_depth : (ps : List (List Term)) → items_depth (items_of (map poly_data ps)) ≤ 2
polys_depth [] = omega arith
polys_depth (p ∷ ps) = omega (arith, terms_depth p, polys_depth ps)

pub table_depth : (t : Tabled) → depth (table_data t) ≤ 127
table_depth t = omega (arith, polys_depth t.polys)

-- ---- a table's value says it
pub table_said : (t : Tabled) → IsTabled t → t.level ≡ 1 → SaysTable (last_of t) (table_data t) t
table_said t table one =
    let count : length t.polys ≡ last_of t = omega arith in
    record {
      heads = record {
        format = refl;
        generators = ap (λ n. Some (number (unsigned n))) count;
        level = ap (λ n. Some (number (unsigned n))) one;
      };
      polynomials = refl;
      level = one;
      count = count;
      table = table;
    }
