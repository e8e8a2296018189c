-- The canonical text of a presentation is a file of it.
use Rattle.std.proofs.Common.{◌≡◌, ℕ, zero, suc, ◌+◌, ◌-◌, ◌≤◌, not, true, List, [], ◌∷◌, ◌++◌, length, map, get_or, codes, String, Global, string_bytes, Result, Ok, Err, IfOk, refl, sym, ◌∙◌, ap, subst, append_assoc, arith}
use Rattle.std.specs.List.{list_all}
use Rattle.std.proofs.lemmas.List.{map-append}
use Rattle.std.proofs.lemmas.Bool.Decides.{nat_tests}
use Rattle.nil_pres.specs.declared.syllable.Syllable.{Syllable}
use Rattle.nil_pres.specs.Presented.{Presented, IsPresented, right_of, is_letter, is_name_byte}
use Rattle.line_tokens.specs.Tokens.{is_blank}
use Rattle.pres_text.specs.Lines.{Line, content, words}
use Rattle.pres_text.specs.File.{Relation, IsLawful, AreRelations, none, more, IsFile}
use Rattle.pres_text.specs.Text.{name_of, line_text, pairs_text, relations_text, names_text, text_of}
use Rattle.pres_text.proofs.Named.{IsWord, AreWords, are_words}
use Rattle.pres_text.proofs.Tokens.{relation_text, relation_spelled}
use Rattle.pres_text.proofs.Plain.{is_plain, weaker, plain-append, name_plain, relation_plain, plain_text}
use Rattle.pres_text.proofs.Joined.{Each, joined, joined-append, IsSaid, texts-joined, spaced, IsOne, words-first, words-spaced, names_text-spaced}
use Rattle.pres_text.proofs.Canonical.{line_relations, pair_relations, all_relations, IsOwn, own_relations, AreApart, relations_apart, given_relations}

-- the lines of relations
abbrev relation_texts : List (List ℕ) → List Relation → List (List ℕ)
relation_texts names rs = map (relation_text names) rs

joined_texts : (names : List (List ℕ)) (xs ys : List Relation) → joined (relation_texts names (xs ++ ys)) ≡ joined (relation_texts names xs) ++ joined (relation_texts names ys)
joined_texts names xs ys = ap joined (map-append (relation_text names) xs ys) ∙ joined-append (relation_texts names xs) (relation_texts names ys)

line_text-joined : (names : List (List ℕ)) (j i : ℕ) (right : List Syllable) → line_text names j i right ≡ joined (relation_texts names (line_relations j i right))
line_text-joined names j i [] = refl
line_text-joined names j i (s ∷ right) = refl

pairs_text-joined : (p : Presented) (j m : ℕ) → pairs_text p j m ≡ joined (relation_texts p.names (pair_relations p j m))
pairs_text-joined p j zero = refl
pairs_text-joined p j (suc m) =
    let right : List Syllable = right_of p (suc m) j in
    ap (λ (t : List ℕ). t ++ line_text p.names j (suc m) right) (pairs_text-joined p j m)
    ∙ ap (λ (t : List ℕ). joined (relation_texts p.names (pair_relations p j m)) ++ t) (line_text-joined p.names j (suc m) right)
    ∙ sym (joined_texts p.names (pair_relations p j m) (line_relations j (suc m) right))

relations_text-joined : (p : Presented) (m : ℕ) → relations_text p m ≡ joined (relation_texts p.names (all_relations p m))
relations_text-joined p zero = refl
relations_text-joined p (suc m) =
    ap (λ (t : List ℕ). t ++ pairs_text p (suc m) m) (relations_text-joined p m)
    ∙ ap (λ (t : List ℕ). joined (relation_texts p.names (all_relations p m)) ++ t) (pairs_text-joined p (suc m) m)
    ∙ sym (joined_texts p.names (all_relations p m) (pair_relations p (suc m) m))

-- the lines of the whole text
abbrev generators_line : Presented → List ℕ
generators_line p = codes "generators" ++ spaced p.names

abbrev relation_lines : Presented → List (List ℕ)
relation_lines p = relation_texts p.names (all_relations p (length p.names))

apart_lines : (header first names rest : List ℕ) → (((header ++ 10 ∷ first) ++ names) ++ 10 ∷ []) ++ rest ≡ header ++ 10 ∷ ((first ++ names) ++ 10 ∷ rest)
apart_lines header first names rest =
    append_assoc ((header ++ 10 ∷ first) ++ names) (10 ∷ []) rest
    ∙ append_assoc (header ++ 10 ∷ first) names (10 ∷ rest)
    ∙ append_assoc header (10 ∷ first) (names ++ 10 ∷ rest)
    ∙ ap (λ (t : List ℕ). header ++ 10 ∷ t) (sym (append_assoc first names (10 ∷ rest)))

text_of-joined : (p : Presented) → text_of p ≡ joined (codes "nilpotent 1" ∷ generators_line p ∷ relation_lines p)
text_of-joined p =
    apart_lines (codes "nilpotent 1") (codes "generators") (names_text p.names (length p.names)) (relations_text p (length p.names))
    ∙ ap (λ (t : List ℕ). codes "nilpotent 1" ++ 10 ∷ ((codes "generators" ++ t) ++ 10 ∷ relations_text p (length p.names))) (names_text-spaced p.names)
    ∙ ap (λ (t : List ℕ). codes "nilpotent 1" ++ 10 ∷ (generators_line p ++ 10 ∷ t)) (relations_text-joined p (length p.names))

-- relation lines say something
said : (names : List (List ℕ)) (r : Relation) → AreWords names (length names) → IsOwn (length names) r → IsSaid (relation_text names r)
said names r meanings own = record { plain = relation_plain names r meanings own.low own.order own.high own.right; says = refl }

all_said : (names : List (List ℕ)) (rs : List Relation) → AreWords names (length names) → Each (IsOwn (length names)) rs → Each IsSaid (relation_texts names rs)
all_said names [] meanings h = tt
all_said names (r ∷ rs) meanings h = (said names r meanings h.0, all_said names rs meanings h.1)

are_written : (names : List (List ℕ)) (rs : List Relation) → AreWords names (length names) → Each (IsOwn (length names)) rs → AreApart rs → AreRelations names (relation_texts names rs) rs
are_written names [] meanings h apart = none
are_written names (r ∷ rs) meanings h apart =
    let own : IsOwn (length names) r = h.0 in
    let lawful : IsLawful (length names) r = record { low = own.low; order = own.order; right = own.right } in
    more (relation_text names r) (relation_texts names rs) r rs (plain_text (relation_text names r) (said names r meanings own).plain)
    (relation_spelled names r meanings own.low own.order own.high own.right own.some) lawful apart.0 (are_written names rs meanings h.1 apart.1)

-- the names as words of their line
letter_inside : (b : ℕ) → is_letter b ≡ true → not (is_blank b) ≡ true
letter_inside b h = grind (arith, nat_tests)

byte_inside : (b : ℕ) → is_name_byte b ≡ true → not (is_blank b) ≡ true
byte_inside b h = grind (arith, nat_tests)

one_of : (first : ℕ) (others : List ℕ) → is_letter first ≡ true → list_all is_name_byte others ≡ true → IsOne (first ∷ others)
one_of first others h k =
    let front : not (is_blank first) ≡ true = letter_inside first h in
    let rest : list_all (λ b. not (is_blank b)) others ≡ true = weaker is_name_byte (λ b. not (is_blank b)) others byte_inside k in
    record { some = omega arith; inside = rw (front, rest) refl }

abbrev IsNameText : List ℕ → Type 0
IsNameText w = IsOne w × (is_plain w ≡ true)

is_name_text : (names : List (List ℕ)) (g : ℕ) → IsWord names g → IsNameText (name_of names g)
is_name_text names g w = (subst IsOne (sym w.text) (one_of w.first w.others w.letter w.bytes), name_plain names g w)

each_of : (P : List ℕ → Type 0) (ws : List (List ℕ)) → ((k : ℕ) → k + 1 ≤ length ws → P (get_or ws k [])) → Each P ws
each_of P [] h = tt
each_of P (w ∷ ws) h = (h 0 (omega arith), each_of P ws (λ k l. h (suc k) (omega arith)))

name_texts : (names : List (List ℕ)) → AreWords names (length names) → Each IsNameText names
name_texts names meanings = each_of IsNameText names (λ k l.
    let back : (k + 1) - 1 ≡ k = omega arith in
    subst (λ (m : ℕ). IsNameText (get_or names m [])) back (is_name_text names (k + 1) (meanings (k + 1) (omega arith) l)))

ones : (ws : List (List ℕ)) → Each IsNameText ws → Each IsOne ws
ones [] h = tt
ones (w ∷ ws) h = (h.0.0, ones ws h.1)

spaced_plain : (ws : List (List ℕ)) → Each IsNameText ws → is_plain (spaced ws) ≡ true
spaced_plain [] h = refl
spaced_plain (w ∷ ws) h = plain-append w (spaced ws) h.0.1 (spaced_plain ws h.1)

generators_said : (p : Presented) → Each IsNameText p.names → IsSaid (generators_line p)
generators_said p h = record { plain = plain-append (codes "generators") (spaced p.names) refl (spaced_plain p.names h); says = refl }

generators_words : (p : Presented) → Each IsNameText p.names → words (generators_line p) ≡ codes "generators" ∷ p.names
generators_words p h =
    words-first (codes "generators") p.names (record { some = omega arith; inside = refl })
    ∙ ap (λ (ws : List (List ℕ)). codes "generators" ∷ ws) (words-spaced p.names (ones p.names h))

-- what is written says what was written
pub text_of-says : (p : Presented) → IsPresented p → IsFile p (text_of p)
text_of-says p h =
    let n : ℕ = length p.names in
    let meanings : AreWords p.names n = are_words p.names h.names in
    let names : Each IsNameText p.names = name_texts p.names meanings in
    let rs : List Relation = all_relations p n in
    let own : Each (IsOwn n) rs = own_relations p n h (omega arith) in
    let header : IsSaid (codes "nilpotent 1") = record { plain = refl; says = refl } in
    let generators : IsSaid (generators_line p) = generators_said p names in
    record {
      header = codes "nilpotent 1";
      generators = generators_line p;
      others = relation_lines p;
      texts = ap (λ (t : List ℕ). map (λ (l : Line). l.text) (content t)) (text_of-joined p)
          ∙ texts-joined (codes "nilpotent 1" ∷ generators_line p ∷ relation_lines p) (header, (generators, all_said p.names rs meanings own));
      header_text = refl;
      header_words = refl;
      generators_text = plain_text (generators_line p) generators.plain;
      generators_words = generators_words p names;
      relations = rs;
      are_relations = are_written p.names rs meanings own (relations_apart p n);
      lawful = h;
      rights = λ j i low order high. sym (given_relations p j i n low order high);
    }

pub text_again : {E : Type 0} (p : Presented) (r : Result (String Global) E) → IsPresented p → IfOk r (λ s. string_bytes s ≡ text_of p) → IfOk r (λ s. IsFile p (string_bytes s))
text_again p (Ok s) h own = subst (λ (bytes : List ℕ). IsFile p bytes) (sym own) (text_of-says p h)
text_again p (Err e) h own = tt
