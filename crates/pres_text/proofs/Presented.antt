-- The presentation of a file.
use Rattle.std.proofs.Common.{◌≡◌, ℕ, ◌+◌, ◌-◌, ◌<◌, ◌≤◌, not, nat_le, ◌&&◌, Bool, true, false, codes, List, [], ◌∷◌, ◌++◌, length, map, take, drop, get_or, Option, Some, None, unwrap_or, refl, sym, ◌∙◌, ap, subst, arith, append_assoc, length-append}
use Rattle.std.specs.List.{list_any}
use Rattle.std.specs.Str.{bytes_eq}
use Rattle.std.proofs.Math.Seq.{get_or-append_seam, take-append_seam}
use Rattle.std.proofs.lemmas.Bool.Decides.{nat_tests}
use Rattle.std.proofs.lemmas.List.{get_or-map, length-map, ext_get_or}
use Rattle.std.proofs.lemmas.Slice.Eq.{bytes_eq-Decides}
use Rattle.nil_pres.specs.declared.syllable.Syllable.{Syllable}
use Rattle.nil_pres.specs.Presented.{Draft, Presented, AreNames, IsPresented, is_name, added, right_of, rights_of, finished}
use Rattle.nil_pres.proofs.Naming.{absent_before}
use Rattle.pres_text.specs.declared.file_kind.FileKind.{FileKind}
use Rattle.pres_text.specs.declared.file_kind.FileKind.TheVariants as kind
use Rattle.pres_text.specs.Lines.{Line, lines, content, words, is_text}
use Rattle.pres_text.specs.RelationFaults.{broken}
use Rattle.pres_text.specs.FirstFault.{is_header, header_fault, name_fault, names_fault, first_of, generator_words_fault, generators_fault, names_of, at_line, relations_fault, second_fault, lines_fault, first_fault}
use Rattle.pres_text.specs.File.{Relation, right_given, AreRelations, IsFile}
use Rattle.pres_text.specs.Reading.{start, named, named_by, related, all_drafted}
use Rattle.pres_text.proofs.Drafts.{IsShaped, IsShaped-draft_of, draft_of}
use Rattle.pres_text.proofs.Whole.{broken-None, shaped, names_are, given_are, onto, related_agrees}
use Rattle.pres_text.proofs.Saying.{IsFound, or_else, relation_at, right_given-relation_at, at_line-None, relations_fault-None, all_new, relations_fine}

-- the right sides of a finished draft
right_of-finished : (d : Draft) (j i : ℕ) → IsShaped d → 1 ≤ i → i < j → j ≤ length d.names → right_of (finished d) i j ≡ unwrap_or (added d i j) []
right_of-finished d j i h low order high =
    let in_rows : j - 1 < length d.rights = omega (arith, h.rows) in
    let in_row : i - 1 < length (get_or d.rights (j - 1) []) = omega (arith, h.widths (j - 1) in_rows) in
    ap (λ (row : List (List Syllable)). get_or row (i - 1) []) (get_or-map (map (λ (right : Option (List Syllable)). unwrap_or right [])) d.rights (j - 1) [] [] in_rows)
    ∙ get_or-map (λ (right : Option (List Syllable)). unwrap_or right []) (get_or d.rights (j - 1) []) (i - 1) None [] in_row

pub or_else-None : (o : Option (List Syllable)) → or_else o None ≡ o
or_else-None None = refl
or_else-None (Some x) = refl

abbrev pub draft : List (List ℕ) → List Line → Draft
draft names ls = draft_of (named start names) (onto names [] ls)

rights_found : (names : List (List ℕ)) (ls : List Line) (rs : List Relation) → IsFound names [] ls rs → (j i : ℕ) → 1 ≤ i → i < j → j ≤ length names → right_of (finished (draft names ls)) i j ≡ right_given rs j i
rights_found names ls rs found j i low order high =
    let same : length (draft names ls).names ≡ length names = ap length (names_are names (onto names [] ls)) in
    right_of-finished (draft names ls) j i (IsShaped-draft_of (named start names) (onto names [] ls) (shaped names)) low order (omega (arith, same))
    ∙ ap (λ (o : Option (List Syllable)). unwrap_or o []) (given_are names (onto names [] ls) j i found.pairs (omega (arith, low, order)) low ∙ found.lookup j i ∙ or_else-None (relation_at rs j i))
    ∙ right_given-relation_at rs j i

-- the header
texts_same : (a b : List ℕ) → bytes_eq a b ≡ true → a ≡ b
texts_same a b h = (bytes_eq-Decides a b).0 h

both_true : (p q : Bool) → (p && q) ≡ true → (p ≡ true) × (q ≡ true)
both_true true q h = (refl, h)
both_true false q h = cc

turned : (q : Bool) → not q ≡ false → q ≡ true
turned true h = refl
turned false h = cc

is_header-words : (ws : List (List ℕ)) → is_header ws ≡ true → ws ≡ codes "nilpotent" ∷ codes "1" ∷ []
is_header-words [] h = cc
is_header-words (a ∷ []) h = cc
is_header-words (a ∷ b ∷ []) h =
    let own = both_true (bytes_eq a (codes "nilpotent")) (bytes_eq b (codes "1")) h in
    ap (λ (w : List ℕ). w ∷ b ∷ []) (texts_same a (codes "nilpotent") own.0) ∙ ap (λ (w : List ℕ). codes "nilpotent" ∷ w ∷ []) (texts_same b (codes "1") own.1)
is_header-words (a ∷ b ∷ c ∷ ws) h = cc

header_says : (text : List ℕ) → header_fault text ≡ None → (is_text text ≡ true) × (words text ≡ codes "nilpotent" ∷ codes "1" ∷ [])
header_says text h =
    let a = broken-None (not (is_text text)) kind.NotText _ h in
    let b = broken-None (not (is_header (words text))) kind.Header _ a.1 in
    (turned (is_text text) a.0, is_header-words (words text) (turned (is_header (words text)) b.0))

header_fine : (text : List ℕ) → is_text text ≡ true → words text ≡ codes "nilpotent" ∷ codes "1" ∷ [] → header_fault text ≡ None
header_fine text t e =
    ap (λ (q : Bool). broken (not q) kind.NotText (broken (not (is_header (words text))) kind.Header None)) t
    ∙ ap (λ (ws : List (List ℕ)). broken (not (is_header ws)) kind.Header None) e

-- the generators
words_say : (ws : List (List ℕ)) → generator_words_fault ws ≡ None → (ws ≡ codes "generators" ∷ drop 1 ws) × (1 ≤ length (drop 1 ws))
words_say [] h = cc
words_say (w ∷ []) h = cc
words_say (w ∷ name ∷ names) h =
    let a = broken-None (not (bytes_eq w (codes "generators"))) kind.Header _ h in
    (ap (λ (v : List ℕ). v ∷ name ∷ names) (texts_same w (codes "generators") (turned (bytes_eq w (codes "generators")) a.0)), omega arith)

generators_say : (text : List ℕ) → generators_fault text ≡ None → (is_text text ≡ true) × (words text ≡ codes "generators" ∷ names_of text) × (1 ≤ length (names_of text))
generators_say text h =
    let a = broken-None (not (is_text text)) kind.NotText _ h in
    (turned (is_text text) a.0, (words_say (words text) a.1).0, (words_say (words text) a.1).1)

name_fine : (pre ws : List (List ℕ)) (w : List ℕ) → AreNames (pre ++ w ∷ ws) → name_fault pre w ≡ None
name_fine pre ws w h =
    let n : length (pre ++ w ∷ ws) ≡ length pre + length (w ∷ ws) = length-append pre (w ∷ ws) in
    let within : length pre < length (pre ++ w ∷ ws) = omega arith in
    let here : get_or (pre ++ w ∷ ws) (length pre) [] ≡ w = get_or-append_seam pre w ws [] in
    let few : nat_le 48 (length pre) ≡ false = few_of (length pre) (omega (arith, h.few)) in
    let lawful : is_name w ≡ true = ap is_name (sym here) ∙ h.lawful (length pre) within in
    let free : list_any (bytes_eq w) pre ≡ false =
    ap (λ (ns : List (List ℕ)). list_any (bytes_eq w) ns) (sym (take-append_seam pre (w ∷ ws)))
    ∙ ap (λ (v : List ℕ). list_any (bytes_eq v) (take (length pre) (pre ++ w ∷ ws))) (sym here) ∙ absent_before (pre ++ w ∷ ws) (length pre) h within in
    ap (λ (q : Bool). broken q kind.TooMany (broken (not (is_name w)) kind.Name (broken (list_any (bytes_eq w) pre) kind.TwiceName None))) few
    ∙ ap (λ (q : Bool). broken (not q) kind.Name (broken (list_any (bytes_eq w) pre) kind.TwiceName None)) lawful
    ∙ ap (λ (q : Bool). broken q kind.TwiceName None) free
  where
    few_of : (n : ℕ) → n < 48 → nat_le 48 n ≡ false
    few_of n h = grind (arith, nat_tests)

names_fine : (pre ws : List (List ℕ)) → AreNames (pre ++ ws) → names_fault pre ws ≡ None
names_fine pre [] h = refl
names_fine pre (w ∷ ws) h =
    ap (λ (o : Option FileKind). first_of o (names_fault (pre ++ w ∷ []) ws)) (name_fine pre ws w h)
    ∙ names_fine (pre ++ w ∷ []) ws (subst AreNames (sym (append_assoc pre (w ∷ []) ws)) h)

generator_words_fine : (names : List (List ℕ)) → 1 ≤ length names → AreNames names → generator_words_fault (codes "generators" ∷ names) ≡ None
generator_words_fine [] some h = absurd (omega arith)
generator_words_fine (name ∷ names) some h = names_fine [] (name ∷ names) h

generators_fine : (text : List ℕ) (names : List (List ℕ)) → is_text text ≡ true → words text ≡ codes "generators" ∷ names → 1 ≤ length names → AreNames names → generators_fault text ≡ None
generators_fine text names t e some h =
    ap (λ (q : Bool). broken (not q) kind.NotText (generator_words_fault (words text))) t
    ∙ ap generator_words_fault e ∙ generator_words_fine names some h

-- a file without a fault
is_file_by : (file : List ℕ) (ls : List Line) (end : ℕ) → content file ≡ ls → lines_fault end ls ≡ None → IsPresented (finished (all_drafted ls)) → IsFile (finished (all_drafted ls)) file
is_file_by file [] end e h p = cc
is_file_by file (l ∷ []) end e h p =
    let a = at_line-None l.number (header_fault l.text) (second_fault end []) h in
    let no : ⊥ = cc in absurd no
is_file_by file (l ∷ g ∷ ls) end e h p =
    let names : List (List ℕ) = names_of g.text in
    let a = at_line-None l.number (header_fault l.text) _ h in
    let b = at_line-None g.number (generators_fault g.text) _ a.1 in
    let header = header_says l.text a.0 in
    let generators = generators_say g.text b.0 in
    let found = relations_fault-None ls names [] tt b.1 in
    let d_is : related (named_by g) ls ≡ draft names ls = related_agrees ls names [] in
    let names_is : (related (named_by g) ls).names ≡ names = ap (λ (d : Draft). d.names) d_is ∙ names_are names (onto names [] ls) in
    record {
      header = l.text;
      generators = g.text;
      others = map (λ m. m.text) ls;
      texts = ap (map (λ m. m.text)) e;
      header_text = header.0;
      header_words = header.1;
      generators_text = generators.0;
      generators_words = generators.1 ∙ ap (λ (ns : List (List ℕ)). codes "generators" ∷ ns) (sym names_is);
      relations = found.relations;
      are_relations = subst (λ (ns : List (List ℕ)). AreRelations ns (map (λ m. m.text) ls) found.relations) (sym names_is) found.are;
      lawful = p;
      rights = λ j i low order high.
          let few : j ≤ length names = subst (λ (ns : List (List ℕ)). j ≤ length ns) names_is high in
          ap (λ (d : Draft). right_of (finished d) i j) d_is ∙ rights_found names ls found.relations found.found j i low order few;
    }

pub is_file : (file : List ℕ) → first_fault file ≡ None → IsPresented (finished (all_drafted (content file))) → IsFile (finished (all_drafted (content file))) file
is_file file h p = is_file_by file (content file) (length (lines file) + 1) refl h p

some_names_by : (ls : List Line) (end : ℕ) → lines_fault end ls ≡ None → 1 ≤ length (all_drafted ls).names
some_names_by [] end h = let no : ⊥ = cc in absurd no
some_names_by (l ∷ []) end h =
    let a = at_line-None l.number (header_fault l.text) (second_fault end []) h in
    let no : ⊥ = cc in absurd no
some_names_by (l ∷ g ∷ ls) end h =
    let names : List (List ℕ) = names_of g.text in
    let a = at_line-None l.number (header_fault l.text) _ h in
    let b = at_line-None g.number (generators_fault g.text) _ a.1 in
    let generators = generators_say g.text b.0 in
    let same : (related (named_by g) ls).names ≡ names = ap (λ (d : Draft). d.names) (related_agrees ls names []) ∙ names_are names (onto names [] ls) in
    subst (λ (ns : List (List ℕ)). 1 ≤ length ns) (sym same) generators.2

pub some_names : (file : List ℕ) → first_fault file ≡ None → 1 ≤ length (all_drafted (content file)).names
some_names file h = some_names_by (content file) (length (lines file) + 1) h

-- presentations with the same names and right sides
before_one : (k : ℕ) → (k + 1) - 1 ≡ k
before_one k = omega arith

same_presented : (p q : Presented) → p.names ≡ q.names → length p.rights ≡ length p.names → length q.rights ≡ length q.names
    → ((k : ℕ) → k < length p.rights → length (get_or p.rights k []) ≡ k) → ((k : ℕ) → k < length q.rights → length (get_or q.rights k []) ≡ k)
    → ((j i : ℕ) → 1 ≤ i → i < j → j ≤ length p.names → right_of p i j ≡ right_of q i j) → p ≡ q
same_presented p q names rows_p rows_q widths_p widths_q same =
    let count : length p.rights ≡ length q.rights = rows_p ∙ ap length names ∙ sym rows_q in
    let rights : p.rights ≡ q.rights =
    ext_get_or [] p.rights q.rights count (λ k below.
    ext_get_or [] (get_or p.rights k []) (get_or q.rights k []) (widths_p k below ∙ sym (widths_q k (omega arith))) (λ m within.
    let small : m < k = omega (arith, widths_p k below) in
    ap (λ (a : ℕ). get_or (get_or p.rights a []) m []) (sym (before_one k)) ∙ ap (λ (b : ℕ). get_or (get_or p.rights ((k + 1) - 1) []) b []) (sym (before_one m))
    ∙ same (k + 1) (m + 1) (omega arith) (omega arith) (omega (arith, rows_p))
    ∙ ap (λ (a : ℕ). get_or (get_or q.rights a []) ((m + 1) - 1) []) (before_one k) ∙ ap (λ (b : ℕ). get_or (get_or q.rights k []) b []) (before_one m))) in
    ap (λ (ns : List (List ℕ)). record { names = ns; rights = p.rights }) names ∙ ap (λ (rs : List (List (List Syllable))). record { names = q.names; rights = rs }) rights

-- a file that says a presentation
pub record Reads (file : List ℕ) (p : Presented) : Type 0 where
  pub fine : first_fault file ≡ None
  pub same : finished (all_drafted (content file)) ≡ p

width-finished : (d : Draft) → IsShaped d → (k : ℕ) → k < length (rights_of d.rights) → length (get_or (rights_of d.rights) k []) ≡ k
width-finished d h k below =
    let n : length (rights_of d.rights) ≡ length d.rights = length-map d.rights (map (λ (right : Option (List Syllable)). unwrap_or right [])) in
    let in_rows : k < length d.rights = omega arith in
    ap length (get_or-map (map (λ (right : Option (List Syllable)). unwrap_or right [])) d.rights k [] [] in_rows)
    ∙ length-map (get_or d.rights k []) (λ (right : Option (List Syllable)). unwrap_or right []) ∙ h.widths k in_rows

pub drafted_is : (p : Presented) (names : List (List ℕ)) (ls : List Line) (rs : List Relation) → names ≡ p.names → IsPresented p → IsFound names [] ls rs
    → ((j i : ℕ) → 1 ≤ i → i < j → j ≤ length p.names → right_of p i j ≡ right_given rs j i) → finished (draft names ls) ≡ p
drafted_is p names ls rs same lawful found rights =
    let d : Draft = draft names ls in
    let shape = IsShaped-draft_of (named start names) (onto names [] ls) (shaped names) in
    let names_is : d.names ≡ names = names_are names (onto names [] ls) in
    same_presented (finished d) p (names_is ∙ same) (length-map d.rights (map (λ (right : Option (List Syllable)). unwrap_or right [])) ∙ shape.rows) lawful.rows
    (width-finished d shape) lawful.widths
    (λ j i low order high.
    let few : j ≤ length names = subst (λ (ns : List (List ℕ)). j ≤ length ns) names_is high in
    rights_found names ls rs found j i low order few ∙ sym (rights j i low order (subst (λ (ns : List (List ℕ)). j ≤ length ns) same few)))

reads_by : (p : Presented) (file : List ℕ) (ls : List Line) (end : ℕ) (says : IsFile p file) → map (λ l. l.text) ls ≡ says.header ∷ says.generators ∷ says.others
    → (lines_fault end ls ≡ None) × (finished (all_drafted ls) ≡ p)
reads_by p file [] end says e = cc
reads_by p file (l ∷ []) end says e = cc
reads_by p file (l ∷ g ∷ ls) end says e =
    let l_is : says.header ≡ l.text = cc in
    let g_is : says.generators ≡ g.text = cc in
    let ls_is : says.others ≡ map (λ m. m.text) ls = cc in
    let g_words : words g.text ≡ codes "generators" ∷ p.names = ap words (sym g_is) ∙ says.generators_words in
    let names_is : names_of g.text ≡ p.names = ap (drop 1) g_words in
    let are : AreRelations (names_of g.text) (map (λ m. m.text) ls) says.relations =
    subst (λ (ns : List (List ℕ)). AreRelations ns (map (λ m. m.text) ls) says.relations) (sym names_is)
    (subst (λ (ts : List (List ℕ)). AreRelations p.names ts says.relations) ls_is says.are_relations) in
    let rest = relations_fine ls (names_of g.text) [] says.relations are (all_new says.relations) tt in (
      ap (λ (o : Option FileKind). at_line l.number o (second_fault end (g ∷ ls))) (header_fine l.text (ap is_text (sym l_is) ∙ says.header_text) (ap words (sym l_is) ∙ says.header_words))
          ∙ ap (λ (o : Option FileKind). at_line g.number o (relations_fault (names_of g.text) [] ls))
          (generators_fine g.text p.names (ap is_text (sym g_is) ∙ says.generators_text) g_words says.lawful.some says.lawful.names)
          ∙ rest.0,
      ap finished (related_agrees ls (names_of g.text) []) ∙ drafted_is p (names_of g.text) ls says.relations names_is says.lawful rest.1 says.rights,
    )

pub reads : (p : Presented) (file : List ℕ) → IsFile p file → Reads file p
reads p file says =
    let own = reads_by p file (content file) (length (lines file) + 1) says says.texts in
    record { fine = own.0; same = own.1 }
