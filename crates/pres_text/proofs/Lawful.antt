-- A file without a fault says a lawful presentation.
use Rattle.std.proofs.Common.{◌≡◌, ℕ, ◌+◌, ◌==◌, ◌&&◌, not, Bool, true, false, codes, List, [], ◌∷◌, ◌++◌, length, map, drop, Option, Some, None, IfSome, option_map, if◌then◌else◌, refl, sym, ◌∙◌, subst, arith, append_assoc, append-nil}
use Rattle.std.specs.Str.{bytes_eq}
use Rattle.std.proofs.lemmas.Bool.Decides.{nat_tests}
use Rattle.nil_pres.specs.declared.syllable.Syllable.{Syllable}
use Rattle.nil_pres.specs.declared.name_fault.NameFault.{NameFault}
use Rattle.nil_pres.specs.Rights.{IsRight}
use Rattle.nil_pres.specs.Presented.{AreNames, IsDraft, added, name_fault_among, finished}
use Rattle.nil_pres.proofs.Naming.{AreNames-append}
use Rattle.nil_pres.proofs.Reading.{IsPresented-finished}
use Rattle.pres_text.specs.declared.file_kind.FileKind.{FileKind}
use Rattle.pres_text.specs.declared.file_kind.FileKind.TheVariants as kind
use Rattle.pres_text.specs.declared.pres_fault.PresFault.TheVariants.{File}
use Rattle.pres_text.specs.Lines.{Line, lines, content, words, is_text}
use Rattle.pres_text.specs.FirstFault.{header_fault, name_fault, names_fault, first_of, generator_words_fault, generators_fault, names_of, second_fault, lines_fault, first_fault}
use Rattle.pres_text.specs.File.{Relation, AreRelations, none, more, IsFile}
use Rattle.pres_text.specs.Reading.{name_fault_at, all_drafted, start, named}
use Rattle.pres_text.proofs.Faults.{name_fault-builder}
use Rattle.pres_text.proofs.Drafts.{IsShaped-draft_of}
use Rattle.pres_text.proofs.Whole.{broken-None, shaped, names_are, given_are, onto, related_agrees}
use Rattle.pres_text.proofs.Saying.{IsFound, relation_at, at_line-None, relations_fault-None}
use Rattle.pres_text.proofs.Presented.{draft, or_else-None, is_file, some_names}

none_fault : (n : ℕ) (o : Option FileKind) (f : Option NameFault) → option_map (File n) o ≡ option_map (name_fault_at n) f → o ≡ None → f ≡ None
none_fault n None None e h = refl
none_fault n None (Some x) e h = let no : ⊥ = cc in absurd no
none_fault n (Some k) f e h = cc

first_of-None : (o later : Option FileKind) → first_of o later ≡ None → (o ≡ None) × (later ≡ None)
first_of-None None later h = (refl, h)
first_of-None (Some k) later h = cc

AreNames-none : AreNames []
AreNames-none = record {
  few = omega arith;
  lawful = λ k l. absurd (omega arith);
  different = λ k l a b. absurd (omega arith);
}

AreNames-names_fault : (pre ws : List (List ℕ)) → AreNames pre → names_fault pre ws ≡ None
    → AreNames (pre ++ ws)
AreNames-names_fault pre [] h e = subst AreNames (sym (append-nil pre)) h
AreNames-names_fault pre (w ∷ ws) h e =
    let a = first_of-None (name_fault pre w) (names_fault (pre ++ w ∷ []) ws) e in
    let own = none_fault 0 (name_fault pre w) (name_fault_among pre w) (name_fault-builder 0 pre w) a.0 in
    subst AreNames (append_assoc pre (w ∷ []) ws)
    (AreNames-names_fault (pre ++ w ∷ []) ws (AreNames-append pre w h own) a.1)

words_lawful : (ws : List (List ℕ)) → generator_words_fault ws ≡ None → AreNames (drop 1 ws)
words_lawful [] h = cc
words_lawful (w ∷ []) h = cc
words_lawful (w ∷ name ∷ names) h =
    let a = broken-None (not (bytes_eq w (codes "generators"))) kind.Header _ h in
    AreNames-names_fault [] (name ∷ names) AreNames-none a.1

AreNames-names_of : (text : List ℕ) → generators_fault text ≡ None → AreNames (names_of text)
AreNames-names_of text h = words_lawful (words text) (broken-None (not (is_text text)) kind.NotText _ h).1

both : (a b c d : ℕ) → ((a == b) && (c == d)) ≡ true → a ≡ b
both a b c d h = grind (arith, nat_tests)

-- each right side that is given is lawful
right_by : (q : Bool) (n j i : ℕ) (r : Relation) (o : Option (List Syllable)) → ((r.above == j) && (r.below == i)) ≡ q
    → IsRight r.above n r.right → IfSome o (IsRight j n) → IfSome (if q then Some r.right else o) (IsRight j n)
right_by true n j i r o e h k = subst (λ (a : ℕ). IsRight a n r.right) (both r.above j r.below i e) h
right_by false n j i r o e h k = k

rights_lawful : (names texts : List (List ℕ)) (rs : List Relation) → AreRelations names texts rs → (j i : ℕ)
    → IfSome (relation_at rs j i) (IsRight j (length names))
rights_lawful names _ _ none j i = tt
rights_lawful names _ _ (more text texts r rs t d lawful apart are) j i =
    right_by ((r.above == j) && (r.below == i)) (length names) j i r (relation_at rs j i) refl lawful.right
    (rights_lawful names texts rs are j i)

IsDraft-draft : (names : List (List ℕ)) (ls : List Line) (rs : List Relation) → AreNames names
    → AreRelations names (map (λ l. l.text) ls) rs → IsFound names [] ls rs → IsDraft (draft names ls)
IsDraft-draft names ls rs h are found =
    let given = onto names [] ls in
    let same : (draft names ls).names ≡ names = names_are names given in
    let shape = IsShaped-draft_of (named start names) given (shaped names) in
    record {
      names = subst AreNames (sym same) h;
      rows = shape.rows;
      widths = shape.widths;
      lawful = λ i j low order.
          let at : added (draft names ls) i j ≡ relation_at rs j i =
          given_are names given j i found.pairs (omega (arith, low, order)) low ∙ found.lookup j i ∙ or_else-None (relation_at rs j i) in
          subst (λ (ns : List (List ℕ)). IfSome (added (draft names ls) i j) (IsRight j (length ns))) (sym same)
          (subst (λ (o : Option (List Syllable)). IfSome o (IsRight j (length names))) (sym at) (rights_lawful names (map (λ l. l.text) ls) rs are j i));
    }

lawful_by : (ls : List Line) (end : ℕ) → lines_fault end ls ≡ None → IsDraft (all_drafted ls)
lawful_by [] end h = let no : ⊥ = cc in absurd no
lawful_by (l ∷ []) end h =
    let a = at_line-None l.number (header_fault l.text) (second_fault end []) h in
    let no : ⊥ = cc in absurd no
lawful_by (l ∷ g ∷ ls) end h =
    let names : List (List ℕ) = names_of g.text in
    let a = at_line-None l.number (header_fault l.text) _ h in
    let b = at_line-None g.number (generators_fault g.text) _ a.1 in
    let found = relations_fault-None ls names [] tt b.1 in
    subst IsDraft (sym (related_agrees ls names []))
    (IsDraft-draft names ls found.relations (AreNames-names_of g.text b.0) found.are found.found)

-- a file without a fault says its draft
pub file_of : (file : List ℕ) → first_fault file ≡ None → IsFile (finished (all_drafted (content file))) file
file_of file h =
    is_file file h
    (IsPresented-finished (all_drafted (content file)) (lawful_by (content file) (length (lines file) + 1) h) (some_names file h))
