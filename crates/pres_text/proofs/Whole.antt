-- The first fault of a draft is that of the file, and the draft has the relations of the lines.
use Rattle.std.proofs.Common.{◌≡◌, ℕ, ◌<◌, ◌≤◌, ◌==◌, ◌||◌, not, nat_le, Bool, true, false, if◌then◌else◌, List, [], ◌∷◌, length, Option, Some, None, option_map, is_some, refl, sym, ◌∙◌, ap, subst, arith}
use Rattle.std.proofs.lemmas.Bool.Decides.{nat_tests}
use Rattle.nil_pres.specs.Presented.{Draft, added}
use Rattle.pres_text.specs.declared.file_kind.FileKind.{FileKind}
use Rattle.pres_text.specs.declared.file_kind.FileKind.TheVariants as kind
use Rattle.pres_text.specs.declared.pres_fault.PresFault.{PresFault}
use Rattle.pres_text.specs.declared.pres_fault.PresFault.TheVariants.{File}
use Rattle.pres_text.specs.Lines.{Line, is_text}
use Rattle.pres_text.specs.Relation.{Spelled, spelling_of}
use Rattle.pres_text.specs.Spelling.{spelled_clipped}
use Rattle.pres_text.specs.RelationFaults.{broken, has_unknown, is_given, right_fault, relation_fault, spelled_fault, line_fault, with_given}
use Rattle.pres_text.specs.FirstFault.{first_of, at_line, relations_fault, second_fault, lines_fault, header_fault, generators_fault, names_of}
use Rattle.pres_text.specs.Reading.{start, named, found_fault, drafted_fault, with_found, with_line, rest_fault, related, second_drafted_fault, all_drafted_fault}
use Rattle.pres_text.proofs.Known.{found_known}
use Rattle.pres_text.proofs.Agreement.{at, AgreesOnFound, found_fault-spelled_fault}
use Rattle.pres_text.proofs.Drafts.{IsShaped, IsShaped-named, names-named, added-named, IsPair, ArePairs, draft_of, given_in, names-draft_of, added-draft_of, given_in-is_given}

-- no fault, rule by rule
pub broken-None : (q : Bool) (k : FileKind) (later : Option FileKind) → broken q k later ≡ None → (q ≡ false) × (later ≡ None)
broken-None true k later h = cc
broken-None false k later h = (refl, h)

pub record IsFine (given : List Spelled) (s : Spelled) : Type 0 where
  pub known : has_unknown s ≡ false
  pub order : nat_le s.above s.below ≡ false
  pub new : is_given given s.above s.below ≡ false
  pub right : right_fault s.above s.right ≡ None

relation_fault-None : (given : List Spelled) (s : Spelled) → relation_fault given s ≡ None → IsFine given s
relation_fault-None given s h =
    let a = broken-None (has_unknown s) kind.Name _ h in
    let b = broken-None (nat_le s.above s.below) kind.Order _ a.1 in
    let c = broken-None (is_given given s.above s.below) kind.Twice _ b.1 in
    record { known = a.0; order = b.0; new = c.0; right = c.1 }

-- what a line without a fault says
pub record Says (names : List (List ℕ)) (given : List Spelled) (text : List ℕ) : Type 0 where
  pub is_text : is_text text ≡ true
  pub relation : Spelled
  pub spelled : spelling_of names text ≡ Some relation
  pub fine : IsFine given relation

not_false : (q : Bool) → not q ≡ false → q ≡ true
not_false true h = refl
not_false false h = cc

says_by : (names : List (List ℕ)) (given : List Spelled) (text : List ℕ) (o : Option Spelled) → spelling_of names text ≡ o → is_text text ≡ true → spelled_fault given o ≡ None → Says names given text
says_by names given text None e t h = cc
says_by names given text (Some s) e t h = record { is_text = t; relation = s; spelled = e; fine = relation_fault-None given s h }

pub line_fault-None : (names : List (List ℕ)) (given : List Spelled) (text : List ℕ) → line_fault names given text ≡ None → Says names given text
line_fault-None names given text h =
    let a = broken-None (not (is_text text)) kind.NotText _ h in
    says_by names given text (spelling_of names text) refl (not_false (is_text text) a.0) a.1

-- the numbers of known names
known_numbers : (a b : ℕ) (c : Bool) → ((a == 0) || (b == 0) || c) ≡ false → (1 ≤ a) × (1 ≤ b)
known_numbers a b c h = (grind (arith, nat_tests), grind (arith, nat_tests))

ordered : (a b : ℕ) → nat_le a b ≡ false → b < a
ordered a b h = grind (arith, nat_tests)

pub IsPair-spelled : (names : List (List ℕ)) (text : List ℕ) (s : Spelled) → spelling_of names text ≡ Some s → has_unknown s ≡ false → nat_le s.above s.below ≡ false → IsPair (length names) s
IsPair-spelled names text s e known order = record {
  low = (known_numbers s.above s.below _ known).1;
  order = ordered s.above s.below order;
  high = (found_known names text (spelled_clipped s) (ap (option_map spelled_clipped) (sym e))).above;
}

-- the draft of names
IsShaped-start : IsShaped start
IsShaped-start = record { rows = refl; widths = λ k l. absurd (omega arith) }

pub shaped : (names : List (List ℕ)) → IsShaped (named start names)
shaped names = IsShaped-named start names IsShaped-start

pub names_are : (names : List (List ℕ)) (given : List Spelled) → (draft_of (named start names) given).names ≡ names
names_are names given = names-draft_of (named start names) given ∙ names-named start names

pub given_are : (names : List (List ℕ)) (given : List Spelled) (k l : ℕ) → ArePairs (length names) given → 1 ≤ k → 1 ≤ l → added (draft_of (named start names) given) l k ≡ given_in given k l
given_are names given k l pairs a b =
    let own : ArePairs (length (named start names).names) given = subst (λ (ns : List (List ℕ)). ArePairs (length ns) given) (sym (names-named start names)) pairs in
    added-draft_of (named start names) given k l (shaped names) (added-named start names (λ m n. refl)) own a b

agrees_by : (names : List (List ℕ)) (given : List Spelled) (text : List ℕ) (o : Option Spelled) → spelling_of names text ≡ o → ArePairs (length names) given → AgreesOnFound (draft_of (named start names) given) given o
agrees_by names given text None e pairs = tt
agrees_by names given text (Some s) e pairs = λ known order.
    let pair = IsPair-spelled names text s e known order in
    ap is_some (given_are names given s.above s.below pairs (omega (arith, pair.low, pair.order)) pair.low) ∙ given_in-is_given given s.above s.below

text_by : (n : ℕ) (q : Bool) (x : Option PresFault) (y : Option FileKind) → x ≡ at n y → (if q then Some (File n kind.NotText) else x) ≡ at n (broken q kind.NotText y)
text_by n true x y h = refl
text_by n false x y h = h

line_agrees : (names : List (List ℕ)) (given : List Spelled) (l : Line) → ArePairs (length names) given → drafted_fault (draft_of (named start names) given) l ≡ at l.number (line_fault names given l.text)
line_agrees names given l pairs =
    let d : Draft = draft_of (named start names) given in
    text_by l.number (not (is_text l.text)) (found_fault l.number d (option_map spelled_clipped (spelling_of d.names l.text))) (spelled_fault given (spelling_of names l.text))
    (ap (λ (ns : List (List ℕ)). found_fault l.number d (option_map spelled_clipped (spelling_of ns l.text))) (names_are names given)
    ∙ found_fault-spelled_fault l.number d given (spelling_of names l.text) (agrees_by names given l.text (spelling_of names l.text) refl pairs))

with_found-given : (d : Draft) (given : List Spelled) (o : Option Spelled) → with_found (draft_of d given) (option_map spelled_clipped o) ≡ draft_of d (with_given o given)
with_found-given d given None = refl
with_found-given d given (Some s) = refl

with_line-given : (names : List (List ℕ)) (given : List Spelled) (l : Line) → with_line (draft_of (named start names) given) l ≡ draft_of (named start names) (with_given (spelling_of names l.text) given)
with_line-given names given l =
    ap (λ (ns : List (List ℕ)). with_found (draft_of (named start names) given) (option_map spelled_clipped (spelling_of ns l.text))) (names_are names given)
    ∙ with_found-given (named start names) given (spelling_of names l.text)

pub pairs_with : (names : List (List ℕ)) (given : List Spelled) (text : List ℕ) → ArePairs (length names) given → line_fault names given text ≡ None → ArePairs (length names) (with_given (spelling_of names text) given)
pairs_with names given text pairs h =
    let says = line_fault-None names given text h in
    subst (λ (o : Option Spelled). ArePairs (length names) (with_given o given)) (sym says.spelled)
    (IsPair-spelled names text says.relation says.spelled says.fine.known says.fine.order, pairs)

at_line-same : (n : ℕ) (o : Option FileKind) (x y : Option PresFault) → (o ≡ None → x ≡ y) → first_of (at n o) x ≡ at_line n o y
at_line-same n None x y h = h refl
at_line-same n (Some k) x y h = refl

rest_agrees : (ls : List Line) (names : List (List ℕ)) (given : List Spelled) → ArePairs (length names) given → rest_fault (draft_of (named start names) given) ls ≡ relations_fault names given ls
rest_agrees [] names given pairs = refl
rest_agrees (l ∷ ls) names given pairs =
    ap (λ o. first_of o (rest_fault (with_line (draft_of (named start names) given) l) ls)) (line_agrees names given l pairs)
    ∙ at_line-same l.number (line_fault names given l.text) (rest_fault (with_line (draft_of (named start names) given) l) ls) (relations_fault names (with_given (spelling_of names l.text) given) ls)
    (λ h. ap (λ d. rest_fault d ls) (with_line-given names given l) ∙ rest_agrees ls names (with_given (spelling_of names l.text) given) (pairs_with names given l.text pairs h))

-- the relations of lines, the latest first, before those that were given
abbrev pub onto : List (List ℕ) → List Spelled → List Line → List Spelled
onto names given [] = given
onto names given (l ∷ ls) = onto names (with_given (spelling_of names l.text) given) ls

pub related_agrees : (ls : List Line) (names : List (List ℕ)) (given : List Spelled) → related (draft_of (named start names) given) ls ≡ draft_of (named start names) (onto names given ls)
related_agrees [] names given = refl
related_agrees (l ∷ ls) names given = ap (λ d. related d ls) (with_line-given names given l) ∙ related_agrees ls names (with_given (spelling_of names l.text) given)

second_agrees : (end : ℕ) (ls : List Line) → second_drafted_fault end ls ≡ second_fault end ls
second_agrees end [] = refl
second_agrees end (l ∷ ls) = ap (at_line l.number (generators_fault l.text)) (rest_agrees ls (names_of l.text) [] tt)

pub all_agrees : (end : ℕ) (ls : List Line) → all_drafted_fault end ls ≡ lines_fault end ls
all_agrees end [] = refl
all_agrees end (l ∷ ls) = ap (at_line l.number (header_fault l.text)) (second_agrees end ls)
