-- A file without a fault says its presentation, and what a file says has no fault.
use Rattle.std.proofs.Common.{◌≡◌, ◌≢◌, ℕ, zero, suc, ◌-◌, ◌^◌, ◌<◌, ◌≤◌, ◌==◌, ◌&&◌, ◌||◌, not, nat_le, Bool, true, false, if◌then◌else◌, ℤ, pos, negsuc, unsigned_abs, List, [], ◌∷◌, length, map, Option, Some, None, option_map, unwrap_or, refl, sym, ◌∙◌, ap, subst, arith}
use Rattle.std.specs.List.{list_any}
use Rattle.std.proofs.lemmas.Bool.Decides.{nat_tests}
use Rattle.nil_pres.specs.declared.syllable.Syllable.{Syllable}
use Rattle.nil_pres.specs.Rights.{AreUpTo, IsRight}
use Rattle.pres_text.specs.Lines.{Line, is_text}
use Rattle.pres_text.specs.Relation.{Power, Spelled, IsSpelled, relation_word, spelling_of}
use Rattle.pres_text.specs.Spelling.{clipped, syllable_of, syllables_of, spelled_clipped}
use Rattle.pres_text.specs.RelationFaults.{broken, is_exponent, is_zero, has_unknown, is_given, right_fault, spelled_fault, line_fault, with_given}
use Rattle.pres_text.specs.FirstFault.{at_line, relations_fault}
use Rattle.pres_text.specs.declared.file_kind.FileKind.{FileKind}
use Rattle.pres_text.specs.declared.file_kind.FileKind.TheVariants as kind
use Rattle.pres_text.specs.File.{Relation, power_of, spelled_as, right_given, IsApart, AreRelations, none, more}
use Rattle.line_tokens.specs.Tokens.{kinds}
use Rattle.pres_text.proofs.Grammar.{spelled_by-sound, spelled_by-complete}
use Rattle.pres_text.proofs.Known.{found_known}
use Rattle.pres_text.proofs.Drafts.{ArePairs, given_in}
use Rattle.pres_text.proofs.Whole.{broken-None, line_fault-None, IsPair-spelled, onto}

-- powers without a fault are syllables
is_inside : (e : ℤ) → nat_le (unsigned_abs e) (2 ^ 63 - 1) ≡ true → unsigned_abs e ≤ 2 ^ 63 - 1
is_inside e h = grind (arith, nat_tests)

nonzero : (e : ℤ) → (unsigned_abs e == 0) ≡ false → e ≢ pos 0
nonzero (pos n) h e = let z : n ≡ 0 = cc in let t : (n == 0) ≡ true = grind (arith, nat_tests) in cc
nonzero (negsuc n) h e = cc

pub record IsPowerOf (e : Option ℤ) : Type 0 where
  pub same : Some (clipped e) ≡ e
  pub small : unsigned_abs (clipped e) ≤ 2 ^ 63 - 1
  pub some : clipped e ≢ pos 0

power_some : (q : Bool) (e : ℤ) → nat_le (unsigned_abs e) (2 ^ 63 - 1) ≡ q → not q ≡ false → (unsigned_abs e == 0) ≡ false
    → (Some (if q then e else negsuc (2 ^ 63 - 1)) ≡ Some e) × (unsigned_abs (if q then e else negsuc (2 ^ 63 - 1)) ≤ 2 ^ 63 - 1) × ((if q then e else negsuc (2 ^ 63 - 1)) ≢ pos 0)
power_some true e h k z = (refl, is_inside e h, nonzero e z)
power_some false e h k z = cc

power_is : (e : Option ℤ) → not (is_exponent e) ≡ false → is_zero e ≡ false → IsPowerOf e
power_is None h z = cc
power_is (Some e) h z =
    let own = power_some (nat_le (unsigned_abs e) (2 ^ 63 - 1)) e refl h z in
    record { same = own.0; small = own.1; some = own.2 }

is_above : (a b : ℕ) → nat_le a b ≡ false → b < a
is_above a b h = grind (arith, nat_tests)

-- a right side without a fault
pub right_fault-None : (n last : ℕ) (ps : List Power) → right_fault last ps ≡ None → AreUpTo n (syllables_of ps) → (map power_of (syllables_of ps) ≡ ps) × IsRight last n (syllables_of ps)
right_fault-None n last [] h up = (refl, tt)
right_fault-None n last (p ∷ ps) h up =
    let a = broken-None (nat_le p.number last) kind.Above _ h in
    let b = broken-None (not (is_exponent p.exponent)) kind.Number _ a.1 in
    let c = broken-None (is_zero p.exponent) kind.Zero _ b.1 in
    let own = power_is p.exponent b.0 c.0 in
    let rest = right_fault-None n p.number ps c.1 (λ k d l. up (suc k) d (omega arith)) in (
      ap (λ (e : Option ℤ). record { number = p.number; exponent = e } ∷ map power_of (syllables_of ps)) own.same ∙ ap (λ (qs : List Power). p ∷ qs) rest.0,
      (is_above p.number last a.0, up 0 (syllable_of p) (omega arith), own.some, own.small, rest.1),
    )

-- and the other way round
exponent_of : (e : ℤ) → unsigned_abs e ≤ 2 ^ 63 - 1 → is_exponent (Some e) ≡ true
exponent_of e h = grind (arith, nat_tests)

not_zero : (e : ℤ) → e ≢ pos 0 → is_zero (Some e) ≡ false
not_zero (pos zero) h = absurd (h refl)
not_zero (pos (suc n)) h = grind (arith, nat_tests)
not_zero (negsuc n) h = grind (arith, nat_tests)

not_above : (a b : ℕ) → b < a → nat_le a b ≡ false
not_above a b h = grind (arith, nat_tests)

clipped-exponent : (e : ℤ) → is_exponent (Some e) ≡ true → clipped (Some e) ≡ e
clipped-exponent e h = ap (λ (q : Bool). if q then e else negsuc (2 ^ 63 - 1)) h

positive : (a : ℕ) → 1 ≤ a → (a == 0) ≡ false
positive a h = grind (arith, nat_tests)

pub record IsRightFine (last : ℕ) (right : List Syllable) : Type 0 where
  pub fault : right_fault last (map power_of right) ≡ None
  pub same : syllables_of (map power_of right) ≡ right
  pub known : list_any (λ p. p.number == 0) (map power_of right) ≡ false

pub right_fine : (n last : ℕ) (right : List Syllable) → IsRight last n right → IsRightFine last right
right_fine n last [] h = record { fault = refl; same = refl; known = refl }
right_fine n last (s ∷ right) h =
    let rest = right_fine n s.number right h.4 in
    let inside = exponent_of s.exp h.3 in
    let a = not_above s.number last h.0 in
    let z = not_zero s.exp h.2 in
    record {
      fault = rw (a, inside, z) rest.fault;
      same = ap (λ (e : ℤ). record { number = s.number; exp = e } ∷ syllables_of (map power_of right)) (clipped-exponent s.exp inside) ∙ ap (λ (ss : List Syllable). s ∷ ss) rest.same;
      known = ap (λ (q : Bool). q || list_any (λ p. p.number == 0) (map power_of right)) (positive s.number (omega (arith, h.0))) ∙ rest.known;
    }

-- no relation of these is given yet
abbrev pub AreNew : List Spelled → List Relation → Type 0
AreNew given [] = Unit {0}
AreNew given (r ∷ rs) = (is_given given r.above r.below ≡ false) × AreNew given rs

abbrev pub relation_at : List Relation → ℕ → ℕ → Option (List Syllable)
relation_at [] k l = None
relation_at (r ∷ rs) k l = if (r.above == k) && (r.below == l) then Some r.right else relation_at rs k l

abbrev pub or_else : Option (List Syllable) → Option (List Syllable) → Option (List Syllable)
or_else None later = later
or_else (Some x) later = Some x

pub right_given-relation_at : (rs : List Relation) (k l : ℕ) → unwrap_or (relation_at rs k l) [] ≡ right_given rs k l
right_given-relation_at [] k l = refl
right_given-relation_at (r ∷ rs) k l = right_by ((r.above == k) && (r.below == l)) (right_given-relation_at rs k l)
  where
    right_by : (q : Bool) → unwrap_or (relation_at rs k l) [] ≡ right_given rs k l → unwrap_or (if q then Some r.right else relation_at rs k l) [] ≡ (if q then r.right else right_given rs k l)
    right_by true h = refl
    right_by false h = h

both : (a b c d : ℕ) → ((a == b) && (c == d)) ≡ true → (a ≡ b) × (c ≡ d)
both a b c d h = (grind (arith, nat_tests), grind (arith, nat_tests))

not_both : (a b c d : ℕ) → (a ≡ b → c ≡ d → ⊥) → ((a == b) && (c == d)) ≡ false
not_both a b c d h = grind (arith, nat_tests)

relation_at-apart : (r : Relation) (rs : List Relation) (k l : ℕ) → IsApart r rs → r.above ≡ k → r.below ≡ l → relation_at rs k l ≡ None
relation_at-apart r [] k l h a b = refl
relation_at-apart r (s ∷ rs) k l h a b =
    let e : ((s.above == k) && (s.below == l)) ≡ false = not_both s.above k s.below l (λ x y. h.0 (x ∙ sym a) (y ∙ sym b)) in
    ap (λ (q : Bool). if q then Some s.right else relation_at rs k l) e ∙ relation_at-apart r rs k l h.1 a b

or_else_by : (q : Bool) (r : Relation) (rs : List Relation) (k l : ℕ) (later : Option (List Syllable)) → ((r.above == k) && (r.below == l)) ≡ q → IsApart r rs
    → or_else (relation_at rs k l) (if q then Some r.right else later) ≡ or_else (if q then Some r.right else relation_at rs k l) later
or_else_by true r rs k l later h apart = let e = both r.above k r.below l h in ap (λ (o : Option (List Syllable)). or_else o (Some r.right)) (relation_at-apart r rs k l apart e.0 e.1)
or_else_by false r rs k l later h apart = refl

-- what is given with lines is what their relations say, before what was given
pub record IsFound (names : List (List ℕ)) (given : List Spelled) (ls : List Line) (relations : List Relation) : Type 0 where
  pub pairs : ArePairs (length names) (onto names given ls)
  pub lookup : (k l : ℕ) → given_in (onto names given ls) k l ≡ or_else (relation_at relations k l) (given_in given k l)

-- the relations that lines say
pub record Relates (names : List (List ℕ)) (given : List Spelled) (ls : List Line) : Type 0 where
  pub relations : List Relation
  pub are : AreRelations names (map (λ l. l.text) ls) relations
  pub new : AreNew given relations
  pub found : IsFound names given ls relations

split_new : (s : Spelled) (given : List Spelled) (r : Relation) (rs : List Relation) → r.above ≡ s.above → r.below ≡ s.below → AreNew (s ∷ given) rs → AreNew given rs × IsApart r rs
split_new s given r [] a b h = (tt, tt)
split_new s given r (t ∷ rs) a b h =
    let rest = split_new s given r rs a b h.1 in
    let own = either_false ((s.above == t.above) && (s.below == t.below)) (is_given given t.above t.below) h.0 in
    ((own.1, rest.0), (λ x y. differs s.above t.above s.below t.below own.0 (sym a ∙ sym x) (sym b ∙ sym y), rest.1))
  where
    either_false : (p q : Bool) → (p || q) ≡ false → (p ≡ false) × (q ≡ false)
    either_false true q h = cc
    either_false false q h = (refl, h)

    differs : (a b c d : ℕ) → ((a == b) && (c == d)) ≡ false → a ≡ b → c ≡ d → ⊥
    differs a b c d h e f = let t : ((a == b) && (c == d)) ≡ true = grind (arith, nat_tests) in cc

pub at_line-None : (n : ℕ) (o : Option FileKind) (later : _) → at_line n o later ≡ None → (o ≡ None) × (later ≡ None)
at_line-None n None later h = (refl, h)
at_line-None n (Some k) later h = cc

pub relations_fault-None : (ls : List Line) (names : List (List ℕ)) (given : List Spelled) → ArePairs (length names) given → relations_fault names given ls ≡ None → Relates names given ls
relations_fault-None [] names given pairs h = record { relations = []; are = none; new = tt; found = record { pairs = pairs; lookup = λ k l. refl } }
relations_fault-None (l ∷ ls) names given pairs h =
    let a = at_line-None l.number (line_fault names given l.text) _ h in
    let says = line_fault-None names given l.text a.0 in
    let s : Spelled = says.relation in
    let up = found_known names l.text (spelled_clipped s) (ap (option_map spelled_clipped) (sym says.spelled)) in
    let right = right_fault-None (length names) s.above s.right says.fine.right up.right in
    let r : Relation = record { above = s.above; below = s.below; right = syllables_of s.right } in
    let same : spelled_as r ≡ s = ap (λ (ps : List Power). record { above = s.above; below = s.below; right = ps }) right.0 in
    let pair = IsPair-spelled names l.text s says.spelled says.fine.known says.fine.order in
    let onto_is : with_given (spelling_of names l.text) given ≡ s ∷ given = ap (λ o. with_given o given) says.spelled in
    let later : relations_fault names (s ∷ given) ls ≡ None = subst (λ (g : List Spelled). relations_fault names g ls ≡ None) onto_is a.1 in
    let rest = relations_fault-None ls names (s ∷ given) (pair, pairs) later in
    let own = split_new s given r rest.relations refl refl rest.new in
    record {
      relations = r ∷ rest.relations;
      are = more l.text (map (λ l. l.text) ls) r rest.relations says.is_text
          (subst (IsSpelled (kinds (relation_word names) l.text)) (sym same) (spelled_by-sound (kinds (relation_word names) l.text) s says.spelled))
          (record { low = pair.low; order = pair.order; right = right.1 }) own.1 rest.are;
      new = (says.fine.new, own.0);
      found = record {
        pairs = subst (λ (g : List Spelled). ArePairs (length names) (onto names g ls)) (sym onto_is) rest.found.pairs;
        lookup = λ k m.
            ap (λ (g : List Spelled). given_in (onto names g ls) k m) onto_is ∙ rest.found.lookup k m
            ∙ or_else_by ((r.above == k) && (r.below == m)) r rest.relations k m (given_in given k m) refl own.1;
      };
    }

pub all_new : (rs : List Relation) → AreNew [] rs
all_new [] = tt
all_new (r ∷ rs) = (refl, all_new rs)

-- what relations say has no fault
line_fine : (names : List (List ℕ)) (given : List Spelled) (text : List ℕ) (s : Spelled) → is_text text ≡ true → spelling_of names text ≡ Some s → has_unknown s ≡ false
    → nat_le s.above s.below ≡ false → is_given given s.above s.below ≡ false → right_fault s.above s.right ≡ None → line_fault names given text ≡ None
line_fine names given text s t e known order new right =
    ap (λ (q : Bool). broken (not q) kind.NotText (spelled_fault given (spelling_of names text))) t
    ∙ ap (λ (o : Option Spelled). spelled_fault given o) e
    ∙ ap (λ (q : Bool). broken q kind.Name (broken (nat_le s.above s.below) kind.Order (broken (is_given given s.above s.below) kind.Twice (right_fault s.above s.right)))) known
    ∙ ap (λ (q : Bool). broken q kind.Order (broken (is_given given s.above s.below) kind.Twice (right_fault s.above s.right))) order
    ∙ ap (λ (q : Bool). broken q kind.Twice (right_fault s.above s.right)) new
    ∙ right

join_new : (s : Spelled) (given : List Spelled) (r : Relation) (rs : List Relation) → r.above ≡ s.above → r.below ≡ s.below → AreNew given rs → IsApart r rs → AreNew (s ∷ given) rs
join_new s given r [] a b h k = tt
join_new s given r (t ∷ rs) a b h k = (
  ap (λ (q : Bool). q || is_given given t.above t.below) (not_both s.above t.above s.below t.below (λ x y. k.0 (sym x ∙ sym a) (sym y ∙ sym b))) ∙ h.0,
  join_new s given r rs a b h.1 k.1,
)

pub relations_fine : (ls : List Line) (names : List (List ℕ)) (given : List Spelled) (rs : List Relation) → AreRelations names (map (λ l. l.text) ls) rs → AreNew given rs
    → ArePairs (length names) given → (relations_fault names given ls ≡ None) × IsFound names given ls rs
relations_fine [] names given _ none new pairs = (refl, record { pairs = pairs; lookup = λ k l. refl })
relations_fine (l ∷ ls) names given _ (more _ _ r rs t d lawful apart are) new pairs =
    let s : Spelled = spelled_as r in
    let e : spelling_of names l.text ≡ Some s = spelled_by-complete (kinds (relation_word names) l.text) s d in
    let fine = right_fine (length names) r.above r.right lawful.right in
    let order : nat_le s.above s.below ≡ false = not_above r.above r.below lawful.order in
    let known : has_unknown s ≡ false =
    ap (λ (q : Bool). q || (r.below == 0) || list_any (λ p. p.number == 0) (map power_of r.right)) (positive r.above (omega (arith, lawful.low, lawful.order)))
    ∙ ap (λ (q : Bool). q || list_any (λ p. p.number == 0) (map power_of r.right)) (positive r.below lawful.low) ∙ fine.known in
    let line : line_fault names given l.text ≡ None = line_fine names given l.text s t e known order new.0 fine.fault in
    let onto_is : with_given (spelling_of names l.text) given ≡ s ∷ given = ap (λ o. with_given o given) e in
    let rest = relations_fine ls names (s ∷ given) rs are (join_new s given r rs refl refl new.1 apart) (IsPair-spelled names l.text s e known order, pairs) in (
      ap (λ (o : Option FileKind). at_line l.number o (relations_fault names (with_given (spelling_of names l.text) given) ls)) line
          ∙ ap (λ (g : List Spelled). relations_fault names g ls) onto_is ∙ rest.0,
      record {
        pairs = subst (λ (g : List Spelled). ArePairs (length names) (onto names g ls)) (sym onto_is) rest.1.pairs;
        lookup = λ k m.
            ap (λ (g : List Spelled). given_in (onto names g ls) k m) onto_is ∙ rest.1.lookup k m
            ∙ ap (λ (right : List Syllable). or_else (relation_at rs k m) (if (r.above == k) && (r.below == m) then Some right else given_in given k m)) fine.same
            ∙ or_else_by ((r.above == k) && (r.below == m)) r rs k m (given_in given k m) refl apart;
      },
    )
