-- The faults of a draft are those of the lines.
use Rattle.std.proofs.Common.{◌≡◌, ℕ, ◌+◌, ◌-◌, ◌^◌, ◌==◌, ◌||◌, not, nat_le, Bool, true, false, if◌then◌else◌, ℤ, pos, negsuc, unsigned_abs, List, [], ◌∷◌, Option, Some, None, option_map, is_some, refl, ap, arith}
use Rattle.std.specs.List.{list_any}
use Rattle.std.proofs.lemmas.Bool.Decides.{nat_tests}
use Rattle.nil_pres.specs.declared.syllable.Syllable.{Syllable}
use Rattle.nil_pres.specs.declared.relation_fault.RelationFault.{RelationFault}
use Rattle.nil_pres.specs.declared.relation_fault.RelationFault.TheVariants as fault
use Rattle.nil_pres.specs.Rights.{is_lowest, is_zero as no_power, syllable_fault}
use Rattle.nil_pres.specs.Presented as nil
use Rattle.pres_text.specs.declared.file_kind.FileKind.{FileKind}
use Rattle.pres_text.specs.declared.file_kind.FileKind.TheVariants as kind
use Rattle.pres_text.specs.declared.pres_fault.PresFault.{PresFault}
use Rattle.pres_text.specs.declared.pres_fault.PresFault.TheVariants.{File}
use Rattle.pres_text.specs.Relation.{Power, Spelled}
use Rattle.pres_text.specs.Spelling.{clipped, syllables_of, spelled_clipped}
use Rattle.pres_text.specs.RelationFaults.{broken, is_exponent, is_zero, right_fault, has_unknown, is_given, relation_fault, spelled_fault}
use Rattle.pres_text.specs.Reading.{relation_fault_at, has_unknown_number, clipped_fault, found_fault}

abbrev pub at : ℕ → Option FileKind → Option PresFault
at n o = option_map (λ k. File n k) o

-- exponents that are out of range are the lowest number
not_lowest : (e : ℤ) → nat_le (unsigned_abs e) (2 ^ 63 - 1) ≡ true → is_lowest e ≡ false
not_lowest (pos n) h = refl
not_lowest (negsuc n) h = grind (arith, nat_tests)

no_power-unsigned_abs : (e : ℤ) → no_power e ≡ (unsigned_abs e == 0)
no_power-unsigned_abs (pos n) = refl
no_power-unsigned_abs (negsuc n) = grind (arith, nat_tests)

lowest_by : (q : Bool) (e : ℤ) → nat_le (unsigned_abs e) (2 ^ 63 - 1) ≡ q → is_lowest (if q then e else negsuc (2 ^ 63 - 1)) ≡ not q
lowest_by true e h = not_lowest e h
lowest_by false e h = refl

is_lowest-clipped : (e : Option ℤ) → is_lowest (clipped e) ≡ not (is_exponent e)
is_lowest-clipped None = refl
is_lowest-clipped (Some e) = lowest_by (nat_le (unsigned_abs e) (2 ^ 63 - 1)) e refl

zero_by : (q : Bool) (e : ℤ) → nat_le (unsigned_abs e) (2 ^ 63 - 1) ≡ q → not q ≡ false → no_power (if q then e else negsuc (2 ^ 63 - 1)) ≡ (unsigned_abs e == 0)
zero_by true e h k = no_power-unsigned_abs e
zero_by false e h k = cc

no_power-clipped : (e : Option ℤ) → not (is_exponent e) ≡ false → no_power (clipped e) ≡ is_zero e
no_power-clipped None h = cc
no_power-clipped (Some e) h = zero_by (nat_le (unsigned_abs e) (2 ^ 63 - 1)) e refl h

-- the rules on one syllable
syllable_by : (n place : ℕ) (a b c d e : Bool) (x : Option RelationFault) (y : Option FileKind) → b ≡ d → (d ≡ false → c ≡ e) → option_map (relation_fault_at n) x ≡ at n y
    → option_map (relation_fault_at n) (if a then Some (fault.Above place) else (if b then Some (fault.Number place) else (if c then Some (fault.Zero place) else x)))
    ≡ at n (broken a kind.Above (broken d kind.Number (broken e kind.Zero y)))
syllable_by n place true b c d e x y p q r = refl
syllable_by n place false true c true e x y p q r = refl
syllable_by n place false true c false e x y p q r = cc
syllable_by n place false false c true e x y p q r = cc
syllable_by n place false false true false true x y p q r = refl
syllable_by n place false false true false false x y p q r = let s : true ≡ false = q refl in cc
syllable_by n place false false false false true x y p q r = let s : false ≡ true = q refl in cc
syllable_by n place false false false false false x y p q r = r

pub syllable_fault-syllables_of : (n place last : ℕ) (ps : List Power) → option_map (relation_fault_at n) (syllable_fault place last (syllables_of ps)) ≡ at n (right_fault last ps)
syllable_fault-syllables_of n place last [] = refl
syllable_fault-syllables_of n place last (p ∷ ps) =
    syllable_by n place (nat_le p.number last) (is_lowest (clipped p.exponent)) (no_power (clipped p.exponent)) (not (is_exponent p.exponent)) (is_zero p.exponent)
    (syllable_fault (place + 1) p.number (syllables_of ps)) (right_fault p.number ps)
    (is_lowest-clipped p.exponent) (no_power-clipped p.exponent) (syllable_fault-syllables_of n (place + 1) p.number ps)

zeros : (ps : List Power) → list_any (λ (s : Syllable). s.number == 0) (syllables_of ps) ≡ list_any (λ p. p.number == 0) ps
zeros [] = refl
zeros (p ∷ ps) = ap (λ q. (p.number == 0) || q) (zeros ps)

has_unknown-clipped : (s : Spelled) → has_unknown_number (spelled_clipped s) ≡ has_unknown s
has_unknown-clipped s = ap (λ q. (s.above == 0) || (s.below == 0) || q) (zeros s.right)

relation_by : (n : ℕ) (a b c d e : Bool) (x : Option RelationFault) (y : Option FileKind) → a ≡ b → (b ≡ false → c ≡ false → d ≡ e) → option_map (relation_fault_at n) x ≡ at n y
    → (if a then Some (File n kind.Name) else option_map (relation_fault_at n) (if c then Some fault.Order else (if d then Some fault.Twice else x)))
    ≡ at n (broken b kind.Name (broken c kind.Order (broken e kind.Twice y)))
relation_by n true true c d e x y p q r = refl
relation_by n true false c d e x y p q r = cc
relation_by n false true c d e x y p q r = cc
relation_by n false false true d e x y p q r = refl
relation_by n false false false true true x y p q r = refl
relation_by n false false false true false x y p q r = let s : true ≡ false = q refl refl in cc
relation_by n false false false false true x y p q r = let s : false ≡ true = q refl refl in cc
relation_by n false false false false false x y p q r = r

-- a draft has what was given
abbrev pub AgreesOn : nil.Draft → List Spelled → Spelled → Type 0
AgreesOn d given s = has_unknown s ≡ false → nat_le s.above s.below ≡ false → is_some (nil.added d s.below s.above) ≡ is_given given s.above s.below

clipped_fault-relation_fault : (n : ℕ) (d : nil.Draft) (given : List Spelled) (s : Spelled) → AgreesOn d given s → clipped_fault n d (spelled_clipped s) ≡ at n (relation_fault given s)
clipped_fault-relation_fault n d given s h =
    relation_by n (has_unknown_number (spelled_clipped s)) (has_unknown s) (nat_le s.above s.below) (is_some (nil.added d s.below s.above)) (is_given given s.above s.below)
    (syllable_fault 0 s.above (syllables_of s.right)) (right_fault s.above s.right) (has_unknown-clipped s) h (syllable_fault-syllables_of n 0 s.above s.right)

abbrev pub AgreesOnFound : nil.Draft → List Spelled → Option Spelled → Type 0
AgreesOnFound d given None = Unit {0}
AgreesOnFound d given (Some s) = AgreesOn d given s

pub found_fault-spelled_fault : (n : ℕ) (d : nil.Draft) (given : List Spelled) (o : Option Spelled) → AgreesOnFound d given o → found_fault n d (option_map spelled_clipped o) ≡ at n (spelled_fault given o)
found_fault-spelled_fault n d given None h = refl
found_fault-spelled_fault n d given (Some s) h = clipped_fault-relation_fault n d given s h
