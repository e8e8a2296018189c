-- Faults in sequence.
use Rattle.std.proofs.Common.{◌≡◌, ℕ, Bool, true, false, not, nat_le, List, length, Option, Some, None, option_map, IfSome, IfNone, IfErr, if◌then◌else◌, Result, Ok, Err, refl, sym, ◌∙◌, ap, subst, ◌⊎◌, inl, inr}
use Rattle.std.specs.List.{list_any}
use Rattle.std.specs.Str.{bytes_eq}
use Rattle.nil_pres.specs.declared.name_fault.NameFault.{NameFault}
use Rattle.nil_pres.specs.declared.name_fault.NameFault.TheVariants as name
use Rattle.nil_pres.specs.Presented.{is_name, name_fault_among}
use Rattle.pres_text.specs.declared.file_kind.FileKind.{FileKind}
use Rattle.pres_text.specs.declared.file_kind.FileKind.TheVariants as kind
use Rattle.pres_text.specs.declared.pres_fault.PresFault.{PresFault}
use Rattle.pres_text.specs.declared.pres_fault.PresFault.TheVariants.{File, Memory}
use Rattle.pres_text.specs.RelationFaults.{broken}
use Rattle.pres_text.specs.FirstFault.{name_fault, first_of}
use Rattle.nil_num.specs.Outcome.{Gives}
use Rattle.pres_text.specs.Reading.{fault_place, name_fault_at}

-- the outcome is this one, unless memory ran out
abbrev pub GivesOnly : {A : Type 0} → Result A PresFault → Result A PresFault → Type 0
GivesOnly r o = Gives fault_place r (λ x. x ≡ o)

abbrev pub failed : PresFault → Result (Unit {0}) PresFault
failed f = Err f

-- a name's fault is the builder's
name_fault_by : (n : ℕ) (many unlawful there : Bool) → option_map (File n) (broken many kind.TooMany (broken unlawful kind.Name (broken there kind.TwiceName None)))
    ≡ option_map (name_fault_at n) (if many then Some name.TooMany else (if unlawful then Some name.Name else (if there then Some name.TwiceName else None)))
name_fault_by n true unlawful there = refl
name_fault_by n false true there = refl
name_fault_by n false false true = refl
name_fault_by n false false false = refl

pub name_fault-builder : (n : ℕ) (names : List (List ℕ)) (w : List ℕ) → option_map (File n) (name_fault names w) ≡ option_map (name_fault_at n) (name_fault_among names w)
name_fault-builder n names w = name_fault_by n (nat_le 48 (length names)) (not (is_name w)) (list_any (bytes_eq w) names)

-- an error of the builder is handed on
pub handed_fault : (n : ℕ) (o : Option FileKind) (f : Option NameFault) (r : Result ℕ NameFault) (e : NameFault) → option_map (File n) o ≡ option_map (name_fault_at n) f
    → r ≡ Err e → IfSome f (λ x. r ≡ Err x) → IfSome o (λ k. failed (name_fault_at n e) ≡ failed (File n k))
handed_fault n None f r e same is h = tt
handed_fault n (Some k) None r e same is h = cc
handed_fault n (Some k) (Some x) r e same is h = cc

pub handed_fine : (n : ℕ) (o : Option FileKind) (f : Option NameFault) (r : Result ℕ NameFault) (e : NameFault) → option_map (File n) o ≡ option_map (name_fault_at n) f
    → r ≡ Err e → IfNone f (IfErr r (λ x. x ≡ name.Memory)) → IfNone o (name_fault_at n e ≡ Memory)
handed_fine n (Some k) f r e same is h = tt
handed_fine n None (Some x) r e same is h = cc
handed_fine n None None r e same is h = ap (name_fault_at n) (subst (λ (q : Result ℕ NameFault). IfErr q (λ x. x ≡ name.Memory)) is h)

same_gives : (e f : PresFault) → e ≡ f → GivesOnly (failed e) (failed f)
same_gives (File n k) f h = ap (failed) h
same_gives Memory f h = tt

-- the fault of a first part is that of the whole
pub first_failed : (n : ℕ) (o later : Option FileKind) (e : PresFault) → IfSome o (λ k. failed e ≡ Err (File n k)) → IfNone o (e ≡ Memory)
    → IfSome (first_of o later) (λ k. GivesOnly (failed e) (failed (File n k)))
first_failed n (Some k) later e h m = same_gives e (File n k) cc
first_failed n None None e h m = tt
first_failed n None (Some k) e h m = subst (λ (x : PresFault). GivesOnly (failed x) (failed (File n k))) (sym m) tt

pub first_failed_fine : (o later : Option FileKind) (e : PresFault) → IfNone o (e ≡ Memory) → IfNone (first_of o later) (e ≡ Memory)
first_failed_fine (Some k) later e m = tt
first_failed_fine None None e m = m
first_failed_fine None (Some k) e m = tt

-- outcomes of the whole reader
pub memory_gives : {A : Type 0} (f : PresFault) (o : Result A PresFault) → f ≡ Memory → GivesOnly (Err f) o
memory_gives f o h = subst (λ (x : PresFault). GivesOnly (Err x) o) (sym h) tt

pub only_memory : (found first : Option PresFault) (f : PresFault) → found ≡ first → IfNone found (f ≡ Memory) → first ≡ None → f ≡ Memory
only_memory None first f e h n = h
only_memory (Some g) first f e h n = let no : ⊥ = cc in absurd no

fault_named : (f g : PresFault) → GivesOnly (failed f) (failed g) → (f ≡ Memory) ⊎ (f ≡ g)
fault_named Memory g h = inl refl
fault_named (File n k) g h = inr cc

pub memory_or_first : (found first : Option PresFault) (f : PresFault) → found ≡ first → IfNone found (f ≡ Memory) → IfSome found (λ g. GivesOnly (failed f) (failed g))
    → (f ≡ Memory) ⊎ (first ≡ Some f)
memory_or_first None first f e h n = inl h
memory_or_first (Some g) first f e h n = elim (fault_named f g n) as (λ _. (f ≡ Memory) ⊎ (first ≡ Some f)) [ inl m ↦ inl m | inr same ↦ inr (sym e ∙ ap Some (sym same)) ]

abbrev pub failed_in : (A : Type 0) → PresFault → Result A PresFault
failed_in A f = Err f

-- an error is one of whatever type
pub gives_in : (A B : Type 0) (found : Option PresFault) (f : PresFault) → IfSome found (λ g. GivesOnly (failed_in A f) (failed_in A g)) → IfSome found (λ g. GivesOnly (failed_in B f) (failed_in B g))
gives_in A B None f h = tt
gives_in A B (Some g) Memory h = tt
gives_in A B (Some g) (File n k) h = let same : File n k ≡ g = cc in ap (failed_in B) same

pub none_failed : {A : Type 0} (found : Option PresFault) (x : A) → IfSome found (λ f. GivesOnly (Ok x) (Err f)) → found ≡ None
none_failed None x h = refl
none_failed (Some f) x h = cc
