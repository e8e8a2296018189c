-- Why a builder refuses an example's names and pairs only for want of memory.
use Rattle.std.proofs.Common.{◌≡◌, ℕ, zero, suc, ◌-◌, ◌<◌, ◌≤◌, Bool, true, false, cond, List, [], ◌∷◌, Option, Some, None, IfNone, is_some, is_none, refl, ap, ◌∙◌, subst, arith}
use Rattle.std.specs.List.{range_with_len, list_all}
use Rattle.std.specs.Fmt.{digits}
use Rattle.std.proofs.lemmas.Bool.{lt-leb}
use Rattle.nil_pres.specs.declared.syllable.Syllable.{Syllable}
use Rattle.nil_pres.specs.declared.name_fault.NameFault.{NameFault}
use Rattle.nil_pres.specs.declared.name_fault.NameFault.TheVariants as name_fault
use Rattle.nil_pres.specs.declared.relation_fault.RelationFault.{RelationFault}
use Rattle.nil_pres.specs.declared.relation_fault.RelationFault.TheVariants as fault
use Rattle.nil_pres.specs.Rights.{AreUpTo}
use Rattle.nil_pres.specs.Presented.{Draft, added, name_fault_among, name_fault_of, relation_fault}
use Rattle.nil_examples.specs.Powers.{name_of, numbered}
use Rattle.nil_examples.specs.Examples.{IsLawful}
use Rattle.nil_examples.proofs.Tested.{tested}

none_from : {A : Type 0} (o : Option A) → is_none o ≡ true → o ≡ None
none_from None h = refl
none_from (Some x) h = cc

-- each of the 48 names is one, and differs from those before it
is_new : ℕ → Bool
is_new k = is_none (name_fault_among (numbered (k - 1)) (name_of k))

all_new : list_all is_new (range_with_len 1 48) ≡ true
unfolding is_new digits
all_new = refl

new_name : (k : ℕ) → 1 ≤ k → k ≤ 48 → name_fault_among (numbered (k - 1)) (name_of k) ≡ None
unfolding is_new
new_name k least most =
    none_from (name_fault_among (numbered (k - 1)) (name_of k)) (tested is_new 1 48 k all_new least (omega arith))

pub name_memory : (d : Draft) (k : ℕ) (name : List ℕ) (f : NameFault) → d.names ≡ numbered (k - 1) → name ≡ name_of k → 1 ≤ k → k ≤ 48 → IfNone (name_fault_of d name) (f ≡ name_fault.Memory) → f ≡ name_fault.Memory
name_memory d k name f names is least most taken =
    let none : name_fault_of d name ≡ None =
    ap (λ (ns : List (List ℕ)). name_fault_among ns name) names
    ∙ ap (λ (t : List ℕ). name_fault_among (numbered (k - 1)) t) is
    ∙ new_name k least most in
    subst (λ (o : Option NameFault). IfNone o (f ≡ name_fault.Memory)) none taken

no_fault : (b1 b2 b3 b4 b5 : Bool) (x1 x2 x3 x4 x5 : RelationFault) → b1 ≡ false → b2 ≡ false → b3 ≡ false → b4 ≡ false → b5 ≡ false → cond b1 (Some x1) (cond b2 (Some x2) (cond b3 (Some x3) (cond b4 (Some x4) (cond b5 (Some x5) None)))) ≡ None
no_fault b1 b2 b3 b4 b5 x1 x2 x3 x4 x5 h1 h2 h3 h4 h5 = rw (h1, h2, h3, h4, h5) refl

pub relation_memory : (d : Draft) (n i j : ℕ) (power : Syllable) (f : RelationFault) → i < j → added d i j ≡ None → IsLawful n j power → IfNone (relation_fault d i j (power ∷ [])) (f ≡ fault.Memory) → f ≡ fault.Memory
relation_memory d n i j power f below new lawful taken =
    let none : relation_fault d i j (power ∷ []) ≡ None =
    no_fault _ _ _ _ _ fault.Order fault.Twice (fault.Above 0) (fault.Number 0) (fault.Zero 0)
    (lt-leb j i below) (ap is_some new) (lt-leb power.number j lawful.above) lawful.lowest lawful.nonzero in
    subst (λ (o : Option RelationFault). IfNone o (f ≡ fault.Memory)) none taken

pub AreUpTo-one : (n : ℕ) (s : Syllable) → s.number ≤ n → AreUpTo n (s ∷ [])
AreUpTo-one n s h zero d below = h
AreUpTo-one n s h (suc k) d below = absurd (omega arith)
