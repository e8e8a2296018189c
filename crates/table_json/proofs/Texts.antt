-- What a text says, and its first refusal.
--   n generators · text · d e values · t u tables · f g faults
use Rattle.std.proofs.Common.{◌≡◌, ◌⊎◌, ℕ, ◌≤◌, List, Option, Some, inl, inr, refl, sym, ◌∙◌, subst}
use Rattle.std.specs.Prelude.{Result, Ok, Err, IfOk, IfErr, MatchResult}
use Rattle.serde_json.specs.Data.{Data}
use Rattle.hall_table.specs.Tabled.{Tabled}
use Rattle.table_json.specs.declared.table_fault.TableFault.{TableFault}
use Rattle.table_json.specs.declared.table_fault.TableFault.TheVariants.{Json, Memory}
use Rattle.table_json.specs.Saying.{SaysTable, IsJson, IsTableText}
use Rattle.table_json.specs.Refusing.{RefusesTable, IsFirstRefusal, json, value}
use Rattle.table_json.proofs.Tables.{says_table-same, refuses_table-no, refuses_table-same}

some_same : (o : Option Data) (a b : Data) → o ≡ Some a → o ≡ Some b → a ≡ b
some_same o a b g h = cc

pub json_same : (text : List ℕ) (d e : Data) → IsJson text d → IsJson text e → d ≡ e
json_same text d e g h = some_same _ d e g.value h.value

pub text_same : (n : ℕ) (text : List ℕ) (t u : Tabled) → n ≤ 48 → IsTableText n text t
    → IsTableText n text u → t ≡ u
text_same n text t u most g h =
    says_table-same n h.value t u most
    (subst (λ d. SaysTable n d t) (json_same text g.value h.value g.json h.json) g.says) h.says

pub refusal-no : (n : ℕ) (text : List ℕ) (t : Tabled) (f : TableFault) → n ≤ 48
    → IsTableText n text t
    → IsFirstRefusal n text f → ⊥
refusal-no n text t f most says (json fails) = fails says.value says.json
refusal-no n text t f most says (value d g is r) =
    refuses_table-no n d t g most
    (subst (λ e. SaysTable n e t) (json_same text says.value d says.json is) says.says) r

pub refusal-same : (n : ℕ) (text : List ℕ) (f g : TableFault) → n ≤ 48 → IsFirstRefusal n text f
    → IsFirstRefusal n text g → f ≡ g
refusal-same n text f g most (json fails) (json nor) = refl
refusal-same n text f g most (json fails) (value e h is s) = absurd (fails e is)
refusal-same n text f g most (value d k is r) (json nor) = absurd (nor d is)
refusal-same n text f g most (value d k is r) (value e h be s) =
    refuses_table-same n e k h most
    (subst (λ a. RefusesTable n a k) (json_same text d e is be) r) s

-- ---- what the reader answers
abbrev pub Answer : Type 0
Answer = Result Tabled TableFault

pub answer_only : (n : ℕ) (text : List ℕ) (d : Data) (r : Answer) → n ≤ 48 → IsJson text d
    → IfOk r (SaysTable n d) → IfErr r (λ f. (f ≡ Memory) ⊎ RefusesTable n d f) → (t : Tabled)
    → IsTableText n text t → MatchResult r (λ u. u ≡ t) (λ f. f ≡ Memory)
answer_only n text d (Ok u) most is said refused t says =
    text_same n text u t most record { value = d; json = is; says = said } says
answer_only n text d (Err f) most is said (inl m) t says = m
answer_only n text d (Err f) most is said (inr r) t says =
    absurd (refusal-no n text t f most says (value d f is r))

pub answer_fault : (n : ℕ) (text : List ℕ) (d : Data) (r : Answer) → IsJson text d
    → IfErr r (λ f. (f ≡ Memory) ⊎ RefusesTable n d f)
    → IfErr r (λ f. (f ≡ Memory) ⊎ IsFirstRefusal n text f)
answer_fault n text d (Ok u) is refused = tt
answer_fault n text d (Err f) is (inl m) = inl m
answer_fault n text d (Err f) is (inr r) = inr (value d f is r)

pub answer_only_fault : (n : ℕ) (text : List ℕ) (d : Data) (r : Answer) → n ≤ 48 → IsJson text d
    → IfOk r (SaysTable n d) → IfErr r (λ f. (f ≡ Memory) ⊎ RefusesTable n d f) → (f : TableFault)
    → IsFirstRefusal n text f → MatchResult r (λ _. ⊥) (λ g. (g ≡ Memory) ⊎ (g ≡ f))
answer_only_fault n text d (Ok u) most is said refused f first =
    refusal-no n text u f most record { value = d; json = is; says = said } first
answer_only_fault n text d (Err g) most is said (inl m) f first = inl m
answer_only_fault n text d (Err g) most is said (inr r) f first =
    inr (refusal-same n text g f most (value d g is r) first)

pub no_json_only : (n : ℕ) (text : List ℕ) (f : TableFault)
    → (f ≡ Memory) ⊎ ((f ≡ Json) × ((d : Data) → ¬ IsJson text d))
    → (t : Tabled) → IsTableText n text t → f ≡ Memory
no_json_only n text f (inl m) t says = m
no_json_only n text f (inr e) t says = absurd (e.1 says.value says.json)

pub no_json_fault : (n : ℕ) (text : List ℕ) (f : TableFault)
    → (f ≡ Memory) ⊎ ((f ≡ Json) × ((d : Data) → ¬ IsJson text d))
    → (f ≡ Memory) ⊎ IsFirstRefusal n text f
no_json_fault n text f (inl m) = inl m
no_json_fault n text f (inr e) = inr (subst (IsFirstRefusal n text) (sym e.0) (json e.1))

pub no_json_only_fault : (n : ℕ) (text : List ℕ) (f : TableFault) → n ≤ 48
    → (f ≡ Memory) ⊎ ((f ≡ Json) × ((d : Data) → ¬ IsJson text d)) → (g : TableFault)
    → IsFirstRefusal n text g → (f ≡ Memory) ⊎ (f ≡ g)
no_json_only_fault n text f most (inl m) g first = inl m
no_json_only_fault n text f most (inr e) g first =
    inr (e.0 ∙ refusal-same n text Json g most (json e.1) first)
