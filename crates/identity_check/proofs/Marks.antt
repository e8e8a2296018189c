-- Marked generators, and what a right side draws.
--   rels a presentation · pres as contracts see it · j < l and k m generators, ms ns lists of them
--   marks by generator · right a right side · s syllable
use Rattle.std.proofs.Common.{◌≡◌, ◌≢◌, ℕ, ◌+◌, ◌<◌, ◌≤◌, Bool, true, false, if◌then◌else◌, List, [], ◌∷◌, ◌++◌, length, Contains, refl, sym, ap, ◌∙◌, subst, arith, inl, inr}
use Rattle.std.specs.Prelude.{All, replicate, slice_set, slice_index_or}
use Rattle.std.proofs.lemmas.Bool.{cases_lt, false≢true}
use Rattle.std.proofs.lemmas.Bool.Decides.{eqb_tells}
use Rattle.std.proofs.lemmas.List.{get_or-set_other, get_or-replicate, get_or_past, length-replicate, length-set}
use Rattle.std.proofs.lemmas.List.Elements.{All-head, All-tail, All-nil, All-push, Contains-push, Contains-append_left}
use lib.IntN.{pos}
use Rattle.nil_word.specs.Congruence.{Relations}
use Rattle.nil_word.specs.Exponents.{count}
use Rattle.nil_pres.specs.declared.syllable.Syllable.{Syllable}
use Rattle.nil_pres.specs.Presented.{Presented, IsPresented, right_of}
use Rattle.nil_pres.specs.Relations.{relations_of}
use Rattle.hall_law.specs.Nucleus.{IsDrawn, given, by_pair}
use Rattle.identity_check.specs.Pairs.{exponent_in}
use Rattle.identity_check.specs.Drawing.{AreEnough, AreGenerators, IsMarked, AreDrawn, KeepDrawn, IsLeft}
use Rattle.identity_check.proofs.PairEntries.{count-pair}

-- ---- more generators draw no less
drawn_by_more : (rels : Relations) (level : ℕ) (P Q : ℕ → Type 0) → ((m : ℕ) → P m → Q m)
    → (m : ℕ) → IsDrawn rels level P m → IsDrawn rels level Q m
drawn_by_more rels level P Q h _ (given m p) = given m (h m p)
drawn_by_more rels level P Q h _ (by_pair j l m a d b once dj dl others) =
    by_pair j l m a d b once (drawn_by_more rels level P Q h j dj)
    (drawn_by_more rels level P Q h l dl)
    (λ k n z. drawn_by_more rels level P Q h k (others k n z))

pub drawn_after : (rels : Relations) (level : ℕ) (ms : List ℕ) (k m : ℕ)
    → IsDrawn rels level (Contains ms) m → IsDrawn rels level (Contains (ms ++ k ∷ [])) m
drawn_after rels level ms k m =
    drawn_by_more rels level (Contains ms) (Contains (ms ++ k ∷ []))
    (λ i c. Contains-append_left ms (k ∷ []) i c) m

pub drawn_itself : (rels : Relations) (level : ℕ) (ms : List ℕ) (k : ℕ)
    → IsDrawn rels level (Contains (ms ++ k ∷ [])) k
drawn_itself rels level ms k = given k (Contains-push ms k)

-- ---- one mark more
marked_before : (marks : List Bool) (m k : ℕ) → k ≢ m → IsMarked (slice_set marks m true) k
    → IsMarked marks k
marked_before marks m k n h = sym (get_or-set_other marks m k true false n) ∙ h

pub one_more : (rels : Relations) (level : ℕ) (ms : List ℕ) (marks : List Bool) (m : ℕ)
    → AreDrawn rels level ms marks → IsDrawn rels level (Contains ms) m
    → AreDrawn rels level ms (slice_set marks m true)
one_more rels level ms marks m h d k i =
    elim (eqb_tells k m) [
      | inl same ↦ subst (IsDrawn rels level (Contains ms)) (sym same.1) d
      | inr other ↦ h k (marked_before marks m k other.1 i)
    ]

-- ---- what a pair draws
marked_there : (right : List Syllable) (marks : List Bool) (m k : ℕ)
    → All (λ s. s.number ≢ m → IsMarked marks s.number) right → k ≢ m
    → exponent_in k right ≢ pos 0 → IsMarked marks k
marked_there [] marks m k h n z = absurd (z refl)
marked_there (s ∷ rest) marks m k h n z =
    elim (eqb_tells s.number k) [
      | inl same ↦
          subst (IsMarked marks) same.1
          (All-head (λ (c : Syllable). c.number ≢ m → IsMarked marks c.number) s rest h
          (λ e. n (sym same.1 ∙ e)))
      | inr other ↦
          marked_there rest marks m k
          (All-tail (λ (c : Syllable). c.number ≢ m → IsMarked marks c.number) s rest h) n
          (λ e. z (ap (λ (b : Bool). if b then s.exp else exponent_in k rest) other.0 ∙ e))
    ]

pub pair_draws : (pres : Presented) (level : ℕ) (ms : List ℕ) (marks : List Bool) (j l m : ℕ)
    → IsPresented pres → 1 ≤ level → level ≤ j → j < l → l ≤ length pres.names
    → IsMarked marks j → IsMarked marks l → IsLeft (right_of pres j l) marks m
    → AreDrawn (relations_of pres) level ms marks
    → AreDrawn (relations_of pres) level ms (slice_set marks m true)
pair_draws pres level ms marks j l m p least low below high mj ml left h =
    let rels = relations_of pres in
    let right = right_of pres j l in
    let is : (k : ℕ) → count (rels.right j l) k ≡ exponent_in k right =
    λ k. count-pair pres k j l p (omega arith) below high in
    one_more rels level ms marks m h
    (by_pair j l m low below high
    (elim left.once [ inl e ↦ inl (is m ∙ e) | inr e ↦ inr (is m ∙ e) ])
    (h j mj) (h l ml)
    (λ k n z. h k (marked_there right marks m k left.others n (λ e. z (is k ∙ e)))))

-- ---- the beginning
pub unmarked : (n k : ℕ) → slice_index_or (replicate n false) k false ≡ false
unmarked n k =
    elim (cases_lt k n) [
      | inl l ↦ get_or-replicate n k false false l
      | inr g ↦ get_or_past (replicate n false) k false (omega (arith, length-replicate n false))
    ]

none_marked : (rels : Relations) (level : ℕ) (ms : List ℕ) (n : ℕ)
    → AreDrawn rels level ms (replicate n false)
none_marked rels level ms n k i = absurd (false≢true (sym (unmarked n k) ∙ i))

-- ---- generator after generator
pub record IsStarted (rels : Relations) (level : ℕ) (ms : List ℕ) (marks : List Bool) : Type 0 where
  pub size : length marks ≡ 49
  pub within : AreGenerators level rels.count ms
  pub drawn : AreDrawn rels level ms marks

pub walk_starts : (rels : Relations) (level : ℕ) (ms : List ℕ) → ms ≡ []
    → IsStarted rels level ms (replicate 49 false)
walk_starts rels level ms e = record {
  size = length-replicate 49 false;
  within = subst (AreGenerators level rels.count) (sym e)
      (All-nil (λ (m : ℕ). (level ≤ m) × (m ≤ rels.count)));
  drawn = none_marked rels level ms 49;
}

pub started_on : (rels : Relations) (level : ℕ) (ms : List ℕ) (marks : List Bool) (k : ℕ)
    → level ≤ k → k ≤ rels.count → IsStarted rels level ms marks
    → IsStarted rels level (ms ++ k ∷ []) (slice_set marks k true)
started_on rels level ms marks k low high s = record {
  size = length-set marks k true ∙ s.size;
  within = All-push (λ (m : ℕ). (level ≤ m) × (m ≤ rels.count)) ms k s.within (low, high);
  drawn = one_more rels level (ms ++ k ∷ []) marks k
      (λ m i. drawn_after rels level ms k m (s.drawn m i)) (drawn_itself rels level ms k);
}

pub started_more : (rels : Relations) (level : ℕ) (ms : List ℕ) (marks more : List Bool)
    → length more ≡ length marks → KeepDrawn rels level marks more → IsStarted rels level ms marks
    → IsStarted rels level ms more
started_more rels level ms marks more size keep s =
    record { size = size ∙ s.size; within = s.within; drawn = keep ms s.drawn }

pub record IsWalked (rels : Relations) (level : ℕ) (ms : List ℕ) (marks : List Bool) (k : ℕ)
    : Type 0 where
  pub started : IsStarted rels level ms marks
  pub before : (m : ℕ) → level ≤ m → m < k → IsDrawn rels level (Contains ms) m

pub walk_begins : (rels : Relations) (level : ℕ) (ms : List ℕ) (marks : List Bool)
    → IsStarted rels level ms marks → IsWalked rels level ms marks level
walk_begins rels level ms marks s =
    record { started = s; before = λ m low below. absurd (omega arith) }

pub passed_by : (rels : Relations) (level : ℕ) (ms : List ℕ) (marks : List Bool) (k : ℕ)
    → IsMarked marks k → IsWalked rels level ms marks k → IsWalked rels level ms marks (k + 1)
passed_by rels level ms marks k i w = record {
  started = w.started;
  before = λ m low below. elim (eqb_tells m k) [
    | inl same ↦ subst (IsDrawn rels level (Contains ms)) (sym same.1) (w.started.drawn k i)
    | inr other ↦ let n : m ≢ k = other.1 in w.before m low (omega arith)
  ];
}

pub walked_on : (rels : Relations) (level : ℕ) (ms : List ℕ) (marks more : List Bool) (k : ℕ)
    → level ≤ k → k ≤ rels.count → length more ≡ length (slice_set marks k true)
    → KeepDrawn rels level (slice_set marks k true) more → IsWalked rels level ms marks k
    → IsWalked rels level (ms ++ k ∷ []) more (k + 1)
walked_on rels level ms marks more k low high size keep w = record {
  started = started_more rels level (ms ++ k ∷ []) (slice_set marks k true) more size keep
      (started_on rels level ms marks k low high w.started);
  before = λ m a below. elim (eqb_tells m k) [
    | inl same ↦
        subst (IsDrawn rels level (Contains (ms ++ k ∷ []))) (sym same.1)
        (drawn_itself rels level ms k)
    | inr other ↦
        let n : m ≢ k = other.1 in drawn_after rels level ms k m (w.before m a (omega arith))
  ];
}

pub walk_ends : (rels : Relations) (level : ℕ) (ms : List ℕ) (marks : List Bool) (k : ℕ)
    → rels.count < k → IsWalked rels level ms marks k → AreEnough rels level ms
walk_ends rels level ms marks k past w = λ m low high. w.before m low (omega arith)
