-- Proposals that were asked one after another.
--   AskedUpTo p i os k old new   the first k of the proposals were asked and not taken, and this
--                                was written down
-- p presentation · i level · os proposals · o proposal · k how many · a entry · old new entries
use Rattle.std.proofs.Common.{◌≡◌, ℕ, ◌+◌, ◌<◌, ◌≤◌, List, [], ◌∷◌, ◌++◌, length, take, get_or, drop, suc, sym, ap, ◌∙◌, subst, append_assoc, append-nil}
use Rattle.std.specs.Prelude.{Some}
use Rattle.std.proofs.Math.Seq.{split_at}
use Rattle.std.proofs.lemmas.List.{take_all, take_more}
use Rattle.nil_pres.specs.Presented.{Presented}
use Rattle.hall_compile.specs.declared.asked.Asked.{Asked}
use Rattle.hall_table.specs.Tabled.{Tabled}
use Rattle.hall_compile.specs.Proposals.{Proposal, proposal, IsAccepted, IsAsked, AreAsked, IsTaken}

pub record AskedUpTo (p : Presented) (i : ℕ) (os : List Proposal) (k : ℕ) (old new : List Asked)
    : Type 0 where
  pub more : List Asked
  pub written : new ≡ old ++ more
  pub asked : AreAsked p i (take k os) more

pub none_asked : (p : Presented) (i : ℕ) (os : List Proposal) (old : List Asked)
    → AskedUpTo p i os 0 old old
none_asked p i os old = record { more = []; written = sym (append-nil old); asked = tt }

pub one_more : (p : Presented) (i : ℕ) (os : List Proposal) (k : ℕ) (old new : List Asked)
    (a : Asked) (d : Proposal) → AskedUpTo p i os k old new → k < length os
    → IsAsked p i (get_or os k d) a → AskedUpTo p i os (k + 1) old (new ++ a ∷ [])
one_more p i os k old new a d h below is = record {
  more = h.more ++ a ∷ [];
  written = ap (λ (list : List Asked). list ++ a ∷ []) h.written
      ∙ append_assoc old h.more (a ∷ []);
  asked = subst (λ (qs : List Proposal). AreAsked p i qs (h.more ++ a ∷ []))
      (sym (take_more os k d below))
      (AllZip-pushed (take k os) h.more h.asked);
}
  where
    AllZip-pushed : (qs : List Proposal) (list : List Asked) → AreAsked p i qs list
        → AreAsked p i (qs ++ get_or os k d ∷ []) (list ++ a ∷ [])
    AllZip-pushed [] [] h = (is, tt)
    AllZip-pushed [] (b ∷ list) h = absurd h
    AllZip-pushed (q ∷ qs) [] h = absurd h
    AllZip-pushed (q ∷ qs) (b ∷ list) h = (h.0, AllZip-pushed qs list h.1)

pub all_asked : (p : Presented) (i : ℕ) (os : List Proposal) (k : ℕ) (list : List Asked)
    → length os ≤ k → AreAsked p i (take k os) list → AreAsked p i os list
all_asked p i os k list most h =
    subst (λ (qs : List Proposal). AreAsked p i qs list) (take_all k os most) h

-- the next table is accepted
pub taken : (p : Presented) (i : ℕ) (os : List Proposal) (k : ℕ) (old new : List Asked)
    (d : Proposal) (label : ℕ) (t : Tabled) → (h : AskedUpTo p i os k old new) → k < length os
    → get_or os k d ≡ proposal label (Some t) → IsAccepted p i t
    → IsTaken p i os label t h.more
taken p i os k old new d label t h below is accepted = record {
  before = take k os;
  after = drop (suc k) os;
  listed = split_at os k d below
      ∙ ap (λ (o : Proposal). take k os ++ o ∷ drop (suc k) os) is;
  asked = h.asked;
  accepted = accepted;
}
