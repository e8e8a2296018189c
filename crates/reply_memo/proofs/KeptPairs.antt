-- Which pairs there are after each call.
use Rattle.std.proofs.Common.{◌≡◌, ℕ, Bool, true, false, cond, not, ◌⊎◌, inl, inr, List, [], ◌∷◌, ◌++◌, filter, All, Contains, Some, refl, sym, subst}
use Rattle.std.proofs.lemmas.List.Elements.{All-nil, All-cons, All-head, All-tail, All-append, All-filter, All-take, All-weaker, All-contains, All-contains_itself, Contains-append_left, Contains-append_right}
use Rattle.std.proofs.lemmas.Slice.Eq.{bytes_eq-Decides}
use Rattle.reply_memo.specs.Room.{room}
use Rattle.reply_memo.specs.Kept.{Kept, kept, is_of, kept_for, of_line, without, in_front, AllKept}
use Rattle.reply_memo.specs.Memo.{after_keeping}

module _ (P : Kept → Type 0) where
  All-in_front : (line : List ℕ) (pairs : List Kept) → All P pairs → All P (in_front line pairs)
  All-in_front line pairs all =
      All-append P (of_line line pairs) (without line pairs) (All-filter (is_of line) P pairs all)
      (All-filter (λ k. not (is_of line k)) P pairs all)

  All-after_keeping : (line reply : List ℕ) (pairs : List Kept) → P (kept line reply)
      → All P pairs → All P (after_keeping line reply pairs)
  All-after_keeping line reply pairs new all =
      All-take P room (kept line reply ∷ without line pairs)
      (All-cons P (kept line reply) (without line pairs) new
      (All-filter (λ k. not (is_of line k)) P pairs all))

  -- what holds of the pairs that pass a test, and of the others, holds of all
  All-parts : (p : Kept → Bool) (pairs : List Kept) → All P (filter p pairs)
      → All P (filter (λ k. not (p k)) pairs) → All P pairs
  All-parts p [] on off = All-nil P
  All-parts p (k ∷ pairs) on off =
      let some = filter p pairs in
      let others = filter (λ l. not (p l)) pairs in
      (elim (p k) as (λ b. All P (cond b (k ∷ some) some) → All P (cond (not b) (k ∷ others) others)
      → All P (k ∷ pairs)) [
        | true ↦ λ on' off'.
            All-cons P k pairs (All-head P k some on')
            (All-parts p pairs (All-tail P k some on') off')
        | false ↦ λ on' off'.
            All-cons P k pairs (All-head P k others off')
            (All-parts p pairs on' (All-tail P k others off'))
      ]) on off

-- a relation between lines and replies that all pairs meet
module _ (R : List ℕ → List ℕ → Type 0) where
  pub AllKept-nil : AllKept R []
  AllKept-nil = All-nil (λ k. R k.line k.reply)

  pub AllKept-in_front : (line : List ℕ) (pairs : List Kept) → AllKept R pairs
      → AllKept R (in_front line pairs)
  AllKept-in_front = All-in_front (λ k. R k.line k.reply)

module _ (R : List ℕ → List ℕ → Type 0) (line reply : List ℕ) where
  pub AllKept-after_keeping : (pairs : List Kept) → R line reply → AllKept R pairs
      → AllKept R (after_keeping line reply pairs)
  AllKept-after_keeping = All-after_keeping (λ k. R k.line k.reply) line reply

  -- the line and the reply that is given for it meet it
  pub AllKept-kept_for : (pairs : List Kept) → AllKept R pairs
      → kept_for line pairs ≡ Some reply → R line reply
  AllKept-kept_for [] all found = cc
  AllKept-kept_for (k ∷ pairs) all found =
      (elim (is_of line k) as (λ b. is_of line k ≡ b → R line reply) [
        | true ↦ λ same.
            let found' = rw same at found in
            let given : k.reply ≡ reply = cc in
            subst (R line) given
            (subst (λ l. R l k.reply) (sym ((bytes_eq-Decides line k.line).0 same))
            (All-head (λ l. R l.line l.reply) k pairs all))
        | false ↦ λ other.
            AllKept-kept_for pairs (All-tail (λ l. R l.line l.reply) k pairs all)
            (rw other at found)
      ]) refl

module _ (line : List ℕ) (pairs : List Kept) where
  pub Contains-in_front : (k : Kept) → Contains (in_front line pairs) k → Contains pairs k
  Contains-in_front k =
      All-contains (Contains pairs) (in_front line pairs) k
      (All-in_front (Contains pairs) line pairs (All-contains_itself pairs))

  in_front-contains : All (Contains (in_front line pairs)) pairs
  in_front-contains =
      let front = of_line line pairs in
      let rest = without line pairs in
      let whole = Contains (front ++ rest) in
      All-parts whole (is_of line) pairs
      (All-weaker (Contains front) whole (Contains-append_left front rest) front
      (All-contains_itself front))
      (All-weaker (Contains rest) whole (Contains-append_right front rest) rest
      (All-contains_itself rest))

  pub Contains-before : (k : Kept) → Contains pairs k → Contains (in_front line pairs) k
  Contains-before k =
      All-contains (Contains (in_front line pairs)) pairs k in_front-contains

  abbrev IsNewOrOld : List ℕ → Kept → Type 0
  IsNewOrOld reply k = (k ≡ kept line reply) ⊎ Contains pairs k

  pub Contains-after_keeping : (reply : List ℕ) (k : Kept)
      → Contains (after_keeping line reply pairs) k → (k ≡ kept line reply) ⊎ Contains pairs k
  Contains-after_keeping reply k =
      All-contains (IsNewOrOld reply) (after_keeping line reply pairs) k
      (All-after_keeping (IsNewOrOld reply) line reply pairs (inl refl)
      (All-weaker (Contains pairs) (IsNewOrOld reply) (λ l old. inr old) pairs
      (All-contains_itself pairs)))

  -- the reply that is given for a line is kept for it
  pub Contains-kept_for : (reply : List ℕ) → kept_for line pairs ≡ Some reply
      → Contains pairs (kept line reply)
  Contains-kept_for reply =
      AllKept-kept_for (λ l r. Contains pairs (kept l r)) line reply pairs
      (All-contains_itself pairs)
