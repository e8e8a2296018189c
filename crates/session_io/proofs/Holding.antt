-- What is held of a line.
use Rattle.std.proofs.Common.{◌≡◌, ℕ, zero, suc, ◌+◌, min, nat_lt, Bool, cond, true, false, List, [], ◌∷◌, ◌++◌, length, take, refl, sym, ◌∙◌, ap, arith, length-take, take_all}
use borrow.Author.Tests.{lt-ltb}
use Rattle.std.proofs.lemmas.Bool.{ltb-true, ltb-false}
use Rattle.std.proofs.Math.Seq.{take-append-add}
use Rattle.session_io.specs.Limits.{line_limit}
use Rattle.session_io.specs.Holding.{held, IsHeld}

take-append-take : (n : ℕ) (a b : List ℕ) → take n (take n a ++ b) ≡ take n (a ++ b)
take-append-take zero a b = refl
take-append-take (suc n) [] b = refl
take-append-take (suc n) (x ∷ a) b = ap (λ (xs : List ℕ). x ∷ xs) (take-append-take n a b)

-- bytes behind those that are held go on with the line
pub held-append : (a b : List ℕ) → held (held a ++ b) ≡ held (a ++ b)
held-append a b = take-append-take 65537 a b

-- no more than there is can be taken
pub take-min : (bytes : List ℕ) (r : ℕ) → take (min (length bytes) r) bytes ≡ take r bytes
take-min bytes r = at (nat_lt (length bytes) r) refl
  where
    at : (b : Bool) → nat_lt (length bytes) r ≡ b → take (min (length bytes) r) bytes ≡ take r bytes
    at true h =
        let few = ltb-true (length bytes) r h in
        take_all (min (length bytes) r) bytes (omega arith) ∙ sym (take_all r bytes (omega arith))
    at false h =
        let many = ltb-false (length bytes) r h in
        ap (λ (n : ℕ). take n bytes) (omega arith)

-- bytes that fill the room that is left
pub take-fill : (n : ℕ) (a b : List ℕ) (r : ℕ) → length a + r ≡ n → a ++ take r b ≡ take n (a ++ b)
take-fill n a b r e = sym (take-append-add a b r) ∙ ap (λ (m : ℕ). take m (a ++ b)) e

module _ (line bytes front added : List ℕ) (h : IsHeld line bytes)
    (e : added ≡ held (bytes ++ front)) where
  pub held-add : added ≡ held (line ++ front)
  held-add = e ∙ ap (λ (t : List ℕ). held (t ++ front)) h.front ∙ held-append line front

  pub reply-add : (reply : List ℕ → List ℕ) → ((l : List ℕ) → reply (held l) ≡ reply l)
      → reply added ≡ reply (line ++ front)
  reply-add reply settled = ap reply held-add ∙ settled (line ++ front)

-- a text for long lines in place of another depends on what is held alone
pub cond-held : (text : List ℕ) (other : List ℕ → List ℕ) (line : List ℕ)
    → cond (nat_lt line_limit (length (held line))) text (other (held line))
    ≡ cond (nat_lt line_limit (length line)) text (other line)
cond-held text other line = at (nat_lt line_limit (length line)) refl
  where
    at : (b : Bool) → nat_lt line_limit (length line) ≡ b
        → cond (nat_lt line_limit (length (held line))) text (other (held line))
        ≡ cond (nat_lt line_limit (length line)) text (other line)
    at true h =
        let long = ltb-true line_limit (length line) h in
        let still : nat_lt line_limit (length (held line)) ≡ true =
        lt-ltb line_limit (length (held line)) (omega (arith, length-take 65537 line)) in
        ap (λ (b : Bool). cond b text (other (held line))) still
        ∙ sym (ap (λ (b : Bool). cond b text (other line)) h)
    at false h =
        let short = ltb-false line_limit (length line) h in
        ap (λ (l : List ℕ). cond (nat_lt line_limit (length l)) text (other l))
        (take_all 65537 line (omega arith))
