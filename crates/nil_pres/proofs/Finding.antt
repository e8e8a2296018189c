-- The place of a name among different ones.
use Rattle.std.proofs.Common.{◌≡◌, ℕ, zero, suc, ◌+◌, ◌<◌, Bool, cond, true, false, not, List, [], ◌∷◌, length, get_or, Some, None, position, nat_lt, refl, sym, ◌∙◌, ap, arith}
use Rattle.std.proofs.lemmas.Bool.{lt-ltb, false_from_ne_true}
use Rattle.std.proofs.lemmas.Slice.Eq.{bytes_eq-Decides}
use Rattle.std.specs.List.{prefix_len}
use Rattle.std.specs.Str.{bytes_eq}
use Rattle.nil_pres.specs.Presented.{AreNames}

-- how many elements stand in front of the first that passes
prefix_len-first : {X : Type 0} (p : X → Bool) (xs : List X) (k : ℕ) (d : X) → k < length xs → p (get_or xs k d) ≡ true → ((l : ℕ) → l < k → p (get_or xs l d) ≡ false) → prefix_len (λ x. not (p x)) xs ≡ k
prefix_len-first p [] k d below h before = absurd (omega arith)
prefix_len-first p (x ∷ xs) zero d below h before = ap (λ (b : Bool). cond (not b) (1 + prefix_len (λ y. not (p y)) xs) 0) h
prefix_len-first p (x ∷ xs) (suc k) d below h before =
    let rest : prefix_len (λ y. not (p y)) xs ≡ k = prefix_len-first p xs k d (omega arith) h (λ l less. before (suc l) (omega arith)) in
    ap (λ (b : Bool). cond (not b) (1 + prefix_len (λ y. not (p y)) xs) 0) (before 0 (omega arith)) ∙ omega (arith, rest)

pub position-own : (names : List (List ℕ)) (k : ℕ) → AreNames names → k < length names → position (bytes_eq (get_or names k [])) names ≡ Some k
position-own names k h below =
    let own : bytes_eq (get_or names k []) (get_or names k []) ≡ true = (bytes_eq-Decides (get_or names k []) (get_or names k [])).1 refl in
    let first : prefix_len (λ y. not (bytes_eq (get_or names k []) y)) names ≡ k =
    prefix_len-first (bytes_eq (get_or names k [])) names k [] below own
    (λ l less. false_from_ne_true (bytes_eq (get_or names k []) (get_or names l [])) (λ e. h.different l k less below (same (get_or names l []) (get_or names k []) e))) in
    ap (λ (n : ℕ). cond (nat_lt n (length names)) (Some n) None) first ∙ ap (λ (b : Bool). cond b (Some k) None) (lt-ltb k (length names) below)
  where
    same : (a b : List ℕ) → bytes_eq b a ≡ true → a ≡ b
    same a b e = sym ((bytes_eq-Decides b a).0 e)
