-- Pieces that are appended one after another.
use Rattle.std.proofs.Common.{◌≡◌, ℕ, ◌+◌, ◌-◌, List, [], ◌++◌, length, take, drop, Option, Some, None, sym, ◌∙◌, ap, subst, arith, append_assoc, append-nil, take_all, take-add, length-drop}
use Rattle.std.specs.Io.KnownBytes.{Appends, Keeps}

pub Appends-none : (o : Option (List ℕ)) → Appends o o []
Appends-none None = tt
Appends-none (Some xs) = sym (append-nil xs)

pub Appends-keeps : (o p q : Option (List ℕ)) (a : List ℕ) → Appends o p a → Keeps p q → Appends o q a
Appends-keeps None p q a h k = tt
Appends-keeps (Some xs) None q a h k = absurd h
Appends-keeps (Some xs) (Some ys) None a h k = absurd k
Appends-keeps (Some xs) (Some ys) (Some zs) a h k = k ∙ h

pub Appends-both : (o p q : Option (List ℕ)) (a b : List ℕ) → Appends o p a → Appends p q b
    → Appends o q (a ++ b)
Appends-both None p q a b h k = tt
Appends-both (Some xs) None q a b h k = absurd h
Appends-both (Some xs) (Some ys) None a b h k = absurd k
Appends-both (Some xs) (Some ys) (Some zs) a b h k =
    k ∙ (ap (λ (w : List ℕ). w ++ b) h ∙ append_assoc xs a b)

-- the next piece of a list
pub Appends-next : (o p q : Option (List ℕ)) (bytes : List ℕ) (at n : ℕ)
    → Appends o p (take at bytes) → Appends p q (take n (take (length bytes - at) (drop at bytes)))
    → Appends o q (take (at + n) bytes)
Appends-next o p q bytes at n h k =
    let e : take (length bytes - at) (drop at bytes) ≡ drop at bytes =
    take_all (length bytes - at) (drop at bytes) (omega (arith, length-drop at bytes)) in
    let f : take at bytes ++ take n (take (length bytes - at) (drop at bytes)) ≡ take (at + n) bytes =
    ap (λ (w : List ℕ). take at bytes ++ take n w) e ∙ sym (take-add at n bytes) in
    subst (Appends o q) f
    (Appends-both o p q (take at bytes) (take n (take (length bytes - at) (drop at bytes))) h k)
