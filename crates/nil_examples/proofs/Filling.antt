-- Lists of which a front is filled.
use Rattle.std.proofs.Common.{◌≡◌, ℕ, zero, suc, ◌<◌, ◌≤◌, List, [], ◌∷◌, length, map, get_or, set, refl, sym, ap, arith}
use Rattle.nil_examples.specs.Building.{partly}

pub length-partly : {A B : Type 0} (f g : A → B) (xs : List A) (i : ℕ) → length (partly f g xs i) ≡ length xs
length-partly f g [] i = refl
length-partly f g (x ∷ xs) zero = ap suc (length-partly f g xs zero)
length-partly f g (x ∷ xs) (suc i) = ap suc (length-partly f g xs i)

pub partly-zero : {A B : Type 0} (f g : A → B) (xs : List A) → partly f g xs zero ≡ map g xs
partly-zero f g [] = refl
partly-zero f g (x ∷ xs) = ap (λ ys. g x ∷ ys) (partly-zero f g xs)

pub partly-whole : {A B : Type 0} (f g : A → B) (xs : List A) (i : ℕ) → length xs ≤ i → partly f g xs i ≡ map f xs
partly-whole f g [] i h = refl
partly-whole f g (x ∷ xs) zero h = absurd (omega arith)
partly-whole f g (x ∷ xs) (suc i) h = ap (λ ys. f x ∷ ys) (partly-whole f g xs i (omega arith))

pub get_or-partly : {A B : Type 0} (f g : A → B) (xs : List A) (i : ℕ) (d : B) (e : A) → i < length xs → get_or (partly f g xs i) i d ≡ g (get_or xs i e)
get_or-partly f g [] i d e h = absurd (omega arith)
get_or-partly f g (x ∷ xs) zero d e h = refl
get_or-partly f g (x ∷ xs) (suc i) d e h = get_or-partly f g xs i d e (omega arith)

pub set-partly : {A B : Type 0} (f g : A → B) (xs : List A) (i : ℕ) (e : A) → i < length xs → set (partly f g xs i) i (f (get_or xs i e)) ≡ partly f g xs (suc i)
set-partly f g [] i e h = absurd (omega arith)
set-partly f g (x ∷ xs) zero e h = refl
set-partly f g (x ∷ xs) (suc i) e h = ap (λ ys. f x ∷ ys) (set-partly f g xs i e (omega arith))

pub partly-same : {A B : Type 0} (f g : A → B) (xs : List A) (i : ℕ) (e : A) → i < length xs → f (get_or xs i e) ≡ g (get_or xs i e) → partly f g xs i ≡ partly f g xs (suc i)
partly-same f g [] i e h same = absurd (omega arith)
partly-same f g (x ∷ xs) zero e h same = ap (λ y. y ∷ partly f g xs zero) (sym same)
partly-same f g (x ∷ xs) (suc i) e h same = ap (λ ys. f x ∷ ys) (partly-same f g xs i e (omega arith) same)
