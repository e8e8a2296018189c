-- Lines of bytes that go on.
use Rattle.std.proofs.Common.{◌≡◌, ℕ, ◌==◌, Bool, cond, true, false, List, [], ◌∷◌, ◌++◌, refl, sym, ◌∙◌, ap}
use Rattle.std.specs.List.{onto_first}
use Rattle.line_tokens.specs.Lines.{lines_of}
use Rattle.session_io.proofs.Lines.{IsSome, IsSome-lines_of}

-- the lines before bytes are added behind the last one
lines_with : List (List ℕ) → List ℕ → List (List ℕ)
lines_with [] b = lines_of b
lines_with (l ∷ []) b = lines_of (l ++ b)
lines_with (l ∷ m ∷ ls) b = l ∷ lines_with (m ∷ ls) b

lines_with-cons : (l : List ℕ) (ls : List (List ℕ)) (b : List ℕ) → IsSome ls
    → lines_with (l ∷ ls) b ≡ l ∷ lines_with ls b
unfolding lines_with
lines_with-cons l [] b h = cc h.is
lines_with-cons l (m ∷ ls) b h = refl

lines_with-last : (ls : List (List ℕ)) (r b : List ℕ)
    → lines_with (ls ++ r ∷ []) b ≡ ls ++ lines_of (r ++ b)
unfolding lines_with
lines_with-last [] r b = refl
lines_with-last (l ∷ []) r b = refl
lines_with-last (l ∷ m ∷ ls) r b = ap (λ (ms : List (List ℕ)). l ∷ ms) (lines_with-last (m ∷ ls) r b)

onto-lines_with : (c : ℕ) (ls : List (List ℕ)) (b : List ℕ) → (c == 10) ≡ false → IsSome ls
    → onto_first c (lines_with ls b) ≡ lines_with (onto_first c ls) b
unfolding lines_with
onto-lines_with c [] b h k = cc k.is
onto-lines_with c (l ∷ []) b h k =
    sym (ap (λ (t : Bool). cond t ([] ∷ lines_of (l ++ b)) (onto_first c (lines_of (l ++ b)))) h)
onto-lines_with c (l ∷ m ∷ ls) b h k = refl

cond-lines_with : (test : Bool) (c : ℕ) (ls : List (List ℕ)) (b : List ℕ) → (c == 10) ≡ test
    → IsSome ls
    → cond test ([] ∷ lines_with ls b) (onto_first c (lines_with ls b))
    ≡ lines_with (cond test ([] ∷ ls) (onto_first c ls)) b
cond-lines_with true c ls b h k = sym (lines_with-cons [] ls b k)
cond-lines_with false c ls b h k = onto-lines_with c ls b h k

lines_of-with : (a b : List ℕ) → lines_of (a ++ b) ≡ lines_with (lines_of a) b
unfolding lines_with
lines_of-with [] b = refl
lines_of-with (c ∷ a) b =
    ap (λ (ls : List (List ℕ)). cond (c == 10) ([] ∷ ls) (onto_first c ls)) (lines_of-with a b)
    ∙ cond-lines_with (c == 10) c (lines_of a) b refl (IsSome-lines_of a)

-- bytes behind a line that isn't ended go on with it
pub lines_of-append : (a b r : List ℕ) (ls : List (List ℕ)) → lines_of a ≡ ls ++ r ∷ []
    → lines_of (a ++ b) ≡ ls ++ lines_of (r ++ b)
lines_of-append a b r ls h =
    lines_of-with a b ∙ ap (λ (ms : List (List ℕ)). lines_with ms b) h ∙ lines_with-last ls r b

-- a line in front of bytes begins their first line
one-cond : (test : Bool) (c : ℕ) (a b : List ℕ) (ls : List (List ℕ)) → IsSome ls
    → cond test ([] ∷ ls) (onto_first c ls) ≡ (c ∷ a) ∷ [] → (test ≡ false) × (ls ≡ a ∷ [])
one-cond true c a b ls k h = (cc, cc)
one-cond false c a b [] k h = (refl, cc k.is)
one-cond false c a b (l ∷ ls) k h = (refl, cc)

pub lines_of-behind : (a b l : List ℕ) (ls : List (List ℕ)) → lines_of a ≡ a ∷ []
    → lines_of b ≡ l ∷ ls → lines_of (a ++ b) ≡ (a ++ l) ∷ ls
lines_of-behind [] b l ls h k = k
lines_of-behind (c ∷ a) b l ls h k =
    let p = one-cond (c == 10) c a b (lines_of a) (IsSome-lines_of a) h in
    ap (λ (t : Bool). cond t ([] ∷ lines_of (a ++ b)) (onto_first c (lines_of (a ++ b)))) p.0
    ∙ ap (onto_first c) (lines_of-behind a b l ls p.1 k)
