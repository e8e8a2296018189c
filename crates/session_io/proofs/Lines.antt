-- Lines in front of others.
use Rattle.std.proofs.Common.{◌≡◌, ℕ, ◌==◌, Bool, cond, true, false, List, [], ◌∷◌, ◌++◌, refl, sym, subst, ◌∙◌, ap}
use Rattle.std.specs.List.{onto_first}
use Rattle.line_tokens.specs.Lines.{lines_of}
use Rattle.session_io.specs.Lines.{but_last, whole_lines}

-- a list that begins with an element
pub record IsSome (ls : List (List ℕ)) : Type 0 where
  pub first : List ℕ
  pub rest : List (List ℕ)
  pub is : ls ≡ first ∷ rest

some-onto : (b : ℕ) (ls : List (List ℕ)) → IsSome (onto_first b ls)
some-onto b [] = record { first = b ∷ []; rest = []; is = refl }
some-onto b (l ∷ ls) = record { first = b ∷ l; rest = ls; is = refl }

some-cond : (test : Bool) (ls ms : List (List ℕ)) → IsSome ls → IsSome ms → IsSome (cond test ls ms)
some-cond true ls ms h k = h
some-cond false ls ms h k = k

-- there is a line, though it may be empty
pub IsSome-lines_of : (bytes : List ℕ) → IsSome (lines_of bytes)
IsSome-lines_of [] = record { first = []; rest = []; is = refl }
IsSome-lines_of (b ∷ bytes) =
    some-cond (b == 10) ([] ∷ lines_of bytes) (onto_first b (lines_of bytes))
    (record { first = []; rest = lines_of bytes; is = refl }) (some-onto b (lines_of bytes))

but_last-cons : (l : List ℕ) (ls : List (List ℕ)) → IsSome ls → but_last (l ∷ ls) ≡ l ∷ but_last ls
but_last-cons l ls h =
    ap (λ (ms : List (List ℕ)). but_last (l ∷ ms)) h.is
    ∙ ap (λ (ms : List (List ℕ)). l ∷ but_last ms) (sym h.is)

some-append : (ls ms : List (List ℕ)) → IsSome ms → IsSome (ls ++ ms)
some-append [] ms h = h
some-append (l ∷ ls) ms h = record { first = l; rest = ls ++ ms; is = refl }

but_last-append : (ls ms : List (List ℕ)) → IsSome ms → but_last (ls ++ ms) ≡ ls ++ but_last ms
but_last-append [] ms h = refl
but_last-append (l ∷ ls) ms h =
    but_last-cons l (ls ++ ms) (some-append ls ms h)
    ∙ ap (λ (ns : List (List ℕ)). l ∷ ns) (but_last-append ls ms h)

-- the whole lines are those done and those of the rest
pub whole_lines-append : (bytes rest : List ℕ) (done : List (List ℕ))
    → lines_of bytes ≡ done ++ lines_of rest → whole_lines bytes ≡ done ++ whole_lines rest
whole_lines-append bytes rest done h =
    ap but_last h ∙ but_last-append done (lines_of rest) (IsSome-lines_of rest)

pub whole_lines-first : (bytes line next : List ℕ) → lines_of bytes ≡ line ∷ lines_of next
    → whole_lines bytes ≡ line ∷ whole_lines next
whole_lines-first bytes line next h =
    ap but_last h ∙ but_last-cons line (lines_of next) (IsSome-lines_of next)

pub whole_lines-last : (bytes line : List ℕ) → lines_of bytes ≡ line ∷ [] → whole_lines bytes ≡ []
whole_lines-last bytes line h = ap but_last h

split_last : (l : List ℕ) (ls : List (List ℕ)) → (x : List ℕ) × (l ∷ ls ≡ but_last (l ∷ ls) ++ x ∷ [])
split_last l [] = (l, refl)
split_last l (m ∷ ls) = let r = split_last m ls in (r.0, ap (λ (ns : List (List ℕ)). l ∷ ns) r.1)

-- the whole lines, and one more piece
pub lines_of-split : (bytes : List ℕ) → (x : List ℕ) × (lines_of bytes ≡ whole_lines bytes ++ x ∷ [])
lines_of-split bytes =
    let h = IsSome-lines_of bytes in
    let P : List (List ℕ) → Type 0 = λ ls. (x : List ℕ) × (ls ≡ but_last ls ++ x ∷ []) in
    subst P (sym h.is) (split_last h.first h.rest)
