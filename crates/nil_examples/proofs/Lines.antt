-- The lines of queries, piece by piece.
use Rattle.std.proofs.Common.{◌≡◌, ℕ, ◌%◌, List, ◌++◌, sym, ap, ◌∙◌, append_assoc}
use Rattle.std.specs.Prelude.{codes}
use Rattle.nil_examples.specs.Loads.{form, line}

with_kind : (q kind : ℕ) (u v : List ℕ) → q % 4 ≡ kind → line q u v ≡ form kind u v ++ codes "\n"
with_kind q kind u v is = ap (λ (k : ℕ). form k u v ++ codes "\n") is

pub line-product : (q : ℕ) (u v : List ℕ) → q % 4 ≡ 1 → line q u v ≡ codes "(" ++ (u ++ (codes ")*(" ++ (v ++ codes ")\n")))
line-product q u v is = with_kind q 1 u v is ∙ simp append_assoc

-- the two sides of an equation, of which the second ends in a commutator
abbrev pub sides : List ℕ → List ℕ → List ℕ
sides u v = codes "(" ++ (u ++ (codes ")*(" ++ (v ++ (codes ") = (" ++ (v ++ (codes ")*(" ++ (u ++ codes ")*")))))))

abbrev pub commutator : List ℕ → List ℕ → List ℕ
commutator u v = codes "[" ++ (u ++ (codes "," ++ (v ++ codes "]\n")))

pub line-equation : (q : ℕ) (u v before between : List ℕ) → q % 4 ≡ 2 → between ≡ before ++ sides u v → between ++ commutator u v ≡ before ++ line q u v
line-equation q u v before between is first =
    let whole : form 2 u v ++ codes "\n" ≡ sides u v ++ commutator u v = simp append_assoc in
    ap (λ (t : List ℕ). t ++ commutator u v) first
    ∙ append_assoc before (sides u v) (commutator u v)
    ∙ ap (λ (t : List ℕ). before ++ t) (sym (with_kind q 2 u v is ∙ whole))

pub line-solve : (q : ℕ) (u v : List ℕ) → q % 4 ≡ 3 → line q u v ≡ codes "solve " ++ (u ++ (codes " | " ++ (v ++ codes "\n")))
line-solve q u v is = with_kind q 3 u v is ∙ simp append_assoc

pub line-commutator : (q : ℕ) (u v : List ℕ) → q % 4 ≡ 0 → line q u v ≡ codes "[" ++ (u ++ (codes "," ++ (v ++ codes "]\n")))
line-commutator q u v is = with_kind q 0 u v is ∙ simp append_assoc
