-- Small instances over the Heisenberg group and the free nilpotent group of class 3.
use Rattle.std.proofs.Common.{◌≡◌, ℕ, pos, [], ◌∷◌, ◌&&◌, ◌==◌, if◌then◌else◌, refl, arith, lit≤, lit<, Bool, true, false, All, subst, sym}
use Rattle.std.proofs.lemmas.Bool.Decides.{nat_tests}
use Rattle.std.proofs.lemmas.List.Elements.{All-nil, All-cons}
use Rattle.nil_word.specs.declared.letter.Letter.{Letter}
use Rattle.nil_word.specs.Words.{up}
use Rattle.nil_word.specs.Congruence.{moves, Congruent, StandsFor}
use Rattle.nil_word.specs.Central.{IsCentralBy}
use Rattle.nil_word.specs.Examples.{heisenberg, free_three}
use Rattle.nil_word.proofs.Congruences.{trans, back, before, after, within, related}

-- a_2 a_1 is a_1 a_2 a_3
pub swapped : Congruent heisenberg 1 (up 2 ∷ up 1 ∷ []) (up 1 ∷ up 2 ∷ up 3 ∷ [])
swapped = related heisenberg 1 (moves 1 2 (lit≤ tt) (lit< tt) (lit≤ tt))

pub stands : StandsFor heisenberg (pos 1 ∷ pos 1 ∷ pos 1 ∷ []) (up 2 ∷ up 1 ∷ [])
stands = back heisenberg 1 swapped

-- right sides hold a_3 alone, which commutes with all
one_right : (b : Bool) → All (λ a. (a.number == 3) ≡ true) (if b then up 3 ∷ [] else [])
one_right true =
    All-cons (λ (a : Letter). (a.number == 3) ≡ true) (up 3) [] refl
    (All-nil (λ (a : Letter). (a.number == 3) ≡ true))
one_right false = All-nil (λ (a : Letter). (a.number == 3) ≡ true)

no_right : (b : Bool) → (if b && false then up 3 ∷ [] else []) ≡ []
no_right true = refl
no_right false = refl

pub is_central : IsCentralBy heisenberg (λ m. m == 3)
is_central = record {
  empty = λ m l t.
      let e : m ≡ 3 = grind (arith, nat_tests) in (
        subst (λ (q : ℕ). heisenberg.right q l ≡ []) (sym e) refl,
        subst (λ (q : ℕ). heisenberg.right l q ≡ []) (sym e) (no_right (l == 1)),
      );
  picked = λ j l. one_right ((j == 1) && (l == 2));
}

-- the first a_1 passes a_2, the second passes the a_3 that this made, and then a_2
first_swap : Congruent free_three 1 (up 2 ∷ up 1 ∷ up 1 ∷ []) (up 1 ∷ up 2 ∷ up 3 ∷ up 1 ∷ [])
first_swap = after free_three 1 (up 1 ∷ [])
    (related free_three 1 (moves 1 2 (lit≤ tt) (lit< tt) (lit≤ tt)))

second_swap : Congruent free_three 1 (up 1 ∷ up 2 ∷ up 3 ∷ up 1 ∷ [])
    (up 1 ∷ up 2 ∷ up 1 ∷ up 3 ∷ up 4 ∷ [])
second_swap = before free_three 1 (up 1 ∷ up 2 ∷ [])
    (related free_three 1 (moves 1 3 (lit≤ tt) (lit< tt) (lit≤ tt)))

third_swap : Congruent free_three 1 (up 1 ∷ up 2 ∷ up 1 ∷ up 3 ∷ up 4 ∷ [])
    (up 1 ∷ up 1 ∷ up 2 ∷ up 3 ∷ up 3 ∷ up 4 ∷ [])
third_swap =
    within free_three 1 (up 1 ∷ []) (up 3 ∷ up 4 ∷ [])
    (related free_three 1 (moves 1 2 (lit≤ tt) (lit< tt) (lit≤ tt)))

pub stands_free : StandsFor free_three (pos 2 ∷ pos 1 ∷ pos 2 ∷ pos 1 ∷ pos 0 ∷ [])
    (up 2 ∷ up 1 ∷ up 1 ∷ [])
stands_free = back free_three 1
    (trans free_three 1 first_swap (trans free_three 1 second_swap third_swap))
