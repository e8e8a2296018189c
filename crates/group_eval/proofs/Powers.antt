-- What the written order of a power gives is the vector of the word raised.
--   d e n m exponents · c presentation with its table · a b h p s x vectors · u v w words
use Rattle.std.proofs.Common.{◌≡◌, ◌≢◌, ℕ, zero, suc, ◌+◌, ◌/◌, ◌%◌, ◌≤◌, false, eqb, ℤ, pos, negsuc, List, [], ◌++◌, sym, ◌∙◌, ap, subst, append_assoc, append-nil, arith, inl, inr}
use Rattle.std.specs.Prelude.{Ok, ◌==◌, if◌then◌else◌}
use Rattle.std.proofs.lemmas.Bool.{eqb-true}
use Rattle.std.proofs.lemmas.Bool.Decides.{nat_tests}
use Rattle.nil_word.specs.declared.letter.Letter.{Letter}
use Rattle.nil_word.specs.Words.{inverse}
use Rattle.nil_word.specs.Expressions.{repeated}
use Rattle.nil_word.proofs.Expanding.{repeated-append}
use Rattle.hall_law.specs.Table.{zeros}
use Rattle.hall_table.specs.Tabled.{last_of}
use Rattle.hall_table.specs.Multiplies.{Paired}
use Rattle.hall_table.specs.Order.{multiplied}
use Rattle.group_eval.specs.Elements.{IsOf}
use Rattle.group_eval.specs.Order.{Outcome, and_then, inverted, squared_and, powered_in}
use Rattle.group_eval.specs.Laws.{MultipliedIs, InvertedIs, PoweredIs}
use Rattle.group_eval.proofs.Outcomes.{and_then_ok, if_ok}

pub repeated-add : (n m : ℕ) (u : List Letter) → repeated (n + m) u ≡ repeated n u ++ repeated m u
repeated-add zero m u = let e : 0 + m ≡ m = omega arith in ap (λ k. repeated k u) e
repeated-add (suc n) m u =
    let e : suc n + m ≡ suc (n + m) = omega arith in
    ap (λ k. repeated k u) e ∙ ap (λ w. u ++ w) (repeated-add n m u)
    ∙ sym (append_assoc u (repeated n u) (repeated m u))

not_equal : (n m : ℕ) → eqb n m ≡ false → n ≢ m
not_equal n m h = grind (arith, nat_tests)

-- of a number from 2 on: its half is smaller
half_below : (d e : ℕ) → e ≤ suc d → e ≢ 0 → e ≢ 1 → e / 2 ≤ d
half_below d e h none one = omega arith

odd_whole : (e : ℕ) → e % 2 ≡ 1 → suc (e / 2 + e / 2) ≡ e
odd_whole e h = omega arith

even_whole : (e : ℕ) → e % 2 ≢ 1 → e / 2 + e / 2 ≡ e
even_whole e h = omega arith

module _ (c : Paired) (multiplies : MultipliedIs c) (empty : IsOf c (zeros (last_of c.table)) [])
  where
    abbrev squared_or_more : List ℤ → ℕ → List ℤ → Outcome
    squared_or_more a e s = if e % 2 == 1 then multiplied c.table s a else Ok s

    squared_is : (a h x : List ℤ) (e : ℕ) (u : List Letter) → squared_and c.table a e h ≡ Ok x
        → IsOf c a u → IsOf c h (repeated (e / 2) u) → IsOf c x (repeated e u)
    squared_is a h x e u is ha hh =
        let w = repeated (e / 2) u in
        let (s, first, last) = and_then_ok (multiplied c.table h h) (squared_or_more a e) x is in
        let square : IsOf c s (repeated (e / 2 + e / 2) u) =
        subst (λ (v : List Letter). IsOf c s v) (sym (repeated-add (e / 2) (e / 2) u))
        (multiplies h h s w w first hh hh) in
        elim (if_ok (e % 2 == 1) (multiplied c.table s a) (Ok s) x last) [
          | inl odd ↦
              subst (λ (n : ℕ). IsOf c x (repeated n u)) (odd_whole e (eqb-true (e % 2) 1 odd.0))
              (subst (λ (v : List Letter). IsOf c x v) (repeated-append (e / 2 + e / 2) u)
              (multiplies s a x (repeated (e / 2 + e / 2) u) u odd.1 square ha))
          | inr even ↦
              (let same : s ≡ x = let z = even.1 in cc in
              subst (λ (n : ℕ). IsOf c x (repeated n u))
              (even_whole e (not_equal (e % 2) 1 even.0))
              (subst (λ (y : List ℤ). IsOf c y (repeated (e / 2 + e / 2) u)) same square))
        ]

    pub powered_in_is : (d : ℕ) (a x : List ℤ) (e : ℕ) (u : List Letter) → e ≤ d
        → powered_in d c.table a e ≡ Ok x → IsOf c a u → IsOf c x (repeated e u)
    powered_in_is zero a x e u most is ha =
        let none : 0 ≡ e = omega arith in
        let same : zeros (last_of c.table) ≡ x = cc in
        subst (λ (n : ℕ). IsOf c x (repeated n u)) none
        (subst (λ (y : List ℤ). IsOf c y []) same empty)
    powered_in_is (suc d) a x e u most is ha =
        let halves = and_then (powered_in d c.table a (e / 2)) (squared_and c.table a e) in
        let rest : Outcome = if e == 1 then Ok a else halves in
        elim (if_ok (e == 0) (Ok (zeros (last_of c.table))) rest x is) [
          | inl h ↦
              (let same : zeros (last_of c.table) ≡ x = let z = h.1 in cc in
              subst (λ (n : ℕ). IsOf c x (repeated n u)) (sym (eqb-true e 0 h.0))
              (subst (λ (y : List ℤ). IsOf c y []) same empty))
          | inr some ↦
              elim (if_ok (e == 1) (Ok a) halves x some.1) [
                | inl h ↦
                    (let same : a ≡ x = let z = h.1 in cc in
                    subst (λ (n : ℕ). IsOf c x (repeated n u)) (sym (eqb-true e 1 h.0))
                    (subst (λ (v : List Letter). IsOf c x v) (sym (append-nil u))
                    (subst (λ (y : List ℤ). IsOf c y u) same ha)))
                | inr more ↦
                    (let (p, first, last) =
                    and_then_ok (powered_in d c.table a (e / 2)) (squared_and c.table a e) x more.1 in
                    squared_is a p x e u last ha
                    (powered_in_is d a p (e / 2) u
                    (half_below d e most (not_equal e 0 some.0) (not_equal e 1 more.0)) first ha))
              ]
        ]

    pub powered_is : InvertedIs c → PoweredIs c
    powered_is inverts a x (pos e) u is ha = powered_in_is e a x e u (omega arith) is ha
    powered_is inverts a x (negsuc e) u is ha =
        let (b, first, last) =
        and_then_ok (inverted c.table a) (λ b. powered_in (suc e) c.table b (suc e)) x is in
        powered_in_is (suc e) b x (suc e) (inverse u) (omega arith) last (inverts a b u first ha)
