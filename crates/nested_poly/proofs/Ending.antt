-- The part that a tail ends with
use Rattle.std.proofs.Common.{◌≡◌, ℕ, zero, suc, ◌-◌, ◌+◌, ◌<◌, ◌≤◌, List, [], ◌∷◌, ◌++◌, length, get_or, take, drop, Bool, true, false, not, ◌&&◌, eqb, refl, sym, ap, ◌∙◌, arith}
use Rattle.std.proofs.lemmas.Bool.{false≢true, eq-eqb, eqb-true}
use Rattle.std.specs.Cmp.{first_so, second_so}
use Rattle.std.proofs.lemmas.Grind.{common_steps, take_at_read}
use Rattle.binom_poly.specs.declared.part.Part.{Part}
use Rattle.nested_poly.specs.declared.tail.Tail.{Tail}
use Rattle.nested_poly.specs.Tails.{last_part}

-- ---- the test of the last part
not_false : (b : Bool) → false ≡ not b → b ≡ true
not_false true e = refl
not_false false e = absurd (false≢true e)

not_true : (b : Bool) → b ≡ true → true ≡ not b → ⊥
not_true true e f = false≢true (sym f)
not_true false e f = false≢true e

abbrev pub same : Part → Part → Bool
same q p = eqb q.var p.var && eqb q.exp p.exp

pub same_is : (q p : Part) → same q p ≡ true → q ≡ p
same_is q p h =
    ap (λ (v : ℕ). let r : Part = record { var = v; exp = q.exp } in r) (eqb-true q.var p.var (first_so (eqb q.var p.var) (eqb q.exp p.exp) h))
    ∙ ap (λ (x : ℕ). let r : Part = record { var = p.var; exp = x } in r) (eqb-true q.exp p.exp (second_so (eqb q.var p.var) (eqb q.exp p.exp) h))

and_true : (a b : Bool) → a ≡ true → b ≡ true → (a && b) ≡ true
and_true true b e f = f
and_true false b e f = e

same_own : (q p : Part) → q ≡ p → same q p ≡ true
same_own q p e = and_true (eqb q.var p.var) (eqb q.exp p.exp) (eq-eqb q.var p.var (ap (λ (r : Part). r.var) e)) (eq-eqb q.exp p.exp (ap (λ (r : Part). r.exp) e))

get_last : (xs : List Part) (i : ℕ) (d e : Part) → i < length xs → get_or (drop i xs) 0 d ≡ get_or xs i e
get_last [] i d e l = absurd (omega arith)
get_last (x ∷ xs) zero d e l = refl
get_last (x ∷ xs) (suc i) d e l = get_last xs i d e (omega arith)

end_part : (ms ls : List Part) (d p : Part) (i : ℕ) → ls ≡ drop i ms → i + 1 ≡ length ms → get_or ls 0 d ≡ last_part ms p
end_part ms ls d p i e l = ap (λ xs. get_or xs 0 d) e ∙ get_last ms i d p (omega arith) ∙ ap (λ j. get_or ms j p) (before i (length ms) l)
  where
    before : (i n : ℕ) → i + 1 ≡ n → i ≡ n - 1
    before i n e = omega arith

pub ends_other : (ms ls : List Part) (d p : Part) (i : ℕ) → ls ≡ drop i ms → i + 1 ≡ length ms → true ≡ not (same (get_or ls 0 d) p) → last_part ms p ≡ p → ⊥
ends_other ms ls d p i e l h b = not_true (same (get_or ls 0 d) p) (same_own (get_or ls 0 d) p (end_part ms ls d p i e l ∙ b)) h

pub ends_with : (ms rs ls : List Part) (d p : Part) (i : ℕ) → rs ≡ take i ms → ls ≡ drop i ms → i + 1 ≡ length ms → false ≡ not (same (get_or ls 0 d) p) → ms ≡ rs ++ p ∷ []
ends_with ms rs ls d p i e f l h =
    let q : get_or ms i p ≡ p = sym (get_last ms i d p (omega arith)) ∙ ap (λ xs. get_or xs 0 d) (sym f) ∙ same_is (get_or ls 0 d) p (not_false (same (get_or ls 0 d) p) h) in
    sym (all_taken ms (i + 1) (omega arith)) ∙ (take_at_read ms i p (omega arith)).1 ∙ ap (λ r. take i ms ++ r ∷ []) q ∙ ap (λ xs. xs ++ p ∷ []) (sym e)
  where
    all_taken : (xs : List Part) (j : ℕ) → length xs ≤ j → take j xs ≡ xs
    all_taken xs j m = grind (arith, common_steps)

pub ends_alone : (ms rs ls : List Part) (d p : Part) (i : ℕ) → rs ≡ take i ms → ls ≡ drop i ms → i + 1 ≡ length ms → false ≡ not (same (get_or ls 0 d) p) → length rs ≤ 0 → ms ≡ p ∷ []
ends_alone ms rs ls d p i e f l h n = ends_with ms rs ls d p i e f l h ∙ ap (λ xs. xs ++ p ∷ []) (none rs n)
  where
    none : (xs : List Part) → length xs ≤ 0 → xs ≡ []
    none [] n = refl
    none (x ∷ xs) n = absurd (omega arith)

pub own_last : (ms : List Part) (i : ℕ) (d : Part) → i + 1 ≡ length ms → last_part ms (get_or ms i d) ≡ get_or ms i d
own_last ms i d l = ap (λ j. get_or ms j (get_or ms i d)) (before i (length ms) l) ∙ own_at ms i d (omega arith)
  where
    before : (i n : ℕ) → i + 1 ≡ n → n - 1 ≡ i
    before i n e = omega arith

    own_at : (ms : List Part) (i : ℕ) (d : Part) → i < length ms → get_or ms i (get_or ms i d) ≡ get_or ms i d
    own_at [] i d l = absurd (omega arith)
    own_at (p ∷ ps) zero d l = refl
    own_at (p ∷ ps) (suc i) d l = own_at ps i d (omega arith)

pub tail_at : (xs : List Tail) (i : ℕ) (d : Tail) → i < length xs → take (i + 1) xs ≡ take i xs ++ get_or xs i d ∷ []
tail_at xs i d l = (take_at_read xs i d l).1
