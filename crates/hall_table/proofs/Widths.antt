-- The widths that the tops of a table give.
--   level level · k generator · v variable · ts tops · t table
use Rattle.std.proofs.Common.{◌≡◌, ℕ, ◌+◌, ◌%◌, ◌≤◌, Bool, true, false, cond, List, [], ◌∷◌, ◌++◌, length, refl, sym, ap, ◌∙◌, subst, arith, inl, inr, eqb}
use Rattle.std.specs.Prelude.{max, All}
use Rattle.std.proofs.lemmas.Bool.{cases_Bool, false≢true, eqb-true}
use Rattle.std.proofs.lemmas.Bool.Decides.{nat_tests}
use Rattle.std.proofs.lemmas.List.Elements.{All-push}
use lib.IntN.{pos}
use Rattle.binom_poly.specs.declared.term.Term.{Term}
use Rattle.binom_poly.specs.declared.top.Top.{Top}
use Rattle.binom_poly.specs.Monomial.{IsVariable}
use Rattle.binom_poly.specs.Exponents.{greatest_in}
use Rattle.binom_poly.specs.Reading.{Reading}
use Rattle.binom_poly.specs.Readings.{width_in, width_of, reading_at}
use Rattle.binom_poly.specs.Variable.{y_of}
use Rattle.hall_table.specs.Shape.{is_lower}
use Rattle.hall_table.specs.Tabled.{Tabled, IsTabled, last_of}
use Rattle.hall_table.specs.Width.{HasRows}

-- ---- variables
pub x_variable : (k : ℕ) → 1 ≤ k → k ≤ 48 → IsVariable k
x_variable k low high =
    let r : k % 64 ≡ k = omega arith in
    rw r (grind (arith, nat_tests))

pub y_variable : (k : ℕ) → 1 ≤ k → k ≤ 48 → IsVariable (64 + k)
y_variable k low high =
    let r : (64 + k) % 64 ≡ k = omega arith in
    rw r (grind (arith, nat_tests))

-- ---- the tops so far
width_in-append : (w : ℕ) (ts : List Top) (t : Top) (v : ℕ)
    → width_in w (ts ++ t ∷ []) v ≡ cond (eqb t.var v) (t.top + 1) (width_in w ts v)
width_in-append w [] t v = refl
width_in-append w (s ∷ ss) t v = width_in-append (cond (eqb s.var v) (s.top + 1) w) ss t v

-- the row of v among those of the generators below k
abbrev pub width_below : Tabled → ℕ → ℕ → ℕ
width_below t k v = cond (is_lower t.level k v) (max (greatest_in v t.polys) 1 + 1) 0

abbrev pub top_of : Tabled → ℕ → Top
top_of t v = record { var = v; top = max (greatest_in v t.polys) 1 }

pub top_is : (t : Tabled) (v g : ℕ) (ps : List (List Term)) (x : Top) → x ≡ record { var = v; top = max g 1 }
    → g ≡ greatest_in v ps → ps ≡ t.polys → x ≡ top_of t v
top_is t v g ps x e f n =
    e ∙ ap (λ (m : ℕ). record { var = v; top = max m 1 }) (f ∙ ap (greatest_in v) n)

pub greatest_in-small : (t : Tabled) (ps : List (List Term)) → ((v : ℕ) → greatest_in v ps ≤ 1000) → ps ≡ t.polys
    → (v : ℕ) → greatest_in v t.polys ≤ 1000
greatest_in-small t ps h e v = subst (λ (qs : List (List Term)). greatest_in v qs ≤ 1000) e (h v)

width_below-other : (t : Tabled) (k v : ℕ) → eqb k v ≡ false → eqb (y_of k) v ≡ false
    → is_lower t.level k v ≡ is_lower t.level (k + 1) v
width_below-other t k v x y = grind (arith, nat_tests)

pub width_below-more : (t : Tabled) (k v : ℕ) (ts : List Top) → t.level ≤ k → width_of ts v ≡ width_below t k v
    → width_of ((ts ++ top_of t k ∷ []) ++ top_of t (y_of k) ∷ []) v ≡ width_below t (k + 1) v
width_below-more t k v ts l h =
    width_in-append 0 (ts ++ top_of t k ∷ []) (top_of t (y_of k)) v
    ∙ (elim (cases_Bool (eqb (y_of k) v)) [
      | inl y ↦ ap (λ (b : Bool). cond b (max (greatest_in (y_of k) t.polys) 1 + 1) (width_of (ts ++ top_of t k ∷ []) v)) y
          ∙ subst (λ (u : ℕ). max (greatest_in (y_of k) t.polys) 1 + 1 ≡ width_below t (k + 1) u) (eqb-true (y_of k) v y)
          (ap (λ (b : Bool). cond b (max (greatest_in (y_of k) t.polys) 1 + 1) 0) (sym y_lower))
      | inr y ↦ ap (λ (b : Bool). cond b (max (greatest_in (y_of k) t.polys) 1 + 1) (width_of (ts ++ top_of t k ∷ []) v)) y
          ∙ width_in-append 0 ts (top_of t k) v
          ∙ (elim (cases_Bool (eqb k v)) [
            | inl x ↦ ap (λ (b : Bool). cond b (max (greatest_in k t.polys) 1 + 1) (width_of ts v)) x
                ∙ subst (λ (u : ℕ). max (greatest_in k t.polys) 1 + 1 ≡ width_below t (k + 1) u) (eqb-true k v x)
                (ap (λ (b : Bool). cond b (max (greatest_in k t.polys) 1 + 1) 0) (sym x_lower))
            | inr x ↦ ap (λ (b : Bool). cond b (max (greatest_in k t.polys) 1 + 1) (width_of ts v)) x ∙ h
                ∙ ap (λ (b : Bool). cond b (max (greatest_in v t.polys) 1 + 1) 0) (width_below-other t k v x y)
          ])
    ])
  where
    x_lower : is_lower t.level (k + 1) k ≡ true
    x_lower = grind (arith, nat_tests)

    y_lower : is_lower t.level (k + 1) (y_of k) ≡ true
    y_lower = grind (arith, nat_tests)

pub width_below-none : (t : Tabled) (v : ℕ) → width_below t t.level v ≡ 0
width_below-none t v =
    elim (cases_Bool (is_lower t.level t.level v)) [
      | inl b ↦ absurd (let n : is_lower t.level t.level v ≡ false = none in false≢true (sym n ∙ b))
      | inr b ↦ ap (λ (c : Bool). cond c (max (greatest_in v t.polys) 1 + 1) 0) b
    ]
  where
    none : is_lower t.level t.level v ≡ false
    none = grind (arith, nat_tests)

-- ---- the loop over the generators
pub record TopsSoFar (t : Tabled) (k : ℕ) (ts : List Top) : Type 0 where
  pub variables : All (λ u. IsVariable u.var × (u.top ≤ 1000)) ts
  pub widths : (v : ℕ) → width_of ts v ≡ width_below t k v

pub tops_begin : (t : Tabled) (k : ℕ) (ts : List Top) → k ≡ t.level → ts ≡ [] → TopsSoFar t k ts
tops_begin t k ts e n = record {
  variables = subst (λ us. All (λ (u : Top). IsVariable u.var × (u.top ≤ 1000)) us) (sym n) (λ i d l. absurd (omega arith));
  widths = λ v.
      ap (λ us. width_of us v) n
      ∙ sym (ap (λ (j : ℕ). width_below t j v) e ∙ width_below-none t v);
}

pub tops_more : (t : Tabled) (k : ℕ) (ts one two : List Top) (x y : Top) → IsTabled t
    → ((v : ℕ) → greatest_in v t.polys ≤ 1000) → t.level ≤ k → k ≤ last_of t
    → TopsSoFar t k ts → x ≡ top_of t k → y ≡ top_of t (y_of k) → one ≡ ts ++ x ∷ [] → two ≡ one ++ y ∷ []
    → TopsSoFar t (k + 1) two
tops_more t k ts one two x y h small low high s e f g i =
    let positive : 1 ≤ t.level = h.least in
    let most : t.level + length t.polys ≤ 49 = h.most in
    let Fits : Top → Type 0 = λ u. IsVariable u.var × (u.top ≤ 1000) in
    let whole : two ≡ (ts ++ top_of t k ∷ []) ++ top_of t (y_of k) ∷ [] =
    i ∙ ap (λ us. us ++ y ∷ []) (g ∙ ap (λ (u : Top). ts ++ u ∷ []) e) ∙ ap (λ (u : Top). (ts ++ top_of t k ∷ []) ++ u ∷ []) f in
    record {
      variables =
          subst (All Fits) (sym whole)
          (All-push Fits (ts ++ top_of t k ∷ []) (top_of t (y_of k))
          (All-push Fits ts (top_of t k) s.variables (x_variable k (omega arith) (omega arith), omega (arith, small k)))
          (y_variable k (omega arith) (omega arith), omega (arith, small (y_of k))));
      widths = λ v. ap (λ us. width_of us v) whole ∙ width_below-more t k v ts low (s.widths v);
    }

pub rows_made : (t : Tabled) (k end : ℕ) (ts us : List Top) (rows : List Reading) → TopsSoFar t k ts → us ≡ ts
    → end ≡ last_of t + 1 → end ≤ k → k ≤ end
    → ((v : ℕ) → reading_at rows v ≡ record { value = pos 0; width = width_of us v })
    → HasRows t rows
rows_made t k end ts us rows s e f low high h =
    let same : k ≡ last_of t + 1 = omega arith in
    record {
      width = λ v.
          ap (λ (r : Reading). r.width) (h v) ∙ ap (λ ws. width_of ws v) e ∙ s.widths v
          ∙ ap (λ (j : ℕ). width_below t j v) same;
    }
