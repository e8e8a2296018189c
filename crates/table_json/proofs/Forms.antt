-- Values that say terms say polynomials in their form, as these are written, and the other way.
--   n generators · k generator · b the monomial before · d ds values · m ps monomial · t u terms
--   p polynomial
use Rattle.std.proofs.Common.{◌≡◌, ◌≢◌, ℕ, suc, ◌+◌, ◌≤◌, ◌<◌, List, [], ◌∷◌, true, length, map, get_or, Option, Some, None, inl, inr, refl, sym, ◌∙◌, ap, subst, arith}
use Rattle.std.specs.Prelude.{All, IsTrue}
use Rattle.std.proofs.lemmas.Bool.{cases_Bool}
use Rattle.std.proofs.lemmas.List.Elements.{All-nil, All-cons, All-head, All-tail}
use Rattle.serde_json.specs.Data.{Data}
use Rattle.binom_poly.specs.declared.part.Part.{Part}
use Rattle.binom_poly.specs.declared.term.Term.{Term}
use Rattle.binom_poly.specs.Monomial.{IsVariable, IsMonomialAbove}
use Rattle.binom_poly.specs.Polynomial.{IsTerm, IsPolynomialFrom, IsPolynomial}
use Rattle.binom_poly.specs.Variable.{y_of}
use Rattle.hall_table.specs.Shape.{alone, is_alone, is_lower, AreLower, HasShape}
use Rattle.hall_table.proofs.Shapes.{alone_is, not_alone}
use Rattle.hall_table.proofs.Widths.{x_variable, y_variable}
use Rattle.table_json.specs.Format.{array_of, term_data, poly_data}
use Rattle.table_json.specs.Refusing.{SaysTerms, SaysPolys}
use Rattle.table_json.specs.TermRules.{IsPart, Ascend, IsBehind, SaysTerm}
use Rattle.table_json.proofs.Names.{side_of, lower_x, lower_y, lower_more}

variable_is : (n v : ℕ) → n ≤ 48 → is_lower 1 (n + 1) v ≡ true → IsVariable v
variable_is n v most h =
    let found = side_of n v most h in
    elim found.3 [
      | inl x ↦ subst IsVariable (sym x) (x_variable found.0 found.1 (omega (arith, found.2)))
      | inr y ↦ subst IsVariable (sym y) (y_variable found.0 found.1 (omega (arith, found.2)))
    ]

pub is_monomial : (n low : ℕ) (ps : List Part) → n ≤ 48 → Ascend low ps → All (IsPart n) ps
    → IsMonomialAbove low ps
unfolding IsMonomialAbove
is_monomial n low [] most up right = tt
is_monomial n low (p ∷ ps) most up right =
    let is = All-head (IsPart n) p ps right in (
      up.0,
      variable_is n p.var most is.variable,
      is.least,
      is.most,
      is_monomial n p.var ps most up.1 (All-tail (IsPart n) p ps right),
    )

term_is : (n : ℕ) (b : Option (List Part)) (d : Data) (t : Term) → n ≤ 48 → SaysTerm n b d t
    → IsTerm t
term_is n b d t most says = record {
  monomial = is_monomial n 0 t.monomial most says.order.ascend says.form.parts;
  not_zero = says.coefficient.not_zero;
  within = says.coefficient.within;
}

is_polynomial_from : (n : ℕ) (b : Option (List Part)) (ds : List Data) (t : Term) (ts : List Term)
    → n ≤ 48 → SaysTerms n b ds (t ∷ ts) → IsPolynomialFrom t ts
unfolding IsPolynomialFrom
is_polynomial_from n b [] t ts most h = absurd h
is_polynomial_from n b (d ∷ ds) t [] most h = term_is n b d t most h.0
is_polynomial_from n b (d ∷ []) t (u ∷ us) most h = absurd h.1
is_polynomial_from n b (d ∷ e ∷ ds) t (u ∷ us) most h = (
  term_is n b d t most h.0,
  h.1.0.order.behind,
  is_polynomial_from n (Some t.monomial) (e ∷ ds) u us most h.1,
)

pub is_polynomial : (n : ℕ) (b : Option (List Part)) (ds : List Data) (ts : List Term) → n ≤ 48
    → SaysTerms n b ds ts → IsPolynomial ts
unfolding IsPolynomial
is_polynomial n b ds [] most h = tt
is_polynomial n b ds (t ∷ ts) most h = is_polynomial_from n b ds t ts most h

-- ---- as they are written
terms_written : (n : ℕ) (b : Option (List Part)) (ds : List Data) (ts : List Term)
    → SaysTerms n b ds ts
    → ds ≡ map term_data ts
terms_written n b [] [] h = refl
terms_written n b [] (t ∷ ts) h = absurd h
terms_written n b (d ∷ ds) [] h = absurd h
terms_written n b (d ∷ ds) (t ∷ ts) h =
    ap (λ x. x ∷ ds) h.0.form.written
    ∙ ap (λ xs. term_data t ∷ xs) (terms_written n (Some t.monomial) ds ts h.1)

pub polys_written : (n : ℕ) (ds : List Data) (ps : List (List Term)) → SaysPolys n ds ps
    → ds ≡ map poly_data ps
polys_written n [] [] h = refl
polys_written n [] (p ∷ ps) h = absurd h
polys_written n (d ∷ ds) [] h = absurd h
polys_written n (d ∷ ds) (p ∷ ps) h =
    ap (λ x. x ∷ ds) (h.0.1 ∙ ap array_of (terms_written n None h.0.0 p h.0.2))
    ∙ ap (λ xs. poly_data p ∷ xs) (polys_written n ds ps h.1)

-- ---- polynomials of a table
abbrev pub IsHeld : ℕ → List Part → Type 0
IsHeld n m = All (λ q. IsTrue (is_lower 1 (n + 1) q.var)) m

-- the shape lets no other variables in
pub held : (n k : ℕ) (m : List Part) → 1 ≤ k → k ≤ n
    → (m ≢ alone k → m ≢ alone (y_of k) → AreLower 1 k m) → IsHeld n m
held n k m least most h =
    let V : Part → Type 0 = λ q. IsTrue (is_lower 1 (n + 1) q.var) in
    elim (cases_Bool (is_alone k m)) [
      | inl x ↦
          subst (IsHeld n) (sym (alone_is k m x))
          (All-cons V record { var = k; exp = 1 } [] (lower_x n k least most) (All-nil V))
      | inr x ↦ elim (cases_Bool (is_alone (y_of k) m)) [
        | inl y ↦
            subst (IsHeld n) (sym (alone_is (y_of k) m y))
            (All-cons V record { var = y_of k; exp = 1 } [] (lower_y n k least most) (All-nil V))
        | inr y ↦ λ i q l.
            lower_more n k (get_or m i q).var least most (h (not_alone k m x) (not_alone (y_of k) m
            y) i q l)
      ]
    ]

pub right_parts : (n low : ℕ) (ps : List Part) → IsMonomialAbove low ps → IsHeld n ps
    → All (IsPart n) ps
unfolding IsMonomialAbove
right_parts n low [] form vars = All-nil (IsPart n)
right_parts n low (p ∷ ps) form vars =
    let V : Part → Type 0 = λ q. IsTrue (is_lower 1 (n + 1) q.var) in
    All-cons (IsPart n) p ps
    record { variable = All-head V p ps vars; least = form.2; most = form.3 }
    (right_parts n p.var ps form.4 (All-tail V p ps vars))

ascends : (low : ℕ) (ps : List Part) → IsMonomialAbove low ps → Ascend low ps
unfolding IsMonomialAbove
ascends low [] form = tt
ascends low (p ∷ ps) form = (form.0, ascends p.var ps form.4)

term_says : (n : ℕ) (b : Option (List Part)) (t : Term) → IsTerm t → IsBehind b t.monomial
    → IsHeld n t.monomial → SaysTerm n b (term_data t) t
term_says n b t form behind vars = record {
  form = record { written = refl; parts = right_parts n 0 t.monomial form.monomial vars };
  coefficient = record { decimal = refl; not_zero = form.not_zero; within = form.within };
  order = record { ascend = ascends 0 t.monomial form.monomial; behind = behind };
}

abbrev pub AreHeld : ℕ → List Term → Type 0
AreHeld n p = All (λ t. IsHeld n t.monomial) p

say_from : (n : ℕ) (b : Option (List Part)) (t : Term) (ts : List Term) → IsBehind b t.monomial
    → IsPolynomialFrom t ts → AreHeld n (t ∷ ts)
    → SaysTerms n b (map term_data (t ∷ ts)) (t ∷ ts)
unfolding IsPolynomialFrom
say_from n b t [] behind form vars =
    (term_says n b t form behind (All-head (λ u. IsHeld n u.monomial) t [] vars), tt)
say_from n b t (u ∷ us) behind form vars = (
  term_says n b t form.0 behind (All-head (λ u. IsHeld n u.monomial) t (u ∷ us) vars),
  say_from n (Some t.monomial) u us form.1 form.2
      (All-tail (λ u. IsHeld n u.monomial) t (u ∷ us) vars),
)

terms_say : (n : ℕ) (p : List Term) → IsPolynomial p → AreHeld n p
    → SaysTerms n None (map term_data p) p
unfolding IsPolynomial
terms_say n [] form vars = tt
terms_say n (t ∷ ts) form vars = say_from n None t ts tt form vars

pub poly_held : (n k : ℕ) (p : List Term) → 1 ≤ k → k ≤ n → HasShape 1 k p → AreHeld n p
poly_held n k p least most shape = λ i t l. held n k (get_or p i t).monomial least most
    (shape.others i t l)

pub polys_say : (n k : ℕ) (ps : List (List Term)) → 1 ≤ k → k + length ps ≤ n + 1
    → ((i : ℕ) → i < length ps → IsPolynomial (get_or ps i []))
    → ((i : ℕ) → i < length ps → HasShape 1 (k + i) (get_or ps i []))
    → SaysPolys n (map poly_data ps) ps
polys_say n k [] least most forms shapes = tt
polys_say n k (p ∷ ps) least most forms shapes =
    let first : HasShape 1 k p =
    subst (λ j. HasShape 1 j p) (omega arith) (shapes 0 (omega arith)) in (
      (
        map term_data p,
        refl,
        terms_say n p (forms 0 (omega arith))
            (poly_held n k p least (omega arith) first),
      ),
      polys_say n (k + 1) ps (omega arith) (omega arith) (λ i l. forms (suc i) (omega arith))
          (λ i l. subst (λ j. HasShape 1 j (get_or ps i [])) (omega arith) (shapes (suc i) (omega
          arith))),
    )
