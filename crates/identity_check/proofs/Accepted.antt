-- A table none of whose events stops multiplies in the presentation.
--   rels a presentation · t table · j < l and k generators · c 1 or -1 · x y vectors · a letter
use Rattle.std.proofs.Common.{◌≡◌, ◌≢◌, ℕ, suc, ◌<◌, ◌≤◌, Bool, true, false, List, refl, sym, ap, ◌∙◌, subst, arith, inl}
use Rattle.std.proofs.lemmas.List.Elements.{All-weaker}
use lib.IntN.{ℤ, pos, negsuc}
use Rattle.nil_word.specs.declared.letter.Letter.{Letter}
use Rattle.nil_word.specs.Words.{IsIn, IsVector}
use Rattle.nil_word.specs.Congruence.{Relations, IsAbove}
use Rattle.nil_word.specs.Exponents.{signed}
use Rattle.hall_law.specs.Table.{zeros, added, single, exponents, IsZeroAbove, IsTable}
use Rattle.hall_law.proofs.Counting.{count_none, length-exponents, entry-exponents}
use Rattle.hall_law.proofs.Vectors.{IsAt, IsAt-added}
use Rattle.binom_poly.specs.Polynomial.{value_of}
use Rattle.binom_poly.specs.Collected.{constant_terms}
use Rattle.binom_poly.proofs.Canonical.{value-constant_terms}
use Rattle.hall_table.specs.Tabled.{Tabled, IsTabled, last_of}
use Rattle.hall_table.specs.Values.{values}
use Rattle.identity_check.specs.declared.identity.Identity.TheVariants.{UnitRight, UnitLeft, Up, Down, StepUp, StepDown, Relation}
use Rattle.identity_check.specs.Sides.{unit_vector, entry_of_unit, entry_of_pair, left_of, right_of}
use Rattle.identity_check.specs.Overflowing.{MakingOverflows, SidesOverflow}
use Rattle.identity_check.specs.Events.{Stops, HaveEqualSides}
use Rattle.identity_check.specs.Events.Event.{makes, tries}
use Rattle.identity_check.proofs.Agreeing.{bounds_of, IsOf, at-values, values_are}
use Rattle.identity_check.proofs.ByNumber.{unit_up, unit_down}
use Rattle.identity_check.proofs.UnitConditions.{unit_right, unit_left}
use Rattle.identity_check.proofs.OrderConditions.{vector_single, last_is_added}
use Rattle.identity_check.proofs.StepConditions.{steps_on}
use Rattle.identity_check.proofs.Walked.{OfWalk, of_walk, sides_equal}

abbrev Walk : Relations → Tabled → Type 0
Walk rels t = OfWalk (λ e. ¬ Stops rels t e) t

-- ---- letters
pub number_of : Bool → ℤ
number_of true = pos 1
number_of false = negsuc 0

sign_is : (up : Bool) → signed up (pos 1) ≡ number_of up
unfolding number_of
sign_is true = refl
sign_is false = refl

pub order_up : (rels : Relations) (t : Tabled) (j : ℕ) → IsTabled t → IsOf t j
    → ((k : ℕ) → IsOf t k → ¬ Stops rels t (tries (Up j k)))
    → (x : List ℤ) → IsVector (last_of t) t.level x → IsZeroAbove j x
    → values t x (single (last_of t) j (pos 1)) ≡ added x j (pos 1)
unfolding left_of right_of SidesOverflow
order_up rels t j h o n =
    last_is_added t j (pos 1) h o unit_up (λ k q v. n k q (inl v))
    (λ k q. sides_equal rels t (Up j k) (n k q))

order_of : (rels : Relations) (t : Tabled) (j : ℕ) (up : Bool) → IsTabled t → Walk rels t → IsOf t j
    → (x : List ℤ) → IsVector (last_of t) t.level x → IsZeroAbove j x
    → values t x (single (last_of t) j (number_of up)) ≡ added x j (number_of up)
unfolding number_of left_of right_of SidesOverflow
order_of rels t j true h w o = order_up rels t j h o (λ k q. w.up j k o q)
order_of rels t j false h w o =
    last_is_added t j (negsuc 0) h o unit_down (λ k q v. w.down j k o q (inl v))
    (λ k q. sides_equal rels t (Down j k) (w.down j k o q))

pub step_up : (rels : Relations) (t : Tabled) (j : ℕ) → IsTabled t → IsOf t j
    → ((k : ℕ) → IsOf t k → ¬ Stops rels t (makes (StepUp j k)))
    → ((k : ℕ) → IsOf t k → ¬ Stops rels t (tries (StepUp j k)))
    → (x y : List ℤ) → IsVector (last_of t) t.level x → IsVector (last_of t) t.level y
    → values t x (values t y (single (last_of t) j (pos 1)))
    ≡ values t (values t x y) (single (last_of t) j (pos 1))
unfolding left_of right_of SidesOverflow MakingOverflows
step_up rels t j h o m n =
    steps_on t j (pos 1) h o unit_up (record {
      makes = λ k q v. m k q (inl v);
      fits = λ k q v. n k q (inl v);
      same = λ k q. sides_equal rels t (StepUp j k) (n k q);
    })

step_of_letter : (rels : Relations) (t : Tabled) (j : ℕ) (up : Bool) → IsTabled t → Walk rels t
    → IsOf t j → (x y : List ℤ) → IsVector (last_of t) t.level x → IsVector (last_of t) t.level y
    → values t x (values t y (single (last_of t) j (number_of up)))
    ≡ values t (values t x y) (single (last_of t) j (number_of up))
unfolding number_of left_of right_of SidesOverflow MakingOverflows
step_of_letter rels t j true h w o =
    step_up rels t j h o (λ k q. w.makes_up j k o q) (λ k q. w.step_up j k o q)
step_of_letter rels t j false h w o =
    steps_on t j (negsuc 0) h o unit_down (record {
      makes = λ k q v. w.makes_down j k o q (inl v);
      fits = λ k q v. w.step_down j k o q (inl v);
      same = λ k q. sides_equal rels t (StepDown j k) (w.step_down j k o q);
    })

-- ---- relations
IsAt-exponents : (rels : Relations) (level j l : ℕ) → IsAbove rels → 1 ≤ j → j < l → level ≤ j
    → l ≤ rels.count → IsAt rels.count level (exponents rels.count (rels.right j l))
IsAt-exponents rels level j l h least below low high = record {
  size = length-exponents rels.count (rels.right j l);
  clear = λ m a b.
      entry-exponents rels.count (rels.right j l) m a (omega arith)
      ∙ count_none (rels.right j l) m
      (All-weaker (IsIn (suc l) rels.count) (λ (c : Letter). c.number ≢ m)
      (λ c i e. omega (arith, i.0)) (rels.right j l) (h.above j l least below high));
}

same_constants : (x y : ℤ) → constant_terms x ≡ constant_terms y → x ≡ y
same_constants x y e =
    sym (value-constant_terms (λ v. pos 0) x) ∙ ap (value_of (λ v. pos 0)) e
    ∙ value-constant_terms (λ v. pos 0) y

pub pair_multiplies : (rels : Relations) (t : Tabled) (j l : ℕ) → IsAbove rels → IsTabled t
    → last_of t ≡ rels.count → ((k : ℕ) → IsOf t k → ¬ Stops rels t (tries (Relation j l k)))
    → t.level ≤ j → j < l → l ≤ rels.count
    → values t (unit_vector t l) (unit_vector t j)
    ≡ added (added (exponents rels.count (rels.right j l)) l (pos 1)) j (pos 1)
unfolding left_of right_of
pair_multiplies rels t j l a h e n low below high =
    let b = bounds_of t h in
    let least : 1 ≤ t.level = b.least in
    let oj : IsOf t j = record { low = low; high = omega arith } in
    let ol : IsOf t l = record { low = omega arith; high = omega arith } in
    let v = exponents rels.count (rels.right j l) in
    let at : IsAt (last_of t) t.level (added (added v l (pos 1)) j (pos 1)) =
    subst (λ (n : ℕ). IsAt n t.level (added (added v l (pos 1)) j (pos 1))) (sym e)
    (IsAt-added rels.count t.level (added v l (pos 1)) j (pos 1)
    (IsAt-added rels.count t.level v l (pos 1)
    (IsAt-exponents rels t.level j l a (omega arith) below low high) (omega arith) (omega arith))
    (omega arith) low) in
    values_are t (unit_vector t l) (unit_vector t j) (added (added v l (pos 1)) j (pos 1)) h
    (vector_single t l (pos 1) b ol) (vector_single t j (pos 1) b oj) at
    (λ k q. same_constants (entry_of_unit t j l k) (entry_of_pair rels j l k)
    (sides_equal rels t (Relation j l k) (n k q)))

pair_walked : (rels : Relations) (t : Tabled) (j l : ℕ) → last_of t ≡ rels.count → Walk rels t
    → t.level ≤ j → j < l → l ≤ rels.count
    → (k : ℕ) → IsOf t k → ¬ Stops rels t (tries (Relation j l k))
pair_walked rels t j l e w low below high k q =
    w.relation j l k record { low = low; high = omega arith } below (omega arith) q

-- ---- the table
pub accepted : (rels : Relations) (t : Tabled) → IsAbove rels → IsTabled t → last_of t ≡ rels.count
    → HaveEqualSides rels t → IsTable rels t.level (values t)
unfolding left_of right_of
accepted rels t a h e s =
    let b = bounds_of t h in
    let w : Walk rels t = of_walk (λ d. ¬ Stops rels t d) t s in
    let f = values t in
    let level = t.level in
    let Unit_at : ℕ → Type 0 = λ n. (x : List ℤ) → IsVector n level x
    → (f x (zeros n) ≡ x) × (f (zeros n) x ≡ x) in
    let Order_at : ℕ → Type 0 = λ n. (c : Letter) (x : List ℤ) → IsIn level n c → IsVector n level x
    → IsZeroAbove c.number x
    → f x (single n c.number (signed c.up (pos 1))) ≡ added x c.number (signed c.up (pos 1)) in
    let Step_at : ℕ → Type 0 = λ n. (c : Letter) (x y : List ℤ) → IsIn level n c
    → IsVector n level x → IsVector n level y
    → f x (f y (single n c.number (signed c.up (pos 1))))
    ≡ f (f x y) (single n c.number (signed c.up (pos 1))) in
    let Pair_at : ℕ → Type 0 = λ n. (j l : ℕ) → level ≤ j → j < l → l ≤ rels.count
    → f (single n l (pos 1)) (single n j (pos 1))
    ≡ added (added (exponents rels.count (rels.right j l)) l (pos 1)) j (pos 1) in
    let Closed_at : ℕ → Type 0 = λ n. (x y : List ℤ) → IsVector n level x → IsVector n level y
    → IsVector n level (f x y) in
    record {
      least = b.least;
      most = subst (λ (n : ℕ). level ≤ n) e b.most;
      closed = subst Closed_at e (λ x y hx hy. at-values t x y h hx hy);
      multiplies = record {
        unit = subst Unit_at e (λ x hx. (
          unit_right t h (λ k o. sides_equal rels t (UnitRight k) (w.unit_right k o)) x hx,
          unit_left t h (λ k o. sides_equal rels t (UnitLeft k) (w.unit_left k o)) x hx,
        ));
        order = subst Order_at e (λ c x i hx z.
            subst (λ (y : ℤ). f x (single (last_of t) c.number y) ≡ added x c.number y)
            (sym (sign_is c.up))
            (order_of rels t c.number c.up h w record { low = i.0; high = i.1 } x hx z));
        step = subst Step_at e (λ c x y i hx hy.
            subst (λ (v : ℤ). f x (f y (single (last_of t) c.number v))
            ≡ f (f x y) (single (last_of t) c.number v)) (sym (sign_is c.up))
            (step_of_letter rels t c.number c.up h w record { low = i.0; high = i.1 } x y hx hy));
        relations = subst Pair_at e (λ j l low below high.
            pair_multiplies rels t j l a h e (pair_walked rels t j l e w low below high) low below high);
      };
    }
