-- What the written order of expressions gives, from what that of elements gives.
--   c a presentation with its table · t table · e es expressions · a b v vectors · w word
--   r s outcomes · k generator · z exponent
use Rattle.std.proofs.Common.{◌≡◌, ℕ, ◌≤◌, nat_le, Bool, true, ◌&&◌, ℤ, pos, Option, Some, None, Ok, List, [], ◌∷◌, ◌++◌, length, map, refl, sym, ◌∙◌, ap, subst, append_assoc}
use Rattle.std.specs.List.{list_all}
use Rattle.std.proofs.lemmas.List.{append-nil}
use Rattle.std.proofs.lemmas.Bool.{leb-true, and_parts}
use Rattle.nil_word.specs.declared.letter.Letter.{Letter}
use Rattle.nil_word.specs.declared.expr.Expr.{Expr, Expr-F, fold-Expr, fold-roll-Expr, ind-Expr, map-Expr, roll-Expr}
use Rattle.nil_word.specs.declared.expr.Expr.TheOpen as level
use Rattle.nil_word.specs.Words.{up, power}
use Rattle.nil_word.specs.Expressions.{raised, commutator, conjugate, word_of_level, unrolled, joined_words, is_within, is_shaped_level}
use Rattle.hall_law.specs.Table.{zeros, single}
use Rattle.hall_table.specs.Tabled.{Tabled, last_of}
use Rattle.hall_table.specs.Multiplies.{Paired}
use Rattle.hall_table.specs.Order.{multiplied}
use Rattle.group_eval.specs.Elements.{IsOf}
use Rattle.group_eval.specs.Order.{Outcome, and_then, powered, commuted, conjugated}
use Rattle.group_eval.specs.Expressions.{Evaluation, joined, joined_all, powered_of, evaluated_level, is_from_level}
use Rattle.group_eval.specs.Laws.{MultipliedIs, PoweredIs, CommutedIs, ConjugatedIs, EvaluatedIs}
use Rattle.group_eval.proofs.Outcomes.{and_then_ok}
use Rattle.group_eval.proofs.Singles.{raised-up}

abbrev pub evaluation : Tabled → Expr → Evaluation
evaluation t e = fold-Expr Evaluation (evaluated_level t) e

abbrev pub is_shaped : ℕ → Expr → Bool
is_shaped n e = fold-Expr Bool (is_shaped_level n) e

abbrev pub is_from : ℕ → Expr → Bool
is_from level e = fold-Expr Bool (is_from_level level) e

abbrev pub outcomes : Tabled → List Expr → List Outcome
outcomes t es = map (λ i. i.outcome) (map (evaluation t) es)

-- which expression is one generator
abbrev IsGeneratorOf : Tabled → Expr → Type 0
IsGeneratorOf t e =
    (k : ℕ) → (evaluation t e).generator ≡ Some k → e ≡ roll-Expr (level.Gen k)

none_named : (t : Tabled) (x : Expr-F Expr)
    → (evaluated_level t (map-Expr Expr Evaluation (evaluation t) x)).generator ≡ None
    → IsGeneratorOf t (roll-Expr x)
none_named t x e k h =
    let g = fold-roll-Expr Evaluation (evaluated_level t) x in
    let f : Some k ≡ None = sym h ∙ ap (λ v. v.generator) g ∙ e in absurd (cc)

generator_rolled : (t : Tabled) (x : Expr-F Expr) → IsGeneratorOf t (roll-Expr x)
generator_rolled t level.One k h = none_named t level.One refl k h
generator_rolled t (level.Gen j) k h =
    let g = fold-roll-Expr Evaluation (evaluated_level t) (level.Gen j) in
    let f : Some j ≡ Some k = sym (ap (λ v. v.generator) g) ∙ h in
    let e : j ≡ k = cc in ap (λ i. roll-Expr (level.Gen i)) e
generator_rolled t (level.Product es) k h = none_named t (level.Product es) refl k h
generator_rolled t (level.Pow b z) k h = none_named t (level.Pow b z) refl k h
generator_rolled t (level.Conj u v) k h = none_named t (level.Conj u v) refl k h
generator_rolled t (level.Comm u v) k h = none_named t (level.Comm u v) refl k h

pub generator_is : (t : Tabled) (e : Expr) → IsGeneratorOf t e
generator_is t = ind-Expr (IsGeneratorOf t) (λ x y is. generator_rolled t x)

-- what one table gives of elements
pub record Given (c : Paired) : Type 0 where
  pub products : MultipliedIs c
  pub powers : PoweredIs c
  pub commutators : CommutedIs c
  pub conjugates : ConjugatedIs c
  pub zero : IsOf c (zeros (last_of c.table)) []
  pub generators : (k : ℕ) (z : ℤ) → c.table.level ≤ k → k ≤ length c.pres.names
      → IsOf c (single (last_of c.table) k z) (power k z)

module _ (c : Paired) (given : Given c) where
  abbrev Is : Outcome → List Letter → Type 0
  Is r w = (v : List ℤ) → r ≡ Ok v → IsOf c v w

  abbrev AreItems : List Expr → Type 0
  AreItems [] = Unit {0}
  AreItems (e ∷ es) = Is (evaluation c.table e).outcome (unrolled e) × AreItems es

  is_ok : (a : List ℤ) (w : List Letter) → IsOf c a w → Is (Ok a) w
  is_ok a w h v e = let f : a ≡ v = cc in subst (λ x. IsOf c x w) f h

  joined_is : (es : List Expr) → AreItems es → (a : List ℤ) (w : List Letter) → IsOf c a w
      → Is (joined c.table a (outcomes c.table es)) (w ++ joined_words es)
  joined_is [] h a w p v e =
      let f : a ≡ v = cc in
      subst (λ x. IsOf c x (w ++ [])) f (subst (IsOf c a) (sym (append-nil w)) p)
  joined_is (e ∷ es) h a w p v q =
      let (b, r, s) = and_then_ok (evaluation c.table e).outcome
      (λ b. and_then (multiplied c.table a b) (λ d. joined c.table d (outcomes c.table es))) v q in
      let (m, y, z) = and_then_ok (multiplied c.table a b)
      (λ d. joined c.table d (outcomes c.table es)) v s in
      subst (IsOf c v) (append_assoc w (unrolled e) (joined_words es))
      (joined_is es h.1 m (w ++ unrolled e)
      (given.products a b m w (unrolled e) y p (h.0 b r)) v z)

  product_is : (es : List Expr) → AreItems es
      → Is (joined_all c.table (outcomes c.table es)) (joined_words es)
  product_is [] h v e = is_ok (zeros (last_of c.table)) [] given.zero v e
  product_is (e ∷ es) h v q =
      let (a, r, s) = and_then_ok (evaluation c.table e).outcome
      (λ a. joined c.table a (outcomes c.table es)) v q in
      joined_is es h.1 a (unrolled e) (h.0 a r) v s

  power_is : (r : Outcome) (w : List Letter) (z : ℤ) → Is r w
      → Is (and_then r (λ a. powered c.table a z)) (raised w z)
  power_is r w z h v e =
      let (a, p, q) = and_then_ok r (λ a. powered c.table a z) v e in
      given.powers a v z w q (h a p)

  -- what is made of two outcomes, by the law of what makes it
  pair_is : (f : List ℤ → List ℤ → Outcome) (g : List Letter → List Letter → List Letter)
      → ((a b x : List ℤ) (u v : List Letter) → f a b ≡ Ok x → IsOf c a u → IsOf c b v
      → IsOf c x (g u v))
      → (r s : Outcome) (w y : List Letter) → Is r w → Is s y
      → Is (and_then r (λ a. and_then s (λ b. f a b))) (g w y)
  pair_is f g law r s w y h k v e =
      let (a, p, q) = and_then_ok r (λ a. and_then s (λ b. f a b)) v e in
      let (b, m, n) = and_then_ok s (λ b. f a b) v q in law a b v w y n (h a p) (k b m)

  abbrev Evaluates : Expr → Type 0
  Evaluates e = is_shaped (length c.pres.names) e ≡ true → is_from c.table.level e ≡ true
      → Is (evaluation c.table e).outcome (unrolled e)

  generator_rises : (k : ℕ) (z : ℤ) → is_shaped (length c.pres.names) (roll-Expr (level.Gen k)) ≡ true
      → is_from c.table.level (roll-Expr (level.Gen k)) ≡ true
      → IsOf c (single (last_of c.table) k z) (power k z)
  generator_rises k z h f =
      let shaped : (nat_le 1 k && nat_le k (length c.pres.names)) ≡ true =
      sym (fold-roll-Expr Bool (is_shaped_level (length c.pres.names)) (level.Gen k)) ∙ h in
      let from : nat_le c.table.level k ≡ true =
      sym (fold-roll-Expr Bool (is_from_level c.table.level) (level.Gen k)) ∙ f in
      given.generators k z (leb-true c.table.level k from)
      (leb-true k (length c.pres.names)
      (and_parts (nat_le 1 k) (nat_le k (length c.pres.names)) shaped).1)

  -- a power by the generator that its base may be
  powered_of_is : (b : Expr) (z : ℤ) (g : Option ℕ) → (evaluation c.table b).generator ≡ g
      → is_shaped (length c.pres.names) b ≡ true → is_from c.table.level b ≡ true → Evaluates b
      → Is (powered_of c.table g (evaluation c.table b).outcome z) (raised (unrolled b) z)
  powered_of_is b z (Some k) e h f ih v q =
      let own : b ≡ roll-Expr (level.Gen k) = generator_is c.table b k e in
      let word : unrolled b ≡ up k ∷ [] =
      ap (λ x. unrolled x) own ∙ fold-roll-Expr (List Letter) word_of_level (level.Gen k) in
      let p : IsOf c (single (last_of c.table) k z) (power k z) =
      generator_rises k z (sym (ap (λ x. is_shaped (length c.pres.names) x) own) ∙ h)
      (sym (ap (λ x. is_from c.table.level x) own) ∙ f) in
      is_ok (single (last_of c.table) k z) (raised (unrolled b) z)
      (subst (IsOf c (single (last_of c.table) k z))
      (sym (ap (λ w. raised w z) word ∙ raised-up k z)) p) v q
  powered_of_is b z None e h f ih v q =
      power_is (evaluation c.table b).outcome (unrolled b) z (ih h f) v q

  -- one level, from its parts
  settled : (x : Expr-F Expr) (r : Evaluation) (w : List Letter)
      → evaluation c.table (roll-Expr x) ≡ r → unrolled (roll-Expr x) ≡ w → Is r.outcome w
      → Is (evaluation c.table (roll-Expr x)).outcome (unrolled (roll-Expr x))
  settled x r w f g h v e =
      subst (IsOf c v) (sym g) (h v (sym (ap (λ i. i.outcome) f) ∙ e))

  abbrev Known : Type 0
  Known = (e : Expr) × Evaluates e

  abbrev known : List Known → List Expr
  known ys = map (λ e. e.0) ys

  all_items : (ys : List Known)
      → list_all (λ b. b) (map (is_shaped (length c.pres.names)) (known ys)) ≡ true
      → list_all (λ b. b) (map (is_from c.table.level) (known ys)) ≡ true → AreItems (known ys)
  all_items [] h f = tt
  all_items (y ∷ ys) h f =
      let n = length c.pres.names in
      let i = c.table.level in
      let hs = list_all (λ b. b) (map (is_shaped n) (known ys)) in
      let shaped = and_parts (is_shaped n y.0) hs h in
      let from = and_parts (is_from i y.0) (list_all (λ b. b) (map (is_from i) (known ys))) f in
      (y.1 shaped.0 from.0, all_items ys shaped.1 from.1)

  shaped_rolled : (x : Expr-F Expr) → is_shaped (length c.pres.names) (roll-Expr x) ≡ true
      → is_shaped_level (length c.pres.names)
      (map-Expr Expr Bool (is_shaped (length c.pres.names)) x) ≡ true
  shaped_rolled x h = sym (fold-roll-Expr Bool (is_shaped_level (length c.pres.names)) x) ∙ h

  from_rolled : (x : Expr-F Expr) → is_from c.table.level (roll-Expr x) ≡ true
      → is_from_level c.table.level (map-Expr Expr Bool (is_from c.table.level) x) ≡ true
  from_rolled x h = sym (fold-roll-Expr Bool (is_from_level c.table.level) x) ∙ h

  pair_of_is : (f : List ℤ → List ℤ → Outcome) (g : List Letter → List Letter → List Letter)
      → ((a b x : List ℤ) (u v : List Letter) → f a b ≡ Ok x → IsOf c a u → IsOf c b v
      → IsOf c x (g u v))
      → (u v : Known)
      → (is_shaped (length c.pres.names) u.0 && is_shaped (length c.pres.names) v.0) ≡ true
      → (is_from c.table.level u.0 && is_from c.table.level v.0) ≡ true
      → Is (and_then (evaluation c.table u.0).outcome
      (λ a. and_then (evaluation c.table v.0).outcome (λ b. f a b)))
      (g (unrolled u.0) (unrolled v.0))
  pair_of_is f g law u v h k =
      let shaped = and_parts (is_shaped (length c.pres.names) u.0)
      (is_shaped (length c.pres.names) v.0) h in
      let from = and_parts (is_from c.table.level u.0) (is_from c.table.level v.0) k in
      pair_is f g law (evaluation c.table u.0).outcome (evaluation c.table v.0).outcome
      (unrolled u.0) (unrolled v.0) (u.1 shaped.0 from.0) (v.1 shaped.1 from.1)

  rolled : (y : Expr-F Known) → Evaluates (roll-Expr (map-Expr Known Expr (λ e. e.0) y))
  rolled level.One h f =
      settled level.One _ _ (fold-roll-Expr Evaluation (evaluated_level c.table) level.One)
      (fold-roll-Expr (List Letter) word_of_level level.One)
      (is_ok (zeros (last_of c.table)) [] given.zero)
  rolled (level.Gen k) h f =
      settled (level.Gen k) _ _ (fold-roll-Expr Evaluation (evaluated_level c.table) (level.Gen k))
      (fold-roll-Expr (List Letter) word_of_level (level.Gen k))
      (is_ok (single (last_of c.table) k (pos 1)) (up k ∷ []) (generator_rises k (pos 1) h f))
  rolled (level.Product ys) h f =
      let es = known ys in
      let n = length c.pres.names in
      settled (level.Product es) _ _
      (fold-roll-Expr Evaluation (evaluated_level c.table) (level.Product es))
      (fold-roll-Expr (List Letter) word_of_level (level.Product es))
      (product_is es (all_items ys
      (and_parts (nat_le 2 (length (map (is_shaped n) es))) (list_all (λ b. b) (map (is_shaped n) es)) (shaped_rolled (level.Product es) h)).1
      (from_rolled (level.Product es) f)))
  rolled (level.Pow y z) h f =
      let x = level.Pow y.0 z in
      settled x _ _ (fold-roll-Expr Evaluation (evaluated_level c.table) x)
      (fold-roll-Expr (List Letter) word_of_level x)
      (powered_of_is y.0 z (evaluation c.table y.0).generator refl
      (and_parts (is_shaped (length c.pres.names) y.0) (is_within z) (shaped_rolled x h)).0
      (from_rolled x f) y.1)
  rolled (level.Conj u v) h f =
      let x = level.Conj u.0 v.0 in
      settled x _ _ (fold-roll-Expr Evaluation (evaluated_level c.table) x)
      (fold-roll-Expr (List Letter) word_of_level x)
      (pair_of_is (conjugated c.table) conjugate given.conjugates u v (shaped_rolled x h)
      (from_rolled x f))
  rolled (level.Comm u v) h f =
      let x = level.Comm u.0 v.0 in
      settled x _ _ (fold-roll-Expr Evaluation (evaluated_level c.table) x)
      (fold-roll-Expr (List Letter) word_of_level x)
      (pair_of_is (commuted c.table) commutator given.commutators u v (shaped_rolled x h)
      (from_rolled x f))

  evaluates : (e : Expr) → Evaluates e
  evaluates = ind-Expr Evaluates (λ x y is. subst (λ z. Evaluates (roll-Expr z)) is (rolled y))

  pub evaluated_is : EvaluatedIs c
  evaluated_is e x h f r = evaluates e h f x r
