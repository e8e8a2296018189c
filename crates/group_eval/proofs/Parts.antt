-- The written order of an expression, from that of its parts.
--   c presentation with its table · t table · e b u v x y expressions · es items · a p v vectors
--   k generator · z exponent · i index · p pairing
use Rattle.std.proofs.Common.{◌≡◌, ℕ, suc, ◌+◌, ◌<◌, ◌≤◌, ◌-◌, nat_le, Bool, true, ◌&&◌, ℤ, Option, Some, None, Ok, Err, List, [], ◌∷◌, length, map, take, drop, get_or, refl, sym, ◌∙◌, ap, subst, add-one, drop-cons, length-drop, set, pos, arith}
use Rattle.std.specs.Prelude.{All}
use Rattle.std.specs.List.{list_all}
use Rattle.std.proofs.lemmas.Bool.{leb-true, and_parts}
use Rattle.std.proofs.lemmas.List.{length-map, take_all}
use Rattle.std.proofs.lemmas.List.Elements.{All-nil, All-cons, All-drop}
use Rattle.nil_word.specs.declared.expr.Expr.{Expr, Expr-F, fold-Expr, fold-roll-Expr, map-Expr, roll-Expr}
use Rattle.nil_word.specs.declared.expr.Expr.TheOpen as level
use Rattle.nil_word.specs.declared.expr.Expr.TheVariants.{Gen, Product, Pow, Conj, Comm, rolls-Gen, rolls-Product, rolls-Pow, rolls-Conj, rolls-Comm}
use Rattle.nil_word.specs.Expressions.{is_within, is_shaped_level, IsShaped}
use Rattle.hall_table.specs.declared.wide_at.WideAt.{WideAt}
use Rattle.hall_table.specs.Tabled.{Tabled, last_of}
use Rattle.hall_table.specs.Multiplies.{Paired}
use Rattle.hall_table.specs.Order.{multiplied}
use Rattle.hall_law.specs.Table.{zeros, single}
use Rattle.group_eval.specs.declared.pairing.Pairing.{Pairing}
use Rattle.group_eval.specs.declared.pairing.Pairing.TheVariants.{Conjugate, Commutator}
use Rattle.group_eval.specs.Order.{Outcome, and_then, powered, paired, both}
use Rattle.group_eval.specs.Expressions.{Evaluation, joined, joined_all, powered_of, evaluated_level, evaluated, is_from_level, IsFrom, IsExprOf}
use Rattle.group_eval.proofs.Evaluations.{evaluation, is_shaped, is_from, outcomes, generator_is}
use Rattle.group_eval.proofs.Singles.{set-zeros}
use Rattle.group_eval.proofs.NarrowEvaluations.{narrow_evaluated}

-- ---- items
all_true : (f : Expr → Bool) (es : List Expr) → list_all (λ b. b) (map f es) ≡ true
    → All (λ e. f e ≡ true) es
all_true f [] h = All-nil (λ e. f e ≡ true)
all_true f (e ∷ es) h =
    All-cons (λ d. f d ≡ true) e es (and_parts (f e) (list_all (λ b. b) (map f es)) h).0
    (all_true f es (and_parts (f e) (list_all (λ b. b) (map f es)) h).1)

shaped_level : (n : ℕ) (es : List Expr) → IsShaped n (Product es)
    → (nat_le 2 (length (map (is_shaped n) es)) && list_all (λ b. b) (map (is_shaped n) es)) ≡ true
shaped_level n es h =
    sym (ap (is_shaped n) (sym (rolls-Product es))
    ∙ fold-roll-Expr Bool (is_shaped_level n) (level.Product es))
    ∙ h

shaped_items : (n : ℕ) (es : List Expr) → IsShaped n (Product es)
    → list_all (λ b. b) (map (is_shaped n) es) ≡ true
shaped_items n es h =
    (and_parts (nat_le 2 (length (map (is_shaped n) es))) (list_all (λ b. b) (map (is_shaped n) es))
    (shaped_level n es h)).1

pub items_some : (n : ℕ) (es : List Expr) → IsShaped n (Product es) → 0 < length es
items_some n es h =
    let two : 2 ≤ length (map (is_shaped n) es) =
    leb-true 2 (length (map (is_shaped n) es))
    (and_parts (nat_le 2 (length (map (is_shaped n) es))) (list_all (λ b. b) (map (is_shaped n) es)) (shaped_level n es h)).0 in
    omega (arith, length-map es (is_shaped n))

-- the items but the first, as a slice has them
pub take-rest : (es : List Expr) → take (length es - 1) (drop 1 es) ≡ drop 1 es
take-rest es = take_all (length es - 1) (drop 1 es) (omega (arith, length-drop 1 es))

pub rest_shaped : (n : ℕ) (es : List Expr) → IsShaped n (Product es)
    → All (IsShaped n) (take (length es - 1) (drop 1 es))
rest_shaped n es h =
    subst (All (IsShaped n)) (sym (take-rest es))
    (All-drop (IsShaped n) 1 es
    (all_true (is_shaped n) es (shaped_items n es h)))

pub rest_from : (i : ℕ) (es : List Expr) → IsFrom i (Product es)
    → All (IsFrom i) (take (length es - 1) (drop 1 es))
rest_from i es h =
    subst (All (IsFrom i)) (sym (take-rest es))
    (All-drop (IsFrom i) 1 es
    (all_true (is_from i) es
    (sym (ap (is_from i) (sym (rolls-Product es))
    ∙ fold-roll-Expr Bool (is_from_level i) (level.Product es))
    ∙ h)))

-- ---- products
pub evaluated-Product : (t : Tabled) (es : List Expr)
    → evaluated t (Product es) ≡ joined_all t (outcomes t es)
evaluated-Product t es =
    ap (evaluated t) (sym (rolls-Product es))
    ∙ ap (λ i. i.outcome) (fold-roll-Expr Evaluation (evaluated_level t) (level.Product es))

outcomes-drop : (t : Tabled) (es : List Expr) (i : ℕ) (e : Expr) → i < length es → e ≡ get_or es i e
    → outcomes t (drop i es) ≡ evaluated t e ∷ outcomes t (drop (i + 1) es)
outcomes-drop t es i e l is =
    ap (outcomes t) (drop-cons es i e l)
    ∙ ap (λ x. evaluated t x ∷ outcomes t (drop (suc i) es)) (sym is)
    ∙ ap (λ n. evaluated t e ∷ outcomes t (drop n es)) (sym (add-one i))

and_then-and_then : (r : Outcome) (f g : List ℤ → Outcome)
    → and_then r (λ b. and_then (f b) g) ≡ and_then (and_then r f) g
and_then-and_then (Ok a) f g = refl
and_then-and_then (Err at) f g = refl

-- the items from one on: that one is multiplied on, and then the others
joined-drop : (t : Tabled) (a : List ℤ) (es : List Expr) (i : ℕ) (e : Expr) → i < length es
    → e ≡ get_or es i e
    → joined t a (outcomes t (drop i es))
    ≡ and_then (and_then (evaluated t e) (multiplied t a))
    (λ c. joined t c (outcomes t (drop (i + 1) es)))
joined-drop t a es i e l is =
    ap (joined t a) (outcomes-drop t es i e l is)
    ∙ and_then-and_then (evaluated t e) (multiplied t a)
    (λ c. joined t c (outcomes t (drop (i + 1) es)))

pub joined-more : (t : Tabled) (a p : List ℤ) (es : List Expr) (i : ℕ) (e : Expr) → i < length es
    → e ≡ get_or es i e → and_then (evaluated t e) (multiplied t a) ≡ Ok p
    → joined t a (outcomes t (drop i es)) ≡ joined t p (outcomes t (drop (i + 1) es))
joined-more t a p es i e l is f =
    joined-drop t a es i e l is
    ∙ ap (λ r. and_then r (λ c. joined t c (outcomes t (drop (i + 1) es)))) f

pub joined-wide : (t : Tabled) (a : List ℤ) (es : List Expr) (i : ℕ) (e : Expr) (at : WideAt)
    → i < length es → e ≡ get_or es i e → and_then (evaluated t e) (multiplied t a) ≡ Err at
    → joined t a (outcomes t (drop i es)) ≡ Err at
joined-wide t a es i e at l is f =
    joined-drop t a es i e l is
    ∙ ap (λ r. and_then r (λ c. joined t c (outcomes t (drop (i + 1) es)))) f

pub product_begins : (t : Tabled) (es : List Expr) (e : Expr) (a : List ℤ) → 0 < length es
    → e ≡ get_or es 0 e → evaluated t e ≡ Ok a
    → evaluated t (Product es) ≡ joined t a (outcomes t (drop 1 es))
product_begins t es e a l is f =
    evaluated-Product t es ∙ ap (joined_all t) (outcomes-drop t es 0 e l is)
    ∙ ap (λ s. and_then s (λ a. joined t a (outcomes t (drop 1 es)))) f

-- ---- powers
evaluated-Pow : (t : Tabled) (b : Expr) (z : ℤ)
    → evaluated t (Pow b z) ≡ powered_of t (evaluation t b).generator (evaluated t b) z
evaluated-Pow t b z =
    ap (evaluated t) (sym (rolls-Pow b z))
    ∙ ap (λ i. i.outcome) (fold-roll-Expr Evaluation (evaluated_level t) (level.Pow b z))

no_generator : (t : Tabled) (b : Expr) (g : Option ℕ) → (evaluation t b).generator ≡ g
    → ((k : ℕ) → b ≡ Gen k → ⊥) → g ≡ None
no_generator t b None e h = refl
no_generator t b (Some k) e h = absurd (h k (generator_is t b k e ∙ rolls-Gen k))

pub power-generator : (t : Tabled) (b : Expr) (k : ℕ) (z : ℤ) → b ≡ Gen k
    → evaluated t (Pow b z) ≡ Ok (single (last_of t) k z)
power-generator t b k z is =
    let own : (evaluation t b).generator ≡ Some k =
    ap (λ x. (evaluation t x).generator) (is ∙ sym (rolls-Gen k))
    ∙ ap (λ i. i.generator) (fold-roll-Expr Evaluation (evaluated_level t) (level.Gen k)) in
    evaluated-Pow t b z ∙ ap (λ g. powered_of t g (evaluated t b) z) own

pub power-other : (t : Tabled) (b : Expr) (z : ℤ) (r : Outcome) → ((k : ℕ) → b ≡ Gen k → ⊥)
    → evaluated t b ≡ r → evaluated t (Pow b z) ≡ and_then r (λ a. powered t a z)
power-other t b z r h f =
    evaluated-Pow t b z
    ∙ ap (λ g. powered_of t g (evaluated t b) z)
    (no_generator t b (evaluation t b).generator refl h)
    ∙ ap (λ s. and_then s (λ a. powered t a z)) f

-- ---- two parts
pub evaluated-Conj : (t : Tabled) (e u v : Expr) → e ≡ Conj u v
    → evaluated t e ≡ both t Conjugate (evaluated t u) (evaluated t v)
evaluated-Conj t e u v is =
    ap (evaluated t) (is ∙ sym (rolls-Conj u v))
    ∙ ap (λ i. i.outcome) (fold-roll-Expr Evaluation (evaluated_level t) (level.Conj u v))

pub evaluated-Comm : (t : Tabled) (e u v : Expr) → e ≡ Comm u v
    → evaluated t e ≡ both t Commutator (evaluated t u) (evaluated t v)
evaluated-Comm t e u v is =
    ap (evaluated t) (is ∙ sym (rolls-Comm u v))
    ∙ ap (λ i. i.outcome) (fold-roll-Expr Evaluation (evaluated_level t) (level.Comm u v))

pub pair-parts : (t : Tabled) (p : Pairing) (e u v x y : Expr) (a b : List ℤ)
    → evaluated t e ≡ both t p (evaluated t u) (evaluated t v) → x ≡ u → y ≡ v
    → evaluated t x ≡ Ok a → evaluated t y ≡ Ok b → evaluated t e ≡ paired t p a b
pair-parts t p e u v x y a b is left right f g =
    is ∙ ap (λ r. both t p r (evaluated t v)) (ap (evaluated t) (sym left) ∙ f)
    ∙ ap (λ r. both t p (Ok a) r) (ap (evaluated t) (sym right) ∙ g)

-- ---- what is asked of the parts
told : (f : Expr-F Bool → Bool) (e : Expr) (x : Expr-F Expr) → e ≡ roll-Expr x
    → fold-Expr Bool f e ≡ true → f (map-Expr Expr Bool (fold-Expr Bool f) x) ≡ true
told f e x is h = sym (ap (fold-Expr Bool f) is ∙ fold-roll-Expr Bool f x) ∙ h

pub base_in : (c : Paired) (b : Expr) (z : ℤ) → IsExprOf c (Pow b z) → IsExprOf c b
base_in c b z h =
    let n = length c.pres.names in
    record {
      shaped =
          (and_parts (is_shaped n b) (is_within z)
          (told (is_shaped_level n) (Pow b z) (level.Pow b z) (sym (rolls-Pow b z)) h.shaped)).0;
      level = told (is_from_level c.table.level) (Pow b z) (level.Pow b z) (sym (rolls-Pow b z))
          h.level;
    }

parts_in : (c : Paired) (e u v : Expr) (x : Expr-F Expr) → e ≡ roll-Expr x
    → ((n : ℕ) → is_shaped_level n (map-Expr Expr Bool (is_shaped n) x)
    ≡ (is_shaped n u && is_shaped n v))
    → ((i : ℕ) → is_from_level i (map-Expr Expr Bool (is_from i) x)
    ≡ (is_from i u && is_from i v))
    → IsExprOf c e → IsExprOf c u × IsExprOf c v
parts_in c e u v x is f g h =
    let n = length c.pres.names in
    let i = c.table.level in
    let shaped = and_parts (is_shaped n u) (is_shaped n v)
    (sym (f n) ∙ told (is_shaped_level n) e x is h.shaped) in
    let from = and_parts (is_from i u) (is_from i v)
    (sym (g i) ∙ told (is_from_level i) e x is h.level) in
    (record { shaped = shaped.0; level = from.0 }, record { shaped = shaped.1; level = from.1 })

-- x and y are the parts as the code has them
pub conj_parts_in : (c : Paired) (e u v x y : Expr) → e ≡ Conj u v → x ≡ u → y ≡ v
    → IsExprOf c e → IsExprOf c x × IsExprOf c y
conj_parts_in c e u v x y is left right h =
    let parts = parts_in c e u v (level.Conj u v) (is ∙ sym (rolls-Conj u v)) (λ n. refl) (λ i. refl)
    h in
    (subst (IsExprOf c) (sym left) parts.0, subst (IsExprOf c) (sym right) parts.1)

pub comm_parts_in : (c : Paired) (e u v x y : Expr) → e ≡ Comm u v → x ≡ u → y ≡ v
    → IsExprOf c e → IsExprOf c x × IsExprOf c y
comm_parts_in c e u v x y is left right h =
    let parts = parts_in c e u v (level.Comm u v) (is ∙ sym (rolls-Comm u v)) (λ n. refl) (λ i. refl)
    h in
    (subst (IsExprOf c) (sym left) parts.0, subst (IsExprOf c) (sym right) parts.1)

-- the first item
pub first_in : (c : Paired) (es : List Expr) (e : Expr) → 0 < length es → e ≡ get_or es 0 e
    → IsExprOf c (Product es) → IsExprOf c e
first_in c (d ∷ es) e l is h =
    let n = length c.pres.names in
    let i = c.table.level in
    let shaped = shaped_items n (d ∷ es) h.shaped in
    let from = told (is_from_level i) (Product (d ∷ es)) (level.Product (d ∷ es))
    (sym (rolls-Product (d ∷ es))) h.level in
    subst (IsExprOf c) (sym is) record {
      shaped = (and_parts (is_shaped n d) (list_all (λ b. b) (map (is_shaped n) es)) shaped).0;
      level = (and_parts (is_from i d) (list_all (λ b. b) (map (is_from i) es)) from).0;
    }
first_in c [] e l is h = absurd (omega arith)

pub evaluated-Gen : (t : Tabled) (e : Expr) (k n : ℕ) (v : List ℤ) → e ≡ Gen k → n ≡ last_of t
    → v ≡ set (zeros n) (k - 1) (pos 1) → evaluated t e ≡ Ok v
evaluated-Gen t e k n v is last made =
    ap (evaluated t) (is ∙ sym (rolls-Gen k))
    ∙ ap (λ i. i.outcome) (fold-roll-Expr Evaluation (evaluated_level t) (level.Gen k))
    ∙ ap (λ x. Ok x)
    (sym (made ∙ set-zeros n k (pos 1) ∙ ap (λ (m : ℕ). single m k (pos 1)) last))

-- ---- lengths
pub length-evaluated : (c : Paired) (e : Expr) (v : List ℤ) → IsExprOf c e
    → evaluated c.table e ≡ Ok v → length v ≡ last_of c.table
length-evaluated c e v h f =
    (narrow_evaluated (length c.pres.names) c.table e h.shaped v f).entries
