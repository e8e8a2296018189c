-- A written expression is in the grammar, and its text is cut into its tokens.
use Rattle.std.proofs.Common.{◌≡◌, ℕ, ◌^◌, ◌<◌, nat_le, Bool, true, false, ◌&&◌, ℤ, pos, negsuc, Some, List, [], ◌∷◌, ◌++◌, length, map, refl, sym, ◌∙◌, ap, subst, append_assoc, unsigned_abs, arith}
use Rattle.std.specs.List.{list_all}
use Rattle.std.proofs.lemmas.List.{length-map}
use Rattle.std.specs.Ordering.{int_eq}
use Rattle.std.proofs.lemmas.Bool.Decides.{nat_tests}
use Rattle.nil_word.specs.declared.expr.Expr.{Expr, Expr-F, fold-Expr, fold-roll-Expr, ind-Expr, map-Expr, roll-Expr}
use Rattle.nil_word.specs.declared.expr.Expr.TheOpen as level
use Rattle.nil_word.specs.declared.expr.Expr.TheVariants.{One, Gen, Product, Pow, Conj, Comm, rolls-One, rolls-Gen, rolls-Product, rolls-Pow, rolls-Conj, rolls-Comm}
use Rattle.nil_word.specs.Expressions.{is_within, is_shaped_level}
use Rattle.line_tokens.specs.declared.kind.Kind.{Kind}
use Rattle.line_tokens.specs.declared.kind.Kind.TheVariants as k
use Rattle.word_text.specs.declared.shape.Shape.{Shape}
use Rattle.word_text.specs.declared.shape.Shape.TheVariants as shape
use Rattle.word_text.specs.Grammar.{is_integer_next, IsAtom, IsFactor, IsProduct, IsExpr, name, one, square, round, plain, power, conjugate, last, times, whole}
use Rattle.word_text.specs.Writing.{Written, bracketed, as_item, as_base, as_conjugator, joined_by_star, item_tokens, written_level, written}
use Rattle.word_text.proofs.Spelled.{IsSpelled, IsWord, spelled_name, spelled_integer, spelled_mark, spelled_then, spelled_nil, spelled_bracketed, mark_star, mark_caret, mark_comma, mark_square_open, mark_square_close}

-- what tokens are, whatever stands behind them
abbrev pub Reads : Shape → List Kind → Expr → Type 0
Reads shape.One ks e = (rest : List Kind) → IsAtom (ks ++ rest) rest e
Reads shape.Atom ks e = (rest : List Kind) → IsAtom (ks ++ rest) rest e × (is_integer_next (ks ++ rest) ≡ false)
Reads shape.Raised ks e = (rest : List Kind) → IsFactor (ks ++ rest) rest e
Reads shape.Many ks e = (rest : List Kind) → IsExpr (ks ++ rest) rest e

factor_expr : (ks rest : List Kind) (e : Expr) → IsFactor ks rest e → IsExpr ks rest e
factor_expr ks rest e f = whole ks rest (e ∷ []) (last ks rest e f)

pub reads_expr : (s : Shape) (ks : List Kind) (e : Expr) → Reads s ks e → (rest : List Kind) → IsExpr (ks ++ rest) rest e
reads_expr shape.One ks e r rest = factor_expr (ks ++ rest) rest e (plain (ks ++ rest) rest e (r rest))
reads_expr shape.Atom ks e r rest = factor_expr (ks ++ rest) rest e (plain (ks ++ rest) rest e ((r rest).0))
reads_expr shape.Raised ks e r rest = factor_expr (ks ++ rest) rest e (r rest)
reads_expr shape.Many ks e r rest = r rest

bracketed_atom : (ks : List Kind) (e : Expr) → ((rest : List Kind) → IsExpr (ks ++ rest) rest e) → (rest : List Kind) → IsAtom (bracketed ks ++ rest) rest e
bracketed_atom ks e r rest =
    round ((ks ++ k.Close ∷ []) ++ rest) rest e (subst (λ x. IsExpr x (k.Close ∷ rest) e) (sym (append_assoc ks (k.Close ∷ []) rest)) (r (k.Close ∷ rest)))

base_atom : (s : Shape) (ks : List Kind) (e : Expr) → Reads s ks e → (rest : List Kind) → IsAtom (as_base s ks ++ rest) rest e
base_atom shape.One ks e r rest = r rest
base_atom shape.Atom ks e r rest = (r rest).0
base_atom shape.Raised ks e r rest = bracketed_atom ks e (reads_expr shape.Raised ks e r) rest
base_atom shape.Many ks e r rest = bracketed_atom ks e r rest

conjugator_atom : (s : Shape) (ks : List Kind) (e : Expr) → Reads s ks e → (rest : List Kind)
    → IsAtom (as_conjugator s ks ++ rest) rest e × (is_integer_next (as_conjugator s ks ++ rest) ≡ false)
conjugator_atom shape.One ks e r rest = (bracketed_atom ks e (reads_expr shape.One ks e r) rest, refl)
conjugator_atom shape.Atom ks e r rest = r rest
conjugator_atom shape.Raised ks e r rest = (bracketed_atom ks e (reads_expr shape.Raised ks e r) rest, refl)
conjugator_atom shape.Many ks e r rest = (bracketed_atom ks e r rest, refl)

item_factor : (s : Shape) (ks : List Kind) (e : Expr) → Reads s ks e → (rest : List Kind) → IsFactor (as_item s ks ++ rest) rest e
item_factor shape.One ks e r rest = plain (ks ++ rest) rest e (r rest)
item_factor shape.Atom ks e r rest = plain (ks ++ rest) rest e ((r rest).0)
item_factor shape.Raised ks e r rest = r rest
item_factor shape.Many ks e r rest = plain (bracketed ks ++ rest) rest e (bracketed_atom ks e r rest)

spelled_base : (names : List (List ℕ)) (s : Shape) (ks : List Kind) → IsSpelled names ks → IsSpelled names (as_base s ks)
spelled_base names shape.One ks h = h
spelled_base names shape.Atom ks h = h
spelled_base names shape.Raised ks h = spelled_bracketed names ks h
spelled_base names shape.Many ks h = spelled_bracketed names ks h

spelled_conjugator : (names : List (List ℕ)) (s : Shape) (ks : List Kind) → IsSpelled names ks → IsSpelled names (as_conjugator s ks)
spelled_conjugator names shape.One ks h = spelled_bracketed names ks h
spelled_conjugator names shape.Atom ks h = h
spelled_conjugator names shape.Raised ks h = spelled_bracketed names ks h
spelled_conjugator names shape.Many ks h = spelled_bracketed names ks h

spelled_item : (names : List (List ℕ)) (s : Shape) (ks : List Kind) → IsSpelled names ks → IsSpelled names (as_item s ks)
spelled_item names shape.One ks h = h
spelled_item names shape.Atom ks h = h
spelled_item names shape.Raised ks h = h
spelled_item names shape.Many ks h = spelled_bracketed names ks h

-- these tokens are the expression, and their text is cut into them
pub record IsSound (names : List (List ℕ)) (e : Expr) (w : Written) : Type 0 where
  pub reads : Reads w.shape w.tokens e
  pub spelled : IsSpelled names w.tokens

-- every generator is a word of the line
abbrev pub AreWords : List (List ℕ) → ℕ → Type 0
AreWords names n = (g : ℕ) → nat_le 1 g ≡ true → nat_le g n ≡ true → IsWord names g

left_of : (a b : Bool) → (a && b) ≡ true → a ≡ true
left_of true b h = refl
left_of false b h = h

right_of : (a b : Bool) → (a && b) ≡ true → b ≡ true
right_of true b h = h
right_of false b h = cc

abbrev is_shaped : ℕ → Expr → Bool
is_shaped n e = fold-Expr Bool (is_shaped_level n) e

abbrev Sound : List (List ℕ) → ℕ → Expr → Type 0
Sound names n e = is_shaped n e ≡ true → IsSound names e (written e)

abbrev AllSound : List (List ℕ) → List Expr → Type 0
AllSound names [] = Unit {0}
AllSound names (e ∷ es) = IsSound names e (written e) × AllSound names es

all_sound : (names : List (List ℕ)) (n : ℕ) (ys : List ((e : Expr) × Sound names n e)) → list_all (λ b. b) (map (is_shaped n) (map (λ e. e.0) ys)) ≡ true
    → AllSound names (map (λ e. e.0) ys)
all_sound names n [] h = tt
all_sound names n (y ∷ ys) h = (
  y.1 (left_of (is_shaped n y.0) (list_all (λ b. b) (map (is_shaped n) (map (λ e. e.0) ys))) h),
  all_sound names n ys (right_of (is_shaped n y.0) (list_all (λ b. b) (map (is_shaped n) (map (λ e. e.0) ys))) h),
)

abbrev items_tokens : List Expr → List Kind
items_tokens es = joined_by_star (map item_tokens (map written es))

product_reads : (names : List (List ℕ)) (e : Expr) (es : List Expr) → IsSound names e (written e) → AllSound names es → (rest : List Kind)
    → IsProduct (items_tokens (e ∷ es) ++ rest) rest (e ∷ es)
product_reads names e [] s a rest = last (item_tokens (written e) ++ rest) rest e (item_factor (written e).shape (written e).tokens e s.reads rest)
product_reads names e (f ∷ es) s a rest =
    subst (λ x. IsProduct x rest (e ∷ f ∷ es)) (sym (append_assoc (item_tokens (written e)) (k.Star ∷ items_tokens (f ∷ es)) rest))
    (times (item_tokens (written e) ++ k.Star ∷ (items_tokens (f ∷ es) ++ rest)) (items_tokens (f ∷ es) ++ rest) rest e (f ∷ es)
    (item_factor (written e).shape (written e).tokens e s.reads (k.Star ∷ (items_tokens (f ∷ es) ++ rest)))
    (product_reads names f es a.0 a.1 rest))

product_spelled : (names : List (List ℕ)) (e : Expr) (es : List Expr) → IsSound names e (written e) → AllSound names es → IsSpelled names (items_tokens (e ∷ es))
product_spelled names e [] s a = spelled_item names (written e).shape (written e).tokens s.spelled
product_spelled names e (f ∷ es) s a =
    spelled_then names (item_tokens (written e)) k.Star (items_tokens (f ∷ es)) (spelled_item names (written e).shape (written e).tokens s.spelled) (mark_star names)
    (product_spelled names f es a.0 a.1)

product_sound : (names : List (List ℕ)) (es : List Expr) → nat_le 2 (length es) ≡ true → AllSound names es
    → IsSound names (Product es) (record { shape = shape.Many; tokens = items_tokens es })
product_sound names [] h a = absurd (grind (arith, nat_tests))
product_sound names (e ∷ []) h a = absurd (grind (arith, nat_tests))
product_sound names (e ∷ f ∷ es) h a = record {
  reads = λ rest. whole (items_tokens (e ∷ f ∷ es) ++ rest) rest (e ∷ f ∷ es) (product_reads names e (f ∷ es) a.0 a.1 rest);
  spelled = product_spelled names e (f ∷ es) a.0 a.1;
}

one_sound : (names : List (List ℕ)) → IsSound names One (record { shape = shape.One; tokens = k.Integer true (Some (pos 1)) ∷ [] })
one_sound names = record { reads = λ rest. one (Some (pos 1)) rest; spelled = spelled_integer names (pos 1) (omega arith) }

name_sound : (names : List (List ℕ)) (g : ℕ) → IsWord names g → IsSound names (Gen g) (record { shape = shape.Atom; tokens = k.Name g ∷ [] })
name_sound names g w = record { reads = λ rest. (name g rest, refl); spelled = spelled_name names g w }

within : (z : ℤ) → is_within z ≡ true → unsigned_abs z < 2 ^ 127
within (pos n) h = grind (arith, nat_tests)
within (negsuc n) h = grind (arith, nat_tests)

power_sound : (names : List (List ℕ)) (e : Expr) (z : ℤ) (w : Written) → IsSound names e w → unsigned_abs z < 2 ^ 127
    → IsSound names (Pow e z) (record { shape = shape.Raised; tokens = as_base w.shape w.tokens ++ k.Caret ∷ k.Integer (int_eq z (pos 1)) (Some z) ∷ [] })
power_sound names e z w s h = record {
  reads = λ rest. power ((as_base w.shape w.tokens ++ k.Caret ∷ k.Integer (int_eq z (pos 1)) (Some z) ∷ []) ++ rest) rest e (int_eq z (pos 1)) (Some z)
      (subst (λ x. IsAtom x (k.Caret ∷ k.Integer (int_eq z (pos 1)) (Some z) ∷ rest) e)
      (sym (append_assoc (as_base w.shape w.tokens) (k.Caret ∷ k.Integer (int_eq z (pos 1)) (Some z) ∷ []) rest))
      (base_atom w.shape w.tokens e s.reads (k.Caret ∷ k.Integer (int_eq z (pos 1)) (Some z) ∷ rest)));
  spelled = spelled_then names (as_base w.shape w.tokens) k.Caret (k.Integer (int_eq z (pos 1)) (Some z) ∷ []) (spelled_base names w.shape w.tokens s.spelled) (mark_caret names)
      (spelled_integer names z h);
}

conjugate_sound : (names : List (List ℕ)) (u v : Expr) (a b : Written) → IsSound names u a → IsSound names v b
    → IsSound names (Conj u v) (record { shape = shape.Raised; tokens = as_base a.shape a.tokens ++ k.Caret ∷ as_conjugator b.shape b.tokens })
conjugate_sound names u v a b s t = record {
  reads = λ rest. conjugate ((as_base a.shape a.tokens ++ k.Caret ∷ as_conjugator b.shape b.tokens) ++ rest) (as_conjugator b.shape b.tokens ++ rest) rest u v
      (subst (λ x. IsAtom x (k.Caret ∷ (as_conjugator b.shape b.tokens ++ rest)) u)
      (sym (append_assoc (as_base a.shape a.tokens) (k.Caret ∷ as_conjugator b.shape b.tokens) rest))
      (base_atom a.shape a.tokens u s.reads (k.Caret ∷ (as_conjugator b.shape b.tokens ++ rest))))
      ((conjugator_atom b.shape b.tokens v t.reads rest).1)
      ((conjugator_atom b.shape b.tokens v t.reads rest).0);
  spelled = spelled_then names (as_base a.shape a.tokens) k.Caret (as_conjugator b.shape b.tokens) (spelled_base names a.shape a.tokens s.spelled) (mark_caret names)
      (spelled_conjugator names b.shape b.tokens t.spelled);
}

commutator_sound : (names : List (List ℕ)) (u v : Expr) (a b : Written) → IsSound names u a → IsSound names v b
    → IsSound names (Comm u v) (record { shape = shape.Atom; tokens = k.SquareOpen ∷ (a.tokens ++ k.Comma ∷ (b.tokens ++ k.SquareClose ∷ [])) })
commutator_sound names u v a b s t = record {
  reads = λ rest. (
    square ((a.tokens ++ k.Comma ∷ (b.tokens ++ k.SquareClose ∷ [])) ++ rest) (b.tokens ++ k.SquareClose ∷ rest) rest u v
        (subst (λ x. IsExpr x (k.Comma ∷ (b.tokens ++ k.SquareClose ∷ rest)) u)
        (sym (append_assoc a.tokens (k.Comma ∷ (b.tokens ++ k.SquareClose ∷ [])) rest ∙ ap (λ x. a.tokens ++ k.Comma ∷ x) (append_assoc b.tokens (k.SquareClose ∷ []) rest)))
        (reads_expr a.shape a.tokens u s.reads (k.Comma ∷ (b.tokens ++ k.SquareClose ∷ rest))))
        (reads_expr b.shape b.tokens v t.reads (k.SquareClose ∷ rest)),
    refl,
  );
  spelled = spelled_mark names k.SquareOpen (a.tokens ++ k.Comma ∷ (b.tokens ++ k.SquareClose ∷ [])) (mark_square_open names)
      (spelled_then names a.tokens k.Comma (b.tokens ++ k.SquareClose ∷ []) s.spelled (mark_comma names)
      (spelled_then names b.tokens k.SquareClose [] t.spelled (mark_square_close names) (spelled_nil names)));
}

settled : (names : List (List ℕ)) (x : Expr-F Expr) (e : Expr) (w : Written) → roll-Expr x ≡ e → written (roll-Expr x) ≡ w → IsSound names e w
    → IsSound names (roll-Expr x) (written (roll-Expr x))
settled names x e w r f s = subst (λ v. IsSound names (roll-Expr x) v) (sym f) (subst (λ d. IsSound names d w) (sym r) s)

-- one level, from its parts
rolled : (names : List (List ℕ)) (n : ℕ) → AreWords names n → (y : Expr-F ((e : Expr) × Sound names n e))
    → Sound names n (roll-Expr (map-Expr ((e : Expr) × Sound names n e) Expr (λ e. e.0) y))
rolled names n words level.One h = settled names level.One One _ rolls-One (fold-roll-Expr Written written_level level.One) (one_sound names)
rolled names n words (level.Gen g) h =
    let own : (nat_le 1 g && nat_le g n) ≡ true = sym (fold-roll-Expr Bool (is_shaped_level n) (level.Gen g)) ∙ h in
    settled names (level.Gen g) (Gen g) _ (rolls-Gen g) (fold-roll-Expr Written written_level (level.Gen g))
    (name_sound names g (words g (left_of (nat_le 1 g) (nat_le g n) own) (right_of (nat_le 1 g) (nat_le g n) own)))
rolled names n words (level.Product ys) h =
    let es : List Expr = map (λ e. e.0) ys in
    let own : (nat_le 2 (length (map (is_shaped n) es)) && list_all (λ b. b) (map (is_shaped n) es)) ≡ true = sym (fold-roll-Expr Bool (is_shaped_level n) (level.Product es)) ∙ h in
    settled names (level.Product es) (Product es) _ (rolls-Product es) (fold-roll-Expr Written written_level (level.Product es))
    (product_sound names es (ap (nat_le 2) (sym (length-map es (is_shaped n))) ∙ left_of (nat_le 2 (length (map (is_shaped n) es))) (list_all (λ b. b) (map (is_shaped n) es)) own)
    (all_sound names n ys (right_of (nat_le 2 (length (map (is_shaped n) es))) (list_all (λ b. b) (map (is_shaped n) es)) own)))
rolled names n words (level.Pow y z) h =
    let own : (is_shaped n y.0 && is_within z) ≡ true = sym (fold-roll-Expr Bool (is_shaped_level n) (level.Pow y.0 z)) ∙ h in
    settled names (level.Pow y.0 z) (Pow y.0 z) _ (rolls-Pow y.0 z) (fold-roll-Expr Written written_level (level.Pow y.0 z))
    (power_sound names y.0 z (written y.0) (y.1 (left_of (is_shaped n y.0) (is_within z) own)) (within z (right_of (is_shaped n y.0) (is_within z) own)))
rolled names n words (level.Conj x y) h =
    let own : (is_shaped n x.0 && is_shaped n y.0) ≡ true = sym (fold-roll-Expr Bool (is_shaped_level n) (level.Conj x.0 y.0)) ∙ h in
    settled names (level.Conj x.0 y.0) (Conj x.0 y.0) _ (rolls-Conj x.0 y.0) (fold-roll-Expr Written written_level (level.Conj x.0 y.0))
    (conjugate_sound names x.0 y.0 (written x.0) (written y.0) (x.1 (left_of (is_shaped n x.0) (is_shaped n y.0) own)) (y.1 (right_of (is_shaped n x.0) (is_shaped n y.0) own)))
rolled names n words (level.Comm x y) h =
    let own : (is_shaped n x.0 && is_shaped n y.0) ≡ true = sym (fold-roll-Expr Bool (is_shaped_level n) (level.Comm x.0 y.0)) ∙ h in
    settled names (level.Comm x.0 y.0) (Comm x.0 y.0) _ (rolls-Comm x.0 y.0) (fold-roll-Expr Written written_level (level.Comm x.0 y.0))
    (commutator_sound names x.0 y.0 (written x.0) (written y.0) (x.1 (left_of (is_shaped n x.0) (is_shaped n y.0) own)) (y.1 (right_of (is_shaped n x.0) (is_shaped n y.0) own)))

pub written_sound : (names : List (List ℕ)) (n : ℕ) → AreWords names n → (e : Expr) → Sound names n e
written_sound names n words = ind-Expr (Sound names n) (λ x y is. subst (λ z. Sound names n (roll-Expr z)) is (rolled names n words y))
