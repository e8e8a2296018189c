-- The tokens of a product, factor by factor.
use Rattle.std.proofs.Common.{◌≡◌, ℕ, zero, suc, ◌+◌, ◌<◌, List, [], ◌∷◌, ◌++◌, length, map, take, get_or, refl, sym, ◌∙◌, ap, append_assoc, add-one, arith, Bool, ℤ, pos, Result, Ok, Err, OnOk}
use Rattle.std.proofs.Math.Seq.{take-suc}
use Rattle.std.specs.List.{join_with_byte}
use Rattle.std.specs.Fmt.{signed_decimal}
use Rattle.word_text.specs.Vectors.{text_of_entries, space_before}
use Rattle.std.proofs.lemmas.List.{length-take-le, length-map, map-append}
use Rattle.nil_word.specs.declared.expr.Expr.{Expr, Expr-F, fold-roll-Expr, roll-Expr}
use Rattle.nil_word.specs.declared.expr.Expr.TheOpen as level
use Rattle.nil_word.specs.declared.expr.Expr.TheVariants.{Product, Pow, Conj, Comm, rolls-Product, rolls-Pow, rolls-Conj, rolls-Comm}
use Rattle.line_tokens.specs.declared.kind.Kind.{Kind}
use Rattle.line_tokens.specs.declared.kind.Kind.TheVariants as k
use Rattle.word_text.specs.Writing.{Written, enclosed, breaks_item, breaks_base, breaks_conjugator, as_base, as_conjugator, exponent_token, star_before, joined_by_star, item_tokens, written_level, written}

joined_by_star-last : (ws : List (List Kind)) (w : List Kind) → joined_by_star (ws ++ w ∷ []) ≡ (joined_by_star ws ++ star_before (length ws)) ++ w
joined_by_star-last [] w = refl
joined_by_star-last (a ∷ []) w = sym (append_assoc a (k.Star ∷ []) w)
joined_by_star-last (a ∷ b ∷ ws) w =
    ap (λ x. a ++ k.Star ∷ x) (joined_by_star-last (b ∷ ws) w)
    ∙ sym (append_assoc a (k.Star ∷ (joined_by_star (b ∷ ws) ++ k.Star ∷ [])) w)
    ∙ ap (λ x. x ++ w) (sym (append_assoc a (k.Star ∷ joined_by_star (b ∷ ws)) (k.Star ∷ [])))

abbrev pub items_tokens : List Expr → List Kind
items_tokens es = joined_by_star (map item_tokens (map written es))

items_tokens-last : (es : List Expr) (e : Expr) → items_tokens (es ++ e ∷ []) ≡ (items_tokens es ++ star_before (length es)) ++ item_tokens (written e)
items_tokens-last es e =
    ap joined_by_star (both es) ∙ joined_by_star-last (map item_tokens (map written es)) (item_tokens (written e))
    ∙ ap (λ n. (items_tokens es ++ star_before n) ++ item_tokens (written e)) (lengths es)
  where
    both : (xs : List Expr) → map item_tokens (map written (xs ++ e ∷ [])) ≡ map item_tokens (map written xs) ++ item_tokens (written e) ∷ []
    both [] = refl
    both (x ∷ xs) = ap (λ ys. item_tokens (written x) ∷ ys) (both xs)

    lengths : (xs : List Expr) → length (map item_tokens (map written xs)) ≡ length xs
    lengths [] = refl
    lengths (x ∷ xs) = ap suc (lengths xs)

pub items_tokens-take : (es : List Expr) (i : ℕ) (e : Expr) → i < length es
    → items_tokens (take (i + 1) es) ≡ (items_tokens (take i es) ++ star_before i) ++ item_tokens (written (get_or es i e))
items_tokens-take es i e h =
    let size : length (take i es) ≡ i = length-take-le i es (omega arith) in
    ap (λ n. items_tokens (take n es)) (add-one i) ∙ ap items_tokens (take-suc es i e h) ∙ items_tokens-last (take i es) (get_or es i e)
    ∙ ap (λ n. (items_tokens (take i es) ++ star_before n) ++ item_tokens (written (get_or es i e))) size

pub on_ok : {T E : Type 0} (r : Result T E) {P Q : Type 0} → (P → Q) → OnOk r P → OnOk r Q
on_ok (Ok x) f h = f h
on_ok (Err e) f h = h

-- the factor at a place
pub one_more : (es : List Expr) (i : ℕ) (e : Expr) (b : Bool) (old t1 t2 t3 : List Kind) → i < length es → e ≡ get_or es i e → t1 ≡ old ++ items_tokens (take i es)
    → b ≡ breaks_item (written e).shape → t2 ≡ t1 ++ star_before i → t3 ≡ t2 ++ enclosed b (written e).tokens → t3 ≡ old ++ items_tokens (take (i + 1) es)
one_more es i e b old t1 t2 t3 h is before breaks starred own =
    let whole = items_tokens (take i es) in
    own ∙ ap (λ c. t2 ++ enclosed c (written e).tokens) breaks ∙ ap (λ t. t ++ item_tokens (written e)) (starred ∙ ap (λ t. t ++ star_before i) before)
    ∙ ap (λ t. t ++ item_tokens (written e)) (append_assoc old whole (star_before i)) ∙ append_assoc old (whole ++ star_before i) (item_tokens (written e))
    ∙ ap (λ x. old ++ ((whole ++ star_before i) ++ item_tokens (written x))) is ∙ ap (λ t. old ++ t) (sym (items_tokens-take es i e h))

tokens_of-rolled : (x : Expr-F Expr) (e : Expr) → roll-Expr x ≡ e → (w : Written) → written (roll-Expr x) ≡ w → (written e).tokens ≡ w.tokens
tokens_of-rolled x e r w f = ap (λ d. (written d).tokens) (sym r) ∙ ap (λ v. v.tokens) f

-- the tokens of each kind of expression, one after another
pub product_tokens : (e : Expr) (es : List Expr) → e ≡ Product es → (written e).tokens ≡ items_tokens es
product_tokens e es is = ap (λ d. (written d).tokens) is ∙ tokens_of-rolled (level.Product es) (Product es) (rolls-Product es) _ (fold-roll-Expr Written written_level (level.Product es))

pub power_tokens : (e base : Expr) (z : ℤ) (b : Bool) (old t1 t2 t3 : List Kind) → e ≡ Pow base z → b ≡ breaks_base (written base).shape
    → t1 ≡ old ++ enclosed b (written base).tokens → t2 ≡ t1 ++ k.Caret ∷ [] → t3 ≡ t2 ++ exponent_token z ∷ [] → t3 ≡ old ++ (written e).tokens
power_tokens e base z b old t1 t2 t3 is breaks first second third =
    let own = as_base (written base).shape (written base).tokens in
    third ∙ ap (λ t. t ++ exponent_token z ∷ []) (second ∙ ap (λ t. t ++ k.Caret ∷ []) (first ∙ ap (λ c. old ++ enclosed c (written base).tokens) breaks))
    ∙ append_assoc (old ++ own) (k.Caret ∷ []) (exponent_token z ∷ []) ∙ append_assoc old own (k.Caret ∷ exponent_token z ∷ [])
    ∙ ap (λ t. old ++ t) (sym (ap (λ d. (written d).tokens) is ∙ tokens_of-rolled (level.Pow base z) (Pow base z) (rolls-Pow base z) _ (fold-roll-Expr Written written_level (level.Pow base z))))

pub conjugate_tokens : (e u v : Expr) (b c : Bool) (old t1 t2 t3 : List Kind) → e ≡ Conj u v → b ≡ breaks_base (written u).shape → c ≡ breaks_conjugator (written v).shape
    → t1 ≡ old ++ enclosed b (written u).tokens → t2 ≡ t1 ++ k.Caret ∷ [] → t3 ≡ t2 ++ enclosed c (written v).tokens → t3 ≡ old ++ (written e).tokens
conjugate_tokens e u v b c old t1 t2 t3 is breaks breaks' first second third =
    let own = as_base (written u).shape (written u).tokens in
    let by = as_conjugator (written v).shape (written v).tokens in
    third ∙ ap (λ d. t2 ++ enclosed d (written v).tokens) breaks' ∙ ap (λ t. t ++ by) (second ∙ ap (λ t. t ++ k.Caret ∷ []) (first ∙ ap (λ d. old ++ enclosed d (written u).tokens) breaks))
    ∙ append_assoc (old ++ own) (k.Caret ∷ []) by ∙ append_assoc old own (k.Caret ∷ by)
    ∙ ap (λ t. old ++ t) (sym (ap (λ d. (written d).tokens) is ∙ tokens_of-rolled (level.Conj u v) (Conj u v) (rolls-Conj u v) _ (fold-roll-Expr Written written_level (level.Conj u v))))

pub commutator_tokens : (e u v : Expr) (old t1 t2 t3 t4 t5 : List Kind) → e ≡ Comm u v → t1 ≡ old ++ k.SquareOpen ∷ [] → t2 ≡ t1 ++ (written u).tokens → t3 ≡ t2 ++ k.Comma ∷ []
    → t4 ≡ t3 ++ (written v).tokens → t5 ≡ t4 ++ k.SquareClose ∷ [] → t5 ≡ old ++ (written e).tokens
commutator_tokens e u v old t1 t2 t3 t4 t5 is first second third fourth fifth =
    let a = (written u).tokens in
    let b = (written v).tokens in
    fifth ∙ ap (λ t. t ++ k.SquareClose ∷ []) (fourth ∙ ap (λ t. t ++ b) (third ∙ ap (λ t. t ++ k.Comma ∷ []) (second ∙ ap (λ t. t ++ a) first)))
    ∙ append_assoc (((old ++ k.SquareOpen ∷ []) ++ a) ++ k.Comma ∷ []) b (k.SquareClose ∷ [])
    ∙ append_assoc ((old ++ k.SquareOpen ∷ []) ++ a) (k.Comma ∷ []) (b ++ k.SquareClose ∷ [])
    ∙ append_assoc (old ++ k.SquareOpen ∷ []) a (k.Comma ∷ (b ++ k.SquareClose ∷ []))
    ∙ append_assoc old (k.SquareOpen ∷ []) (a ++ k.Comma ∷ (b ++ k.SquareClose ∷ []))
    ∙ ap (λ t. old ++ t) (sym (ap (λ d. (written d).tokens) is ∙ tokens_of-rolled (level.Comm u v) (Comm u v) (rolls-Comm u v) _ (fold-roll-Expr Written written_level (level.Comm u v))))

-- the text of entries, one after another
abbrev between : ℕ → ℕ → List ℕ
between c zero = []
between c (suc n) = c ∷ []

join_with_byte-last : (c : ℕ) (ws : List (List ℕ)) (w : List ℕ) → join_with_byte c (ws ++ w ∷ []) ≡ (join_with_byte c ws ++ between c (length ws)) ++ w
join_with_byte-last c [] w = refl
join_with_byte-last c (a ∷ []) w = sym (append_assoc a (c ∷ []) w)
join_with_byte-last c (a ∷ b ∷ ws) w =
    ap (λ x. a ++ c ∷ x) (join_with_byte-last c (b ∷ ws) w)
    ∙ sym (append_assoc a (c ∷ (join_with_byte c (b ∷ ws) ++ c ∷ [])) w)
    ∙ ap (λ x. x ++ w) (sym (append_assoc a (c ∷ join_with_byte c (b ∷ ws)) (c ∷ [])))

pub entries-take : (v : List ℤ) (i : ℕ) → i < length v → text_of_entries (take (i + 1) v) ≡ (text_of_entries (take i v) ++ space_before i) ++ signed_decimal (get_or v i (pos 0))
entries-take v i h =
    let size : length (map signed_decimal (take i v)) ≡ i = length-map (take i v) signed_decimal ∙ length-take-le i v (omega arith) in
    ap (λ n. text_of_entries (take n v)) (add-one i) ∙ ap text_of_entries (take-suc v i (pos 0) h)
    ∙ ap (join_with_byte 32) (map-append signed_decimal (take i v) (get_or v i (pos 0) ∷ []))
    ∙ join_with_byte-last 32 (map signed_decimal (take i v)) (signed_decimal (get_or v i (pos 0)))
    ∙ ap (λ n. (text_of_entries (take i v) ++ between 32 n) ++ signed_decimal (get_or v i (pos 0))) size
    ∙ ap (λ t. (text_of_entries (take i v) ++ t) ++ signed_decimal (get_or v i (pos 0))) (spaced i)
  where
    spaced : (n : ℕ) → between 32 n ≡ space_before n
    spaced zero = refl
    spaced (suc n) = refl
