-- The text of written tokens is cut into these tokens again.
use Rattle.std.proofs.Common.{◌≡◌, ℕ, ◌+◌, ◌-◌, ◌==◌, ◌^◌, ◌<◌, ◌⊎◌, nat_le, Bool, true, false, cond, ◌&&◌, ℤ, pos, Some, None, List, [], ◌∷◌, ◌++◌, get_or, inl, inr, refl, sym, ◌∙◌, ap, append_assoc, append-nil, unsigned_abs, arith}
use Rattle.std.specs.List.{prefix_len, list_all}
use Rattle.std.specs.Prelude.{codes}
use Rattle.std.specs.Ordering.{int_eq}
use Rattle.std.proofs.lemmas.List.Concat.{flat_map-append}
use Rattle.std.proofs.lemmas.Bool.Decides.{nat_tests}
use Rattle.nil_pres.specs.Presented.{is_letter, is_name_byte}
use Rattle.line_tokens.specs.declared.kind.Kind.{Kind}
use Rattle.line_tokens.specs.declared.kind.Kind.TheVariants as k
use Rattle.line_tokens.specs.Tokens.{is_blank, is_digit, is_silent, kinds}
use Rattle.line_tokens.proofs.Fronts.{kinds-blank, kinds-word, kinds-single, kinds-signed}
use Rattle.word_text.specs.Words.{query_word}
use Rattle.word_text.specs.Writing.{bracketed}
use Rattle.word_text.specs.Texts.{kind_text, text_of}

-- a token with which nothing can be wrong but its depth
abbrev pub is_fair : Kind → Bool
is_fair (k.Name g) = nat_le 1 g
is_fair (k.Integer one None) = false
is_fair _ = true

-- where no name byte stands behind it, the text of these tokens is cut into them
pub record IsSpelled (names : List (List ℕ)) (ks : List Kind) : Type 0 where
  pub cuts : (rest : List ℕ) → prefix_len is_name_byte rest ≡ 0 → kinds (query_word names) (text_of names ks ++ rest) ≡ ks ++ kinds (query_word names) rest
  pub fair : list_all is_fair ks ≡ true

-- the text of this token is cut from all that follows, and ends each word and number before it
pub record IsMark (names : List (List ℕ)) (k : Kind) : Type 0 where
  pub cut : (bs : List ℕ) → kinds (query_word names) (kind_text names k ++ bs) ≡ k ∷ kinds (query_word names) bs
  pub stops : (bs : List ℕ) → prefix_len is_name_byte (kind_text names k ++ bs) ≡ 0
  pub fair : is_fair k ≡ true

pub mark_star : (names : List (List ℕ)) → IsMark names k.Star
mark_star names = record { cut = λ bs. kinds-single (query_word names) 42 bs refl refl refl refl; stops = λ bs. refl; fair = refl }

pub mark_caret : (names : List (List ℕ)) → IsMark names k.Caret
mark_caret names = record { cut = λ bs. kinds-single (query_word names) 94 bs refl refl refl refl; stops = λ bs. refl; fair = refl }

pub mark_open : (names : List (List ℕ)) → IsMark names k.Open
mark_open names = record { cut = λ bs. kinds-single (query_word names) 40 bs refl refl refl refl; stops = λ bs. refl; fair = refl }

pub mark_close : (names : List (List ℕ)) → IsMark names k.Close
mark_close names = record { cut = λ bs. kinds-single (query_word names) 41 bs refl refl refl refl; stops = λ bs. refl; fair = refl }

pub mark_square_open : (names : List (List ℕ)) → IsMark names k.SquareOpen
mark_square_open names = record { cut = λ bs. kinds-single (query_word names) 91 bs refl refl refl refl; stops = λ bs. refl; fair = refl }

pub mark_square_close : (names : List (List ℕ)) → IsMark names k.SquareClose
mark_square_close names = record { cut = λ bs. kinds-single (query_word names) 93 bs refl refl refl refl; stops = λ bs. refl; fair = refl }

pub mark_comma : (names : List (List ℕ)) → IsMark names k.Comma
mark_comma names = record { cut = λ bs. kinds-single (query_word names) 44 bs refl refl refl refl; stops = λ bs. refl; fair = refl }

pub mark_equal : (names : List (List ℕ)) → IsMark names k.Equal
mark_equal names = record {
  cut = λ bs. kinds-blank (query_word names) 32 (61 ∷ 32 ∷ bs) refl ∙ kinds-single (query_word names) 61 (32 ∷ bs) refl refl refl refl ∙ ap (λ ks. k.Equal ∷ ks) (kinds-blank (query_word names) 32 bs refl);
  stops = λ bs. refl;
  fair = refl;
}

pub mark_bar : (names : List (List ℕ)) → IsMark names k.Bar
mark_bar names = record {
  cut = λ bs. kinds-blank (query_word names) 32 (124 ∷ 32 ∷ bs) refl ∙ kinds-single (query_word names) 124 (32 ∷ bs) refl refl refl refl ∙ ap (λ ks. k.Bar ∷ ks) (kinds-blank (query_word names) 32 bs refl);
  stops = λ bs. refl;
  fair = refl;
}

-- a keyword and the blank behind it
pub cut_solve : (names : List (List ℕ)) (bs : List ℕ) → kinds (query_word names) (kind_text names k.Solve ++ bs) ≡ k.Solve ∷ kinds (query_word names) bs
cut_solve names bs = kinds-word (query_word names) 115 (codes "olve") (32 ∷ bs) refl refl refl ∙ ap (λ ks. k.Solve ∷ ks) (kinds-blank (query_word names) 32 bs refl)

pub cut_quotient : (names : List (List ℕ)) (bs : List ℕ) → kinds (query_word names) (kind_text names k.Quotient ++ bs) ≡ k.Quotient ∷ kinds (query_word names) bs
cut_quotient names bs = kinds-word (query_word names) 113 (codes "uotient") (32 ∷ bs) refl refl refl ∙ ap (λ ks. k.Quotient ∷ ks) (kinds-blank (query_word names) 32 bs refl)

both_true : (a b : Bool) → a ≡ true → b ≡ true → (a && b) ≡ true
both_true true b e f = f
both_true false b e f = e

fair-append : (a b : List Kind) → list_all is_fair a ≡ true → list_all is_fair b ≡ true → list_all is_fair (a ++ b) ≡ true
fair-append [] b e f = f
fair-append (x ∷ a) b e f = both_true (is_fair x) (list_all is_fair (a ++ b)) (first (is_fair x) (list_all is_fair a) e) (fair-append a b (second (is_fair x) (list_all is_fair a) e) f)
  where
    first : (p q : Bool) → (p && q) ≡ true → p ≡ true
    first true q h = refl
    first false q h = h

    second : (p q : Bool) → (p && q) ≡ true → q ≡ true
    second true q h = h
    second false q h = cc

pub spelled_nil : (names : List (List ℕ)) → IsSpelled names []
spelled_nil names = record { cuts = λ rest h. refl; fair = refl }

-- one more token in front
pub cuts_first : (names : List (List ℕ)) (k : Kind) (ks : List Kind) (rest : List ℕ)
    → ((bs : List ℕ) → kinds (query_word names) (kind_text names k ++ bs) ≡ k ∷ kinds (query_word names) bs)
    → kinds (query_word names) (text_of names ks ++ rest) ≡ ks ++ kinds (query_word names) rest
    → kinds (query_word names) (text_of names (k ∷ ks) ++ rest) ≡ (k ∷ ks) ++ kinds (query_word names) rest
cuts_first names k ks rest cut e =
    ap (kinds (query_word names)) (append_assoc (kind_text names k) (text_of names ks) rest) ∙ cut (text_of names ks ++ rest) ∙ ap (λ x. k ∷ x) e

pub spelled_mark : (names : List (List ℕ)) (k : Kind) (ks : List Kind) → IsMark names k → IsSpelled names ks → IsSpelled names (k ∷ ks)
spelled_mark names k ks m s = record {
  cuts = λ rest h. cuts_first names k ks rest m.cut (s.cuts rest h);
  fair = both_true (is_fair k) (list_all is_fair ks) m.fair s.fair;
}

pub spelled_then : (names : List (List ℕ)) (a : List Kind) (k : Kind) (b : List Kind) → IsSpelled names a → IsMark names k → IsSpelled names b → IsSpelled names (a ++ k ∷ b)
spelled_then names a k b s m t = record {
  cuts = λ rest h.
      ap (λ x. kinds (query_word names) (x ++ rest)) (flat_map-append (kind_text names) a (k ∷ b))
      ∙ ap (kinds (query_word names)) (append_assoc (text_of names a) (text_of names (k ∷ b)) rest)
      ∙ s.cuts (text_of names (k ∷ b) ++ rest) (ap (prefix_len is_name_byte) (append_assoc (kind_text names k) (text_of names b) rest) ∙ m.stops (text_of names b ++ rest))
      ∙ ap (λ x. a ++ x) (cuts_first names k b rest m.cut (t.cuts rest h))
      ∙ sym (append_assoc a (k ∷ b) (kinds (query_word names) rest));
  fair = fair-append a (k ∷ b) s.fair (both_true (is_fair k) (list_all is_fair b) m.fair t.fair);
}

pub spelled_bracketed : (names : List (List ℕ)) (ks : List Kind) → IsSpelled names ks → IsSpelled names (bracketed ks)
spelled_bracketed names ks s = spelled_mark names k.Open (ks ++ k.Close ∷ []) (mark_open names) (spelled_then names ks k.Close [] s (mark_close names) (spelled_nil names))

-- a name that is read as its generator
pub record IsWord (names : List (List ℕ)) (g : ℕ) : Type 0 where
  pub first : ℕ
  pub others : List ℕ
  pub text : get_or names (g - 1) [] ≡ first ∷ others
  pub letter : is_letter first ≡ true
  pub bytes : list_all is_name_byte others ≡ true
  pub meaning : query_word names (first ∷ others) ≡ k.Name g
  pub counted : nat_le 1 g ≡ true

pub spelled_name : (names : List (List ℕ)) (g : ℕ) → IsWord names g → IsSpelled names (k.Name g ∷ [])
spelled_name names g w = record {
  cuts = λ rest h.
      ap (λ t. kinds (query_word names) (t ++ rest)) (append-nil (get_or names (g - 1) []) ∙ w.text)
      ∙ kinds-word (query_word names) w.first w.others rest w.letter w.bytes h
      ∙ ap (λ x. x ∷ kinds (query_word names) rest) w.meaning;
  fair = both_true (nat_le 1 g) true w.counted refl;
}

no_digits : (bs : List ℕ) → prefix_len is_name_byte bs ≡ 0 → prefix_len is_digit bs ≡ 0
no_digits [] h = refl
no_digits (b ∷ bs) h = ap (λ q. cond q (1 + prefix_len is_digit bs) 0) (digit_apart (is_name_byte b) b refl h)
  where
    digit_apart : (q : Bool) (c : ℕ) → is_name_byte c ≡ q → cond q (1 + prefix_len is_name_byte bs) 0 ≡ 0 → is_digit c ≡ false
    digit_apart true c e f = absurd (omega arith)
    digit_apart false c e f = grind (arith, nat_tests)

pub spelled_integer : (names : List (List ℕ)) (e : ℤ) → unsigned_abs e < 2 ^ 127 → IsSpelled names (k.Integer (int_eq e (pos 1)) (Some e) ∷ [])
spelled_integer names e h = record {
  cuts = λ rest s.
      ap (λ t. kinds (query_word names) (t ++ rest)) (append-nil (kind_text names (k.Integer (int_eq e (pos 1)) (Some e))))
      ∙ kinds-signed (query_word names) e rest h (no_digits rest s);
  fair = refl;
}

abbrev pub SaysNothing : List Kind → Type 0
SaysNothing ks = (ks ≡ []) ⊎ ((more : List Kind) × (ks ≡ k.Other ∷ more))

along : (names : List (List ℕ)) (b : ℕ) (bs : List ℕ) → is_blank b ≡ true → SaysNothing (kinds (query_word names) bs) → SaysNothing (kinds (query_word names) (b ∷ bs))
along names b bs e (inl f) = inl (kinds-blank (query_word names) b bs e ∙ f)
along names b bs e (inr (more, f)) = inr (more, kinds-blank (query_word names) b bs e ∙ f)

hash : (names : List (List ℕ)) (b : ℕ) (bs : List ℕ) → b ≡ 35 → SaysNothing (kinds (query_word names) (b ∷ bs))
hash names b bs e = inr (kinds (query_word names) bs, ap (λ x. kinds (query_word names) (x ∷ bs)) e ∙ kinds-single (query_word names) 35 bs refl refl refl refl)

at_byte : (names : List (List ℕ)) (b : ℕ) (bs : List ℕ) (q : Bool) → is_blank b ≡ q → cond q (is_silent bs) (b == 35) ≡ true
    → (is_silent bs ≡ true → SaysNothing (kinds (query_word names) bs)) → SaysNothing (kinds (query_word names) (b ∷ bs))
at_byte names b bs true e s rest = along names b bs e (rest s)
at_byte names b bs false e s rest = hash names b bs (grind (arith, nat_tests))

-- a silent line has no token, or its first is none
pub silent_kinds : (names : List (List ℕ)) (bs : List ℕ) → is_silent bs ≡ true → SaysNothing (kinds (query_word names) bs)
silent_kinds names [] h = inl refl
silent_kinds names (b ∷ bs) h = at_byte names b bs (is_blank b) refl h (λ s. silent_kinds names bs s)
