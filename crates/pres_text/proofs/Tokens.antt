-- The tokens of a written relation line spell the relation.
use Rattle.std.proofs.Common.{◌≡◌, ℕ, ◌-◌, ◌^◌, ◌<◌, ◌≤◌, Bool, true, false, if◌then◌else◌, ℤ, pos, unsigned_abs, Some, List, [], ◌∷◌, ◌++◌, length, map, codes, refl, sym, ◌∙◌, ap, subst, append_assoc, append-nil, arith}
use Rattle.std.specs.List.{prefix_len, flat_map}
use Rattle.std.specs.Ordering.{int_eq}
use Rattle.std.specs.Fmt.{signed_decimal}
use Rattle.std.proofs.lemmas.Bool.Decides.{Decides-int_eq}
use Rattle.nil_pres.specs.declared.syllable.Syllable.{Syllable}
use Rattle.nil_pres.specs.Presented.{is_name_byte}
use Rattle.nil_pres.specs.Rights.{IsRight}
use Rattle.line_tokens.specs.declared.kind.Kind.{Kind}
use Rattle.line_tokens.specs.declared.kind.Kind.TheVariants as k
use Rattle.line_tokens.specs.Tokens.{is_digit, kinds}
use Rattle.line_tokens.proofs.Fronts.{kinds-word, kinds-signed, kinds-single, kinds-blank}
use Rattle.pres_text.specs.Relation.{IsPower, plain, raised, ArePowers, last, times, powers, IsSpelled, relation, relation_word}
use Rattle.pres_text.specs.File.{Relation, power_of, spelled_as}
use Rattle.pres_text.specs.Text.{name_of, power_text, right_text, bracket_text}
use Rattle.pres_text.proofs.Named.{IsWord, AreWords}

-- the text of a relation
abbrev pub relation_text : List (List ℕ) → Relation → List ℕ
relation_text names r = bracket_text names r.above r.below ++ right_text names r.right

kinds-name : (names : List (List ℕ)) (g : ℕ) (rest : List ℕ) → IsWord names g → prefix_len is_name_byte rest ≡ 0
    → kinds (relation_word names) (name_of names g ++ rest) ≡ k.Name g ∷ kinds (relation_word names) rest
kinds-name names g rest w e =
    ap (λ (n : List ℕ). kinds (relation_word names) (n ++ rest)) w.text
    ∙ kinds-word (relation_word names) w.first w.others rest w.letter w.bytes e
    ∙ ap (λ (m : ℕ). k.Name m ∷ kinds (relation_word names) rest) w.number

-- one power
power_by : (names : List (List ℕ)) (g : ℕ) (e : ℤ) (rest : List ℕ) (q : Bool) → int_eq e (pos 1) ≡ q → IsWord names g → unsigned_abs e < 2 ^ 127
    → prefix_len is_name_byte rest ≡ 0 → prefix_len is_digit rest ≡ 0
    → IsPower (kinds (relation_word names) ((name_of names g ++ (if q then [] else codes "^" ++ signed_decimal e)) ++ rest)) (kinds (relation_word names) rest) (record { number = g; exponent = Some e })
power_by names g e rest true h w small n d =
    let word : List ℕ → Kind = relation_word names in
    let cut : kinds word ((name_of names g ++ []) ++ rest) ≡ k.Name g ∷ kinds word rest =
    ap (λ (x : List ℕ). kinds word (x ++ rest)) (append-nil (name_of names g)) ∙ kinds-name names g rest w n in
    let one : e ≡ pos 1 = (Decides-int_eq e (pos 1)).0 h in
    subst (λ (ks : List Kind). IsPower ks (kinds word rest) (record { number = g; exponent = Some e })) (sym cut)
    (subst (λ (x : ℤ). IsPower (k.Name g ∷ kinds word rest) (kinds word rest) (record { number = g; exponent = Some x })) (sym one) (plain g (kinds word rest)))
power_by names g e rest false h w small n d =
    let word : List ℕ → Kind = relation_word names in
    let cut : kinds word ((name_of names g ++ (codes "^" ++ signed_decimal e)) ++ rest) ≡ k.Name g ∷ k.Caret ∷ k.Integer (int_eq e (pos 1)) (Some e) ∷ kinds word rest =
    ap (kinds word) (append_assoc (name_of names g) (codes "^" ++ signed_decimal e) rest)
    ∙ kinds-name names g (94 ∷ signed_decimal e ++ rest) w refl
    ∙ ap (λ (ks : List Kind). k.Name g ∷ ks) (kinds-single word 94 (signed_decimal e ++ rest) refl refl refl refl)
    ∙ ap (λ (ks : List Kind). k.Name g ∷ k.Caret ∷ ks) (kinds-signed word e rest small d) in
    subst (λ (ks : List Kind). IsPower ks (kinds word rest) (record { number = g; exponent = Some e })) (sym cut)
    (raised g (int_eq e (pos 1)) (Some e) (kinds word rest))

small_exponent : (n : ℕ) → n ≤ 2 ^ 63 - 1 → n < 2 ^ 127
small_exponent n h = omega arith

abbrev behind : List (List ℕ) → List Syllable → List ℕ
behind names right = flat_map (λ t. codes "*" ++ power_text names t) right

-- powers joined by *
powers_read : (names : List (List ℕ)) (low : ℕ) (s : Syllable) (right : List Syllable) → AreWords names (length names) → IsRight low (length names) (s ∷ right)
    → ArePowers (kinds (relation_word names) (right_text names (s ∷ right))) (power_of s ∷ map power_of right)
powers_read names low s [] words h =
    last (kinds (relation_word names) (right_text names (s ∷ []))) (power_of s)
    (power_by names s.number s.exp [] (int_eq s.exp (pos 1)) refl (words s.number (omega (arith, h.0)) h.1) (small_exponent (unsigned_abs s.exp) h.3) refl refl)
powers_read names low s (t ∷ ts) words h =
    let word : List ℕ → Kind = relation_word names in
    let one : IsPower (kinds word (right_text names (s ∷ t ∷ ts))) (kinds word (behind names (t ∷ ts))) (power_of s) =
    power_by names s.number s.exp (behind names (t ∷ ts)) (int_eq s.exp (pos 1)) refl (words s.number (omega (arith, h.0)) h.1) (small_exponent (unsigned_abs s.exp) h.3) refl refl in
    let star : kinds word (behind names (t ∷ ts)) ≡ k.Star ∷ kinds word (right_text names (t ∷ ts)) = kinds-single word 42 (right_text names (t ∷ ts)) refl refl refl refl in
    times (kinds word (right_text names (s ∷ t ∷ ts))) (kinds word (right_text names (t ∷ ts))) (power_of s) (power_of t ∷ map power_of ts)
    (subst (λ (ks : List Kind). IsPower (kinds word (right_text names (s ∷ t ∷ ts))) ks (power_of s)) star one)
    (powers_read names s.number t ts words h.4)

right_reads : (names : List (List ℕ)) (low : ℕ) (right : List Syllable) → AreWords names (length names) → IsRight low (length names) right → 1 ≤ length right
    → ArePowers (kinds (relation_word names) (right_text names right)) (map power_of right)
right_reads names low [] words h some = absurd (omega arith)
right_reads names low (s ∷ right) words h some = powers_read names low s right words h

-- a line from its bracket
bracket_front : (a b right : List ℕ) → (codes "[" ++ a ++ codes "," ++ b ++ codes "] = ") ++ right ≡ 91 ∷ (a ++ (44 ∷ (b ++ (93 ∷ 32 ∷ 61 ∷ 32 ∷ right))))
bracket_front a b right =
    append_assoc (codes "[" ++ a ++ codes "," ++ b) (codes "] = ") right
    ∙ append_assoc (codes "[" ++ a ++ codes ",") b (codes "] = " ++ right)
    ∙ append_assoc (codes "[" ++ a) (codes ",") (b ++ (codes "] = " ++ right))

kinds-bracket : (names : List (List ℕ)) (j i : ℕ) (right : List ℕ) → IsWord names j → IsWord names i
    → kinds (relation_word names) (bracket_text names j i ++ right) ≡ k.SquareOpen ∷ k.Name j ∷ k.Comma ∷ k.Name i ∷ k.SquareClose ∷ k.Equal ∷ kinds (relation_word names) right
kinds-bracket names j i right v w =
    let word : List ℕ → Kind = relation_word names in
    let behind_below : List ℕ = 93 ∷ 32 ∷ 61 ∷ 32 ∷ right in
    let behind_above : List ℕ = 44 ∷ (name_of names i ++ behind_below) in
    ap (kinds word) (bracket_front (name_of names j) (name_of names i) right)
    ∙ kinds-single word 91 (name_of names j ++ behind_above) refl refl refl refl
    ∙ ap (λ (ks : List Kind). k.SquareOpen ∷ ks) (kinds-name names j behind_above v refl)
    ∙ ap (λ (ks : List Kind). k.SquareOpen ∷ k.Name j ∷ ks) (kinds-single word 44 (name_of names i ++ behind_below) refl refl refl refl)
    ∙ ap (λ (ks : List Kind). k.SquareOpen ∷ k.Name j ∷ k.Comma ∷ ks) (kinds-name names i behind_below w refl)
    ∙ ap (λ (ks : List Kind). k.SquareOpen ∷ k.Name j ∷ k.Comma ∷ k.Name i ∷ ks)
    (kinds-single word 93 (32 ∷ 61 ∷ 32 ∷ right) refl refl refl refl
    ∙ ap (λ (ks : List Kind). k.SquareClose ∷ ks) (kinds-blank word 32 (61 ∷ 32 ∷ right) refl ∙ kinds-single word 61 (32 ∷ right) refl refl refl refl
    ∙ ap (λ (ks : List Kind). k.Equal ∷ ks) (kinds-blank word 32 right refl)))

pub relation_spelled : (names : List (List ℕ)) (r : Relation) → AreWords names (length names) → 1 ≤ r.below → r.below < r.above → r.above ≤ length names
    → IsRight r.above (length names) r.right → 1 ≤ length r.right → IsSpelled (kinds (relation_word names) (relation_text names r)) (spelled_as r)
relation_spelled names r words low order high right some =
    let word : List ℕ → Kind = relation_word names in
    let ks : List Kind = kinds word (right_text names r.right) in
    subst (λ (xs : List Kind). IsSpelled xs (spelled_as r)) (sym (kinds-bracket names r.above r.below (right_text names r.right) (words r.above (omega arith) high) (words r.below low (omega arith))))
    (relation r.above r.below ks (map power_of r.right) (powers ks (map power_of r.right) (right_reads names r.above r.right words right some)))
