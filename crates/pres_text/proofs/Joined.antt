-- Lines that end in line feeds, and words behind spaces, are read back.
use Rattle.std.proofs.Common.{◌≡◌, ℕ, zero, suc, ◌+◌, ◌-◌, ◌≤◌, ◌==◌, not, Bool, true, false, if◌then◌else◌, List, [], ◌∷◌, ◌++◌, length, map, take, drop, get_or, codes, refl, sym, ◌∙◌, ap, append_assoc, append-nil, arith, length-append}
use Rattle.std.specs.List.{list_all, prefix_len, position_or_len, flat_map}
use Rattle.std.proofs.Math.Seq.{take-append_seam, drop-append_seam, take-suc}
use Rattle.std.proofs.lemmas.Grind.{flat_map-append}
use Rattle.std.proofs.lemmas.List.{take_all}
use Rattle.line_tokens.specs.Tokens.{is_blank, is_silent}
use Rattle.line_tokens.proofs.Fronts.{prefix_len-run}
use Rattle.pres_text.specs.Lines.{Line, lines, content_from, content, words}
use Rattle.pres_text.specs.Text.{name_of, names_text}
use Rattle.pres_text.proofs.Pieces.{lines-front, words-front, words-blank}
use Rattle.pres_text.proofs.Plain.{is_plain, plain_line, plain_stripped}

-- each element of a list
abbrev pub Each : {A : Type 0} → (A → Type 0) → List A → Type 0
Each P [] = Unit {0}
Each P (x ∷ xs) = P x × Each P xs

-- lines, each with a line feed behind it
abbrev pub joined : List (List ℕ) → List ℕ
joined [] = []
joined (l ∷ ls) = l ++ 10 ∷ joined ls

pub joined-append : (xs ys : List (List ℕ)) → joined (xs ++ ys) ≡ joined xs ++ joined ys
joined-append [] ys = refl
joined-append (l ∷ xs) ys = ap (λ (t : List ℕ). l ++ 10 ∷ t) (joined-append xs ys) ∙ sym (append_assoc l (10 ∷ joined xs) (joined ys))

-- a line that is printable and says something
pub record IsSaid (l : List ℕ) : Type 0 where
  pub plain : is_plain l ≡ true
  pub says : is_silent l ≡ false

pub lines-joined : (ls : List (List ℕ)) → Each IsSaid ls → lines (joined ls) ≡ ls
lines-joined [] h = refl
lines-joined (l ∷ ls) h =
    let rest : List ℕ = 10 ∷ joined ls in
    let n : length l ≡ position_or_len (λ b. b == 10) (l ++ rest) = sym (prefix_len-run (λ b. not (b == 10)) l rest (plain_line l h.0.plain) refl) in
    lines-front (l ++ rest) (length l) n (omega (arith, length-append l rest))
    ∙ ap (λ (w : List ℕ). w ∷ lines (drop 1 (drop (length l) (l ++ rest)))) (take-append_seam l rest)
    ∙ ap (λ (r : List ℕ). l ∷ lines (drop 1 r)) (drop-append_seam l rest)
    ∙ ap (λ (more : List (List ℕ)). l ∷ more) (lines-joined ls h.1)

texts_from : (n : ℕ) (ls : List (List ℕ)) → Each IsSaid ls → map (λ (l : Line). l.text) (content_from n ls) ≡ ls
texts_from n [] h = refl
texts_from n (l ∷ ls) h =
    ap (λ (x : List ℕ). map (λ (m : Line). m.text) (if is_silent x then content_from (n + 1) ls else record { number = n; text = x } ∷ content_from (n + 1) ls)) (plain_stripped l h.0.plain)
    ∙ ap (λ (q : Bool). map (λ (m : Line). m.text) (if q then content_from (n + 1) ls else record { number = n; text = l } ∷ content_from (n + 1) ls)) h.0.says
    ∙ ap (λ (more : List (List ℕ)). l ∷ more) (texts_from (n + 1) ls h.1)

pub texts-joined : (ls : List (List ℕ)) → Each IsSaid ls → map (λ (l : Line). l.text) (content (joined ls)) ≡ ls
texts-joined ls h = ap (λ (x : List (List ℕ)). map (λ (l : Line). l.text) (content_from 1 x)) (lines-joined ls h) ∙ texts_from 1 ls h

-- words, each with a space before it
abbrev pub spaced : List (List ℕ) → List ℕ
spaced ws = flat_map (λ w. 32 ∷ w) ws

pub record IsOne (w : List ℕ) : Type 0 where
  pub some : 1 ≤ length w
  pub inside : list_all (λ b. not (is_blank b)) w ≡ true

spaced_stops : (ws : List (List ℕ)) → prefix_len (λ b. not (is_blank b)) (spaced ws) ≡ 0
spaced_stops [] = refl
spaced_stops (w ∷ ws) = refl

pub words-first : (w : List ℕ) (ws : List (List ℕ)) → IsOne w → words (w ++ spaced ws) ≡ w ∷ words (spaced ws)
words-first w ws h =
    let rest : List ℕ = spaced ws in
    let n : length w ≡ prefix_len (λ b. not (is_blank b)) (w ++ rest) = sym (prefix_len-run (λ b. not (is_blank b)) w rest h.inside (spaced_stops ws)) in
    words-front (w ++ rest) (length w) n h.some
    ∙ ap (λ (x : List ℕ). x ∷ words (drop (length w) (w ++ rest))) (take-append_seam w rest)
    ∙ ap (λ (r : List ℕ). w ∷ words r) (drop-append_seam w rest)

pub words-spaced : (ws : List (List ℕ)) → Each IsOne ws → words (spaced ws) ≡ ws
words-spaced [] h = refl
words-spaced (w ∷ ws) h = words-blank 32 (w ++ spaced ws) refl ∙ words-first w ws h.0 ∙ ap (λ (more : List (List ℕ)). w ∷ more) (words-spaced ws h.1)

less_one : (n : ℕ) → suc n - 1 ≡ n
less_one n = omega arith

names_text-take : (names : List (List ℕ)) (n : ℕ) → n ≤ length names → names_text names n ≡ spaced (take n names)
names_text-take names zero h = refl
names_text-take names (suc n) h =
    let w : List ℕ = get_or names n [] in
    ap (λ (t : List ℕ). (t ++ codes " ") ++ name_of names (suc n)) (names_text-take names n (omega arith))
    ∙ ap (λ (m : ℕ). (spaced (take n names) ++ codes " ") ++ get_or names m []) (less_one n)
    ∙ append_assoc (spaced (take n names)) (codes " ") w
    ∙ ap (λ (t : List ℕ). spaced (take n names) ++ 32 ∷ t) (sym (append-nil w))
    ∙ sym (flat_map-append (λ (v : List ℕ). 32 ∷ v) (take n names) (w ∷ []))
    ∙ ap spaced (sym (take-suc names n [] (omega arith)))

pub names_text-spaced : (names : List (List ℕ)) → names_text names (length names) ≡ spaced names
names_text-spaced names = names_text-take names (length names) (omega arith) ∙ ap spaced (take_all (length names) names (omega arith))
