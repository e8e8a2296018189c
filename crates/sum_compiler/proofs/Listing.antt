-- Lists of what is put in place of variables: their places, and their variables.
--   v w variables · ps xs ys zs polynomials · p s polynomial · k generator · a point
use Rattle.std.proofs.Common.{◌≡◌, ◌≢◌, ℕ, suc, ◌+◌, ◌<◌, ◌≤◌, ◌%◌, List, [], ◌∷◌, ◌++◌, length, map, refl, ap, ◌∙◌, subst, arith, inl, inr}
use Rattle.std.specs.Prelude.{All, AllPairs, ◌⊎◌}
use Rattle.std.proofs.Math.Nat.{add-mod_right, mod-eq_of_lt}
use Rattle.std.proofs.lemmas.Bool.{lt-ltb, le-leb}
use Rattle.std.proofs.lemmas.List.Elements.{All-nil, All-cons, All-head, All-tail, All-append, All-weaker}
use Rattle.std.proofs.lemmas.List.Kept.{AllPairs-cons}
use Rattle.binom_poly.specs.declared.term.Term.{Term}
use Rattle.binom_poly.specs.Monomial.{IsVariable}
use Rattle.binom_poly.specs.Variable.{x_of, y_of, z_of, step_variable}
use Rattle.poly_subst.specs.declared.assign.Assign.{Assign}
use Rattle.sum_compiler.specs.Putting.{in_place, into, to_power}

-- ---- places
pub length-in_place : (v : ℕ) (ps : List (List Term)) → length (in_place v ps) ≡ length ps
unfolding in_place
length-in_place v [] = refl
length-in_place v (p ∷ ps) = ap suc (length-in_place (suc v) ps)

pub in_place-push : (v : ℕ) (ps : List (List Term)) (p : List Term)
    → in_place v (ps ++ p ∷ []) ≡ in_place v ps ++ record { var = v + length ps; to = p } ∷ []
unfolding in_place
in_place-push v [] p =
    ap (λ (w : ℕ). record { var = w; to = p } ∷ []) (let e : v ≡ v + 0 = omega arith in e)
in_place-push v (q ∷ ps) p =
    ap (λ (ss : List Assign). record { var = v; to = q } ∷ ss)
    (in_place-push (suc v) ps p
    ∙ ap (λ (w : ℕ). in_place (suc v) ps ++ record { var = w; to = p } ∷ [])
    (let e : suc v + length ps ≡ v + length (q ∷ ps) = omega arith in e))

pub polys-in_place : (v : ℕ) (ps : List (List Term)) → map (λ s. s.to) (in_place v ps) ≡ ps
unfolding in_place
polys-in_place v [] = refl
polys-in_place v (p ∷ ps) = ap (λ (qs : List (List Term)). p ∷ qs) (polys-in_place (suc v) ps)

-- ---- variables
x_is : (v : ℕ) → 1 ≤ v → v ≤ 48 → IsVariable v
x_is v h k =
    let e : v % 64 ≡ v = mod-eq_of_lt (omega arith) in
    rw (e, lt-ltb 0 v (omega arith), le-leb v 48 k, lt-ltb v 192 (omega arith)) refl

pub y_is : (v : ℕ) → 1 ≤ v → v ≤ 48 → IsVariable (y_of v)
y_is v h k =
    let e : (64 + v) % 64 ≡ v =
    ap (λ (n : ℕ). n % 64) (let s : 64 + v ≡ v + 64 = omega arith in s)
    ∙ add-mod_right v 64 ∙ mod-eq_of_lt (omega arith) in
    rw (e, lt-ltb 0 v (omega arith), le-leb v 48 k, lt-ltb (64 + v) 192 (omega arith)) refl

pub z_is : (v : ℕ) → 1 ≤ v → v ≤ 48 → IsVariable (z_of v)
z_is v h k =
    let e : (128 + v) % 64 ≡ v =
    ap (λ (n : ℕ). n % 64) (let s : 128 + v ≡ (v + 64) + 64 = omega arith in s)
    ∙ add-mod_right (v + 64) 64 ∙ add-mod_right v 64 ∙ mod-eq_of_lt (omega arith) in
    rw (e, lt-ltb 0 v (omega arith), le-leb v 48 k, lt-ltb (128 + v) 192 (omega arith)) refl

pub x_variable : (v : ℕ) → 1 ≤ v → v ≤ 48 → IsVariable (x_of v)
x_variable v h k = x_is v h k

abbrev pub Named : Assign → Type 0
Named s = IsVariable s.var

abbrev pub Apart : Assign → Assign → Type 0
Apart s u = s.var ≢ u.var

Sides : ℕ → Type 0
Sides base = (v : ℕ) → 1 ≤ v → v ≤ 48 → IsVariable (base + v)

named_in : (base k : ℕ) (ps : List (List Term)) → Sides base → 1 ≤ k → k + length ps ≤ 49
    → All Named (in_place (base + k) ps)
unfolding in_place Sides
named_in base k [] h l u = All-nil Named
named_in base k (p ∷ ps) h l u =
    All-cons Named record { var = base + k; to = p } (in_place (suc (base + k)) ps) (h k l (omega arith))
    (subst (λ (v : ℕ). All Named (in_place v ps)) (let e : base + suc k ≡ suc (base + k) = omega arith in e)
    (named_in base (suc k) ps h (omega arith) (omega arith)))

-- all variables of a list are from low on and below high
Within : ℕ → ℕ → Assign → Type 0
Within low high s = (low ≤ s.var) × (s.var < high)

within_in : (v : ℕ) (ps : List (List Term)) (low high : ℕ) → low ≤ v → v + length ps ≤ high
    → All (Within low high) (in_place v ps)
unfolding in_place Within
within_in v [] low high l u = All-nil (Within low high)
within_in v (p ∷ ps) low high l u =
    All-cons (Within low high) record { var = v; to = p } (in_place (suc v) ps) (l, omega arith)
    (within_in (suc v) ps low high (omega arith) (omega arith))

outside : (s u : Assign) (low high : ℕ) → Within low high u → (s.var < low) ⊎ (high ≤ s.var)
    → s.var ≢ u.var
unfolding Within
outside s u low high b (inl l) e = omega (arith, b.0)
outside s u low high b (inr l) e = omega (arith, b.1)

apart_from : (s : Assign) (low high : ℕ) (us : List Assign) → (s.var < low) ⊎ (high ≤ s.var)
    → All (Within low high) us → All (Apart s) us
apart_from s low high us o h =
    All-weaker (Within low high) (Apart s) (λ u b. outside s u low high b o) us h

apart_in : (v : ℕ) (ps : List (List Term)) → AllPairs Apart (in_place v ps)
unfolding in_place
apart_in v [] = λ i j s l u. absurd (omega arith)
apart_in v (p ∷ ps) =
    AllPairs-cons Apart record { var = v; to = p } (in_place (suc v) ps)
    (apart_from record { var = v; to = p } (suc v) (suc v + length ps) (in_place (suc v) ps)
    (inl (omega arith)) (within_in (suc v) ps (suc v) (suc v + length ps) (omega arith) (omega arith)))
    (apart_in (suc v) ps)

head_apart : (s : Assign) (ss : List Assign) → AllPairs Apart (s ∷ ss) → All (Apart s) ss
head_apart s ss h = λ k d l. h 0 (suc k) d (omega arith) (omega arith)

tail_apart : (s : Assign) (ss : List Assign) → AllPairs Apart (s ∷ ss) → AllPairs Apart ss
tail_apart s ss h = λ i j d l u. h (suc i) (suc j) d (omega arith) (omega arith)

-- the later ones have variables outside the range of the first ones
apart_both : (ss us : List Assign) (low high : ℕ) → AllPairs Apart ss → AllPairs Apart us
    → All (λ s. (s.var < low) ⊎ (high ≤ s.var)) ss → All (Within low high) us
    → AllPairs Apart (ss ++ us)
apart_both [] us low high h k a b = k
apart_both (s ∷ ss) us low high h k a b =
    let P : Assign → Type 0 = λ u. (u.var < low) ⊎ (high ≤ u.var) in
    AllPairs-cons Apart s (ss ++ us)
    (All-append (Apart s) ss us (head_apart s ss h) (apart_from s low high us (All-head P s ss a) b))
    (apart_both ss us low high (tail_apart s ss h) k (All-tail P s ss a) b)

pub named-into : (level : ℕ) (xs ys : List (List Term)) → 1 ≤ level → level + length xs ≤ 49
    → level + length ys ≤ 49 → All Named (into level xs ys)
unfolding Sides
named-into level xs ys l h k =
    All-append Named (in_place (64 + level) ys) (in_place level xs) (named_in 64 level ys y_is l k)
    (subst (λ (v : ℕ). All Named (in_place v xs)) (let e : 0 + level ≡ level = omega arith in e)
    (named_in 0 level xs x_side l h))
  where
    x_side : (v : ℕ) → 1 ≤ v → v ≤ 48 → IsVariable (0 + v)
    x_side v a b = subst IsVariable (let e : v ≡ 0 + v = omega arith in e) (x_is v a b)

pub apart-into : (level : ℕ) (xs ys : List (List Term)) → level + length xs ≤ 49
    → AllPairs Apart (into level xs ys)
unfolding Within
apart-into level xs ys h =
    apart_both (in_place (64 + level) ys) (in_place level xs) 0 64 (apart_in (64 + level) ys)
    (apart_in level xs)
    (All-weaker (Within 64 (64 + level + length ys)) (λ (s : Assign). (s.var < 0) ⊎ (64 ≤ s.var))
    (λ s b. inr (b.0)) (in_place (64 + level) ys)
    (within_in (64 + level) ys 64 (64 + level + length ys) (omega arith) (omega arith)))
    (within_in level xs 0 64 (omega arith) (omega arith))

t_is : IsVariable step_variable
t_is = refl

pub named-to_power : (level : ℕ) (zs : List (List Term)) (s : List Term) → 1 ≤ level
    → level + length zs ≤ 49 → All Named (to_power level zs s)
unfolding Sides
named-to_power level zs s l h =
    All-append Named (in_place (128 + level) zs) (record { var = 200; to = s } ∷ [])
    (named_in 128 level zs z_is l h)
    (All-cons Named record { var = 200; to = s } [] t_is (All-nil Named))

pub apart-to_power : (level : ℕ) (zs : List (List Term)) (s : List Term) → level + length zs ≤ 49
    → AllPairs Apart (to_power level zs s)
unfolding Within
apart-to_power level zs s h =
    apart_both (in_place (128 + level) zs) (record { var = 200; to = s } ∷ []) 200 201
    (apart_in (128 + level) zs) (λ i j d l u. absurd (omega arith))
    (All-weaker (Within 128 200) (λ (u : Assign). (u.var < 200) ⊎ (201 ≤ u.var)) (λ u b. inl (b.1))
    (in_place (128 + level) zs) (within_in (128 + level) zs 128 200 (omega arith) (omega arith)))
    (All-cons (Within 200 201) record { var = 200; to = s } [] (omega arith, omega arith)
    (All-nil (Within 200 201)))
