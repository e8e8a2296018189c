-- What tokens spell by the grammar is what is read from them.
use Rattle.std.proofs.Common.{◌≡◌, ℕ, true, ℤ, pos, List, [], ◌∷◌, Option, Some, None, option_map, refl, ◌∙◌, ap, subst}
use Rattle.line_tokens.specs.declared.kind.Kind.{Kind}
use Rattle.line_tokens.specs.declared.kind.Kind.TheVariants.{Name, Integer, Star, Caret, SquareOpen, SquareClose, Comma, Equal}
use Rattle.pres_text.specs.Relation.{Power, Spelled, plain, raised, ArePowers, last, times, IsRightSide, empty, powers, IsSpelled, relation, before, powers_by, right_by, spelled_by}

abbrev power : ℕ → Option ℤ → Power
power g n = record { number = g; exponent = n }

before-Some : (g : ℕ) (n : Option ℤ) (o : Option (List Power)) (ps : List Power) → before g n o ≡ Some ps → (rest : List Power) × (o ≡ Some rest) × (power g n ∷ rest ≡ ps)
before-Some g n None ps h = cc
before-Some g n (Some rest) ps h = (rest, refl, cc)

powers_by-sound : (ks : List Kind) (ps : List Power) → powers_by ks ≡ Some ps → ArePowers ks ps
powers_by-sound (Name g ∷ []) ps h =
    let b = before-Some g (Some (pos 1)) (Some []) ps h in
    let e : power g (Some (pos 1)) ∷ [] ≡ ps = cc in
    subst (ArePowers (Name g ∷ [])) e (last (Name g ∷ []) (power g (Some (pos 1))) (plain g []))
powers_by-sound (Name g ∷ Star ∷ ks) ps h =
    let b = before-Some g (Some (pos 1)) (powers_by ks) ps h in
    subst (ArePowers (Name g ∷ Star ∷ ks)) b.2 (times (Name g ∷ Star ∷ ks) ks (power g (Some (pos 1))) b.0 (plain g (Star ∷ ks)) (powers_by-sound ks b.0 b.1))
powers_by-sound (Name g ∷ Caret ∷ Integer is_one n ∷ []) ps h =
    let e : power g n ∷ [] ≡ ps = cc in
    subst (ArePowers (Name g ∷ Caret ∷ Integer is_one n ∷ [])) e (last (Name g ∷ Caret ∷ Integer is_one n ∷ []) (power g n) (raised g is_one n []))
powers_by-sound (Name g ∷ Caret ∷ Integer is_one n ∷ Star ∷ ks) ps h =
    let b = before-Some g n (powers_by ks) ps h in
    subst (ArePowers (Name g ∷ Caret ∷ Integer is_one n ∷ Star ∷ ks)) b.2
    (times (Name g ∷ Caret ∷ Integer is_one n ∷ Star ∷ ks) ks (power g n) b.0 (raised g is_one n (Star ∷ ks)) (powers_by-sound ks b.0 b.1))
powers_by-sound _ ps h = cc

right_by-sound : (ks : List Kind) (ps : List Power) → right_by ks ≡ Some ps → IsRightSide ks ps
right_by-sound (Integer true n ∷ []) ps h = let e : [] ≡ ps = cc in subst (IsRightSide (Integer true n ∷ [])) e (empty n)
right_by-sound ks ps h = powers ks ps (powers_by-sound ks ps h)

spelled_of : (j i : ℕ) (ks : List Kind) (o : Option (List Power)) (s : Spelled) → right_by ks ≡ o → option_map (λ ps. record { above = j; below = i; right = ps }) o ≡ Some s
    → IsSpelled (SquareOpen ∷ Name j ∷ Comma ∷ Name i ∷ SquareClose ∷ Equal ∷ ks) s
spelled_of j i ks None s e h = cc
spelled_of j i ks (Some ps) s e h =
    let same : record { above = j; below = i; right = ps } ≡ s = cc in
    subst (IsSpelled (SquareOpen ∷ Name j ∷ Comma ∷ Name i ∷ SquareClose ∷ Equal ∷ ks)) same (relation j i ks ps (right_by-sound ks ps e))

pub spelled_by-sound : (ks : List Kind) (s : Spelled) → spelled_by ks ≡ Some s → IsSpelled ks s
spelled_by-sound (SquareOpen ∷ Name j ∷ Comma ∷ Name i ∷ SquareClose ∷ Equal ∷ ks) s h = spelled_of j i ks (right_by ks) s refl h
spelled_by-sound _ s h = cc

powers_by-complete : (ks : List Kind) (ps : List Power) → ArePowers ks ps → (right_by ks ≡ powers_by ks) × (powers_by ks ≡ Some ps)
powers_by-complete _ _ (last _ _ (plain g _)) = (refl, refl)
powers_by-complete _ _ (last _ _ (raised g one n _)) = (refl, refl)
powers_by-complete _ _ (times _ more _ ps (plain g _) ds) = (refl, ap (before g (Some (pos 1))) (powers_by-complete more ps ds).1)
powers_by-complete _ _ (times _ more _ ps (raised g one n _) ds) = (refl, ap (before g n) (powers_by-complete more ps ds).1)

right_by-complete : (ks : List Kind) (ps : List Power) → IsRightSide ks ps → right_by ks ≡ Some ps
right_by-complete _ _ (empty n) = refl
right_by-complete _ _ (powers ks ps d) = let own = powers_by-complete ks ps d in own.0 ∙ own.1

pub spelled_by-complete : (ks : List Kind) (s : Spelled) → IsSpelled ks s → spelled_by ks ≡ Some s
spelled_by-complete _ _ (relation j i ks ps d) = ap (option_map (λ qs. record { above = j; below = i; right = qs })) (right_by-complete ks ps d)
