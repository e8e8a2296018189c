-- The powers of a right side from their front.
use Rattle.std.proofs.Common.{◌≡◌, ℕ, ℤ, pos, List, [], ◌∷◌, ◌++◌, Option, Some, None, option_map, refl, sym, ◌∙◌, ap, append_assoc}
use Rattle.line_tokens.specs.declared.kind.Kind.{Kind}
use Rattle.line_tokens.specs.declared.kind.Kind.TheVariants.{Name, Integer, Star, Caret, SquareOpen, SquareClose, Comma, Equal}
use Rattle.nil_pres.specs.declared.syllable.Syllable.{Syllable}
use Rattle.pres_text.specs.Relation.{Power, before, powers_by, right_by, spelled_by}
use Rattle.pres_text.specs.Spelling.{syllable_of, syllables_of, power_by, powers_seen, star_by, bracket_by, Clipped, spelled_clipped}

-- the syllables of one power, and of what stands behind it
abbrev behind : Option (Syllable × List Kind) → Option (List Syllable)
behind (Some (s, [])) = Some (s ∷ [])
behind (Some (s, Star ∷ ks)) = option_map (λ rest. s ∷ rest) (option_map syllables_of (powers_by ks))
behind _ = None

syllables_of-before : (g : ℕ) (n : Option ℤ) (ps : Option (List Power))
    → option_map syllables_of (before g n ps) ≡ option_map (λ rest. syllable_of (record { number = g; exponent = n }) ∷ rest) (option_map syllables_of ps)
syllables_of-before g n None = refl
syllables_of-before g n (Some ps) = refl

-- what tokens spell, from the power at their front
powers_by-front : (ks : List Kind) → option_map syllables_of (powers_by ks) ≡ behind (powers_seen (power_by ks))
powers_by-front (Name g ∷ []) = refl
powers_by-front (Name g ∷ Star ∷ ks) = syllables_of-before g (Some (pos 1)) (powers_by ks)
powers_by-front (Name g ∷ Caret ∷ Integer is_one n ∷ []) = refl
powers_by-front (Name g ∷ Caret ∷ Integer is_one n ∷ Star ∷ ks) = syllables_of-before g n (powers_by ks)
powers_by-front _ = refl

-- syllables before others
abbrev pub ahead : List Syllable → Option (List Syllable) → Option (List Syllable)
ahead done rest = option_map (λ ss. done ++ ss) rest

ahead-cons : (done : List Syllable) (s : Syllable) (rest : Option (List Syllable)) → ahead done (option_map (λ ss. s ∷ ss) rest) ≡ ahead (done ++ s ∷ []) rest
ahead-cons done s None = refl
ahead-cons done s (Some ss) = ap Some (sym (append_assoc done (s ∷ []) ss))

star_by-some : (ks more : List Kind) → star_by ks ≡ Some more → ks ≡ Star ∷ more
star_by-some (Star ∷ ks) more h = cc
star_by-some _ more h = cc

-- one power more in the loop

pub one_more : (done : List Syllable) (s : Syllable) (ks next more : List Kind) → powers_seen (power_by ks) ≡ Some (s, next) → star_by next ≡ Some more
    → ahead done (option_map syllables_of (powers_by ks)) ≡ ahead (done ++ s ∷ []) (option_map syllables_of (powers_by more))
one_more done s ks next more h star =
    ap (ahead done) (powers_by-front ks ∙ ap behind h ∙ ap (λ (n : List Kind). behind (Some (s, n))) (star_by-some next more star))
    ∙ ahead-cons done s (option_map syllables_of (powers_by more))

right-clipped : (j i : ℕ) (ps : Option (List Power))
    → option_map spelled_clipped (option_map (λ qs. record { above = j; below = i; right = qs }) ps) ≡ option_map (λ ss. record { above = j; below = i; right = ss }) (option_map syllables_of ps)
right-clipped j i None = refl
right-clipped j i (Some ps) = refl

-- what a relation spells, from its bracket
abbrev framed : Option (ℕ × ℕ × List Kind) → Option Clipped
framed None = None
framed (Some (j, i, ks)) = option_map (λ ss. record { above = j; below = i; right = ss }) (option_map syllables_of (right_by ks))

spelled_by-bracket_by : (ks : List Kind) → option_map spelled_clipped (spelled_by ks) ≡ framed (bracket_by ks)
spelled_by-bracket_by (SquareOpen ∷ Name j ∷ Comma ∷ Name i ∷ SquareClose ∷ Equal ∷ ks) = right-clipped j i (right_by ks)
spelled_by-bracket_by _ = refl

pub spelled_by-found : (ks r : List Kind) (j i : ℕ) (right : Option (List Syllable)) → Some (j, i, r) ≡ bracket_by ks → right ≡ option_map syllables_of (right_by r)
    → option_map (λ ss. record { above = j; below = i; right = ss }) right ≡ option_map spelled_clipped (spelled_by ks)
spelled_by-found ks r j i right e f =
    ap (option_map (λ ss. record { above = j; below = i; right = ss })) f ∙ ap framed e ∙ sym (spelled_by-bracket_by ks)
