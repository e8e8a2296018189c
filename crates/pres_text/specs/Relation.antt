-- A relation line as it is spelled, by the kinds of its tokens.
--   Power                 a name, and the exponent behind it, 1 where none is written
--   Spelled               the generators of the bracket, and the powers of the right side
--   IsPower ks rest p     the tokens are one power, before others
--   ArePowers ks ps       they are one power or more, joined by *
--   IsRightSide ks ps     they are powers, or 1
--   IsSpelled ks s        the grammar: the tokens spell s
--   before g n ps         one more power before others
--   powers_by ks, right_by ks   the powers, and the right side, that tokens spell, or None
--   spelled_by ks         what the tokens spell, None where they have not the form of a relation
--   relation_word names   the meaning of a word: whatever it is, it is a name
--   spelling_of names l   what a line spells
-- A name has the number of its generator, or 0 where no generator has it. An exponent is None where
-- its magnitude overflows.
use Rattle.std.specs.Prelude.{ℕ, Bool, true, ℤ, pos, List, [], ◌∷◌, Option, Some, None, option_map}
use Rattle.line_tokens.specs.declared.kind.Kind.{Kind}
use Rattle.line_tokens.specs.declared.kind.Kind.TheVariants as k
use Rattle.line_tokens.specs.Tokens.{generator_of, kinds}

pub record Power : Type 0 where
  pub number : ℕ
  pub exponent : Option ℤ

pub record Spelled : Type 0 where
  pub above : ℕ
  pub below : ℕ
  pub right : List Power

pub data IsPower : List Kind → List Kind → Power → Type 0 where
  plain : (g : ℕ) (rest : List Kind) → IsPower (k.Name g ∷ rest) rest
      (record { number = g; exponent = Some (pos 1) })
  raised : (g : ℕ) (is_one : Bool) (n : Option ℤ) (rest : List Kind)
      → IsPower (k.Name g ∷ k.Caret ∷ k.Integer is_one n ∷ rest) rest
      (record { number = g; exponent = n })

pub data ArePowers : List Kind → List Power → Type 0 where
  last : (ks : List Kind) (p : Power) → IsPower ks [] p → ArePowers ks (p ∷ [])
  times : (ks more : List Kind) (p : Power) (ps : List Power) → IsPower ks (k.Star ∷ more) p
      → ArePowers more ps → ArePowers ks (p ∷ ps)

pub data IsRightSide : List Kind → List Power → Type 0 where
  empty : (n : Option ℤ) → IsRightSide (k.Integer true n ∷ []) []
  powers : (ks : List Kind) (ps : List Power) → ArePowers ks ps → IsRightSide ks ps

pub data IsSpelled : List Kind → Spelled → Type 0 where
  relation : (j i : ℕ) (ks : List Kind) (ps : List Power) → IsRightSide ks ps
      → IsSpelled (k.SquareOpen ∷ k.Name j ∷ k.Comma ∷ k.Name i ∷ k.SquareClose ∷ k.Equal ∷ ks)
      (record { above = j; below = i; right = ps })

abbrev pub before : ℕ → Option ℤ → Option (List Power) → Option (List Power)
before g n ps = option_map (λ rest. record { number = g; exponent = n } ∷ rest) ps

abbrev pub powers_by : List Kind → Option (List Power)
powers_by (k.Name g ∷ []) = before g (Some (pos 1)) (Some [])
powers_by (k.Name g ∷ k.Star ∷ ks) = before g (Some (pos 1)) (powers_by ks)
powers_by (k.Name g ∷ k.Caret ∷ k.Integer is_one n ∷ []) = before g n (Some [])
powers_by (k.Name g ∷ k.Caret ∷ k.Integer is_one n ∷ k.Star ∷ ks) = before g n (powers_by ks)
powers_by _ = None

abbrev pub right_by : List Kind → Option (List Power)
right_by (k.Integer true n ∷ []) = Some []
right_by ks = powers_by ks

abbrev pub spelled_by : List Kind → Option Spelled
spelled_by (k.SquareOpen ∷ k.Name j ∷ k.Comma ∷ k.Name i ∷ k.SquareClose ∷ k.Equal ∷ ks) =
    option_map (λ ps. record { above = j; below = i; right = ps }) (right_by ks)
spelled_by _ = None

abbrev pub relation_word : List (List ℕ) → List ℕ → Kind
relation_word names w = k.Name (generator_of names w)

abbrev pub spelling_of : List (List ℕ) → List ℕ → Option Spelled
spelling_of names line = spelled_by (kinds (relation_word names) line)
