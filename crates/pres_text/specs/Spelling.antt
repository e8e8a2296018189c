-- How a relation line is read: power by power.
--   clipped e         an exponent, or the lowest number in place of one that is out of range
--   syllable_of p, syllables_of ps   a power, and powers, with such exponents
--   power_by ks       the power at the front of tokens, and those behind it
--   powers_seen r     the same with such an exponent
--   star_by ks        the tokens behind a * at the front
--   bracket_by ks     the generators of the bracket at the front, and the tokens behind the =
--   Clipped, spelled_clipped s       a relation line with such exponents
use Rattle.std.specs.Prelude.{ℕ, ◌^◌, ◌-◌, List, ◌∷◌, map, ℤ, negsuc, pos, Option, Some, None, option_map, unwrap_or, if◌then◌else◌}
use Rattle.nil_pres.specs.declared.syllable.Syllable.{Syllable}
use Rattle.line_tokens.specs.declared.kind.Kind.{Kind}
use Rattle.line_tokens.specs.declared.kind.Kind.TheVariants as k
use Rattle.pres_text.specs.Relation.{Power, Spelled}
use Rattle.pres_text.specs.RelationFaults.{is_exponent}

abbrev pub clipped : Option ℤ → ℤ
clipped e = if is_exponent e then unwrap_or e (pos 0) else negsuc (2 ^ 63 - 1)

abbrev pub syllable_of : Power → Syllable
syllable_of p = record { number = p.number; exp = clipped p.exponent }

abbrev pub syllables_of : List Power → List Syllable
syllables_of ps = map syllable_of ps

abbrev pub power_by : List Kind → Option (Power × List Kind)
power_by (k.Name g ∷ k.Caret ∷ k.Integer is_one n ∷ ks) =
    Some (record { number = g; exponent = n }, ks)
power_by (k.Name g ∷ ks) = Some (record { number = g; exponent = Some (pos 1) }, ks)
power_by _ = None

abbrev pub powers_seen : Option (Power × List Kind) → Option (Syllable × List Kind)
powers_seen found = option_map (λ r. (syllable_of r.0, r.1)) found

abbrev pub star_by : List Kind → Option (List Kind)
star_by (k.Star ∷ ks) = Some ks
star_by _ = None

abbrev pub bracket_by : List Kind → Option (ℕ × ℕ × List Kind)
bracket_by (k.SquareOpen ∷ k.Name j ∷ k.Comma ∷ k.Name i ∷ k.SquareClose ∷ k.Equal ∷ ks) =
    Some (j, i, ks)
bracket_by _ = None

pub record Clipped : Type 0 where
  pub above : ℕ
  pub below : ℕ
  pub right : List Syllable

abbrev pub spelled_clipped : Spelled → Clipped
spelled_clipped s = record { above = s.above; below = s.below; right = syllables_of s.right }
