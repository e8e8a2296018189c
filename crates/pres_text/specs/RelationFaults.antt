-- The first fault of a relation line, by the rules in their order. A fault is None where there is
-- none.
--   broken test kind later       the kind where the test holds, and else what the later rules say
--   is_exponent e, is_zero e     the magnitude is at most 2 ^ 63 - 1; it is 0
--   right_fault last ps          of powers behind a generator
--   has_unknown s                some name of a relation is no generator
--   is_given given j i           a relation of the pair was given
--   relation_fault given s       of a relation behind those that were given before
--   spelled_fault given o        of what a line spells, if it spells a relation
--   line_fault names given text  of a line
--   with_given o given           with what a line spells
use Rattle.std.specs.Prelude.{ℕ, ◌-◌, ◌^◌, ◌==◌, ◌&&◌, ◌||◌, not, nat_le, Bool, false, ℤ, unsigned_abs, List, [], ◌∷◌, Option, Some, None, if◌then◌else◌}
use Rattle.std.specs.List.{list_any}
use Rattle.pres_text.specs.declared.file_kind.FileKind.{FileKind}
use Rattle.pres_text.specs.declared.file_kind.FileKind.TheVariants as kind
use Rattle.pres_text.specs.Lines.{is_text}
use Rattle.pres_text.specs.Relation.{Power, Spelled, spelling_of}

abbrev pub broken : Bool → FileKind → Option FileKind → Option FileKind
broken test kind later = if test then Some kind else later

abbrev pub is_exponent : Option ℤ → Bool
is_exponent None = false
is_exponent (Some n) = nat_le (unsigned_abs n) (2 ^ 63 - 1)

abbrev pub is_zero : Option ℤ → Bool
is_zero None = false
is_zero (Some n) = unsigned_abs n == 0

abbrev pub right_fault : ℕ → List Power → Option FileKind
right_fault last [] = None
right_fault last (p ∷ ps) =
    broken (nat_le p.number last) kind.Above
    (broken (not (is_exponent p.exponent)) kind.Number
    (broken (is_zero p.exponent) kind.Zero
    (right_fault p.number ps)))

abbrev pub has_unknown : Spelled → Bool
has_unknown s = (s.above == 0) || (s.below == 0) || list_any (λ p. p.number == 0) s.right

abbrev pub is_given : List Spelled → ℕ → ℕ → Bool
is_given given j i = list_any (λ s. (s.above == j) && (s.below == i)) given

abbrev pub relation_fault : List Spelled → Spelled → Option FileKind
relation_fault given s =
    broken (has_unknown s) kind.Name
    (broken (nat_le s.above s.below) kind.Order
    (broken (is_given given s.above s.below) kind.Twice
    (right_fault s.above s.right)))

abbrev pub spelled_fault : List Spelled → Option Spelled → Option FileKind
spelled_fault given None = Some kind.Relation
spelled_fault given (Some s) = relation_fault given s

abbrev pub line_fault : List (List ℕ) → List Spelled → List ℕ → Option FileKind
line_fault names given text =
    broken (not (is_text text)) kind.NotText (spelled_fault given (spelling_of names text))

abbrev pub with_given : Option Spelled → List Spelled → List Spelled
with_given None given = given
with_given (Some s) given = s ∷ given
