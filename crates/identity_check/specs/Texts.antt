-- The texts of identities and of failures.
--   identity_text id     its kind, and its generators by their numbers
--   value_text at        a variable and its value
--   more_values point    each of the values with a space before it
--   point_text point     the values with one space between; none where all are 0
--   failure_text f       the identity, the point, and the two numbers
-- id identity · at value of a variable · f failure
use Rattle.std.specs.Prelude.{ℕ, List, [], ◌∷◌, ◌++◌, codes}
use Rattle.std.specs.List.{flat_map}
use Rattle.std.specs.Fmt.{decimal, signed_decimal}
use Rattle.binom_poly.specs.Text.{variable_text}
use Rattle.identity_check.specs.declared.identity.Identity.{Identity}
use Rattle.identity_check.specs.declared.identity.Identity.TheVariants.{UnitRight, UnitLeft, Up, Down, StepUp, StepDown, Relation}
use Rattle.identity_check.specs.declared.failure.At.{At}
use Rattle.identity_check.specs.declared.failure.Failure.{Failure}

abbrev pub identity_text : Identity → List ℕ
identity_text (UnitRight k) = codes "unit-right " ++ decimal k
identity_text (UnitLeft k) = codes "unit-left " ++ decimal k
identity_text (Up j k) = codes "up " ++ decimal j ++ codes " " ++ decimal k
identity_text (Down j k) = codes "down " ++ decimal j ++ codes " " ++ decimal k
identity_text (StepUp j k) = codes "step-up " ++ decimal j ++ codes " " ++ decimal k
identity_text (StepDown j k) = codes "step-down " ++ decimal j ++ codes " " ++ decimal k
identity_text (Relation j l k) =
    codes "relation " ++ decimal j ++ codes " " ++ decimal l ++ codes " " ++ decimal k

abbrev pub value_text : At → List ℕ
value_text at = variable_text at.var ++ codes "=" ++ decimal at.value

abbrev pub more_values : List At → List ℕ
more_values point = flat_map (λ at. codes " " ++ value_text at) point

abbrev pub point_text : List At → List ℕ
point_text [] = codes "none"
point_text (at ∷ rest) = value_text at ++ more_values rest

abbrev pub failure_text : Failure → List ℕ
failure_text f =
    identity_text f.identity ++ codes " at " ++ point_text f.point.items ++ codes " left "
    ++ signed_decimal f.left ++ codes " right " ++ signed_decimal f.right
