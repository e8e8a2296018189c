-- A generator and its inverse: the first where `up` is true.
--   number_of up       1, and -1 for the inverse
--   last_id up j k     the identity of the generator j, or of its inverse, that comes last
--   step_id up j k     the identity of the one that is multiplied on
-- j k generators
use Rattle.std.specs.Prelude.{ℕ, Bool, true, false, ℤ, pos, negsuc}
use Rattle.identity_check.specs.declared.identity.Identity.{Identity}
use Rattle.identity_check.specs.declared.identity.Identity.TheVariants.{Up, Down, StepUp, StepDown}

abbrev pub number_of : Bool → ℤ
number_of true = pos 1
number_of false = negsuc 0

abbrev pub last_id : Bool → ℕ → ℕ → Identity
last_id true j k = Up j k
last_id false j k = Down j k

abbrev pub step_id : Bool → ℕ → ℕ → Identity
step_id true j k = StepUp j k
step_id false j k = StepDown j k
