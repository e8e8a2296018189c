-- What a session sees of the outside, by what is shown before it and after it.
--   asked_of words contents faults longs old new   what is asked for of a shelf
--   fed_of left faults given old new               what a source feeds
-- old new the shelf, or the source
use Rattle.std.specs.Prelude.{ℕ, List, Option}
use Rattle.session_io.specs.Asked.{Asked, Fed, asked, fed}

abbrev pub asked_of : {H : Type 0} → List (List ℕ) → (H → List ℕ → Option (List ℕ))
    → (H → List ℕ → ℕ) → (H → List ℕ → ℕ → ℕ) → H → H → Asked
asked_of words contents faults longs old new =
    asked words (contents old) (faults old) (faults new) (longs old) (longs new)

abbrev pub fed_of : {S : Type 0} → (S → Option (List ℕ)) → (S → ℕ) → (S → ℕ) → S → S → Fed
fed_of left faults given old new =
    fed (left old) (left new) (faults old) (faults new) (given old) (given new)
