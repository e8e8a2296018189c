-- Vectors of polynomials, read at a point.
--   read t a ps          the vector of their values at a, and 0 below the level
--   is_z t v             v is z_k of a generator of the table
--   at_power t b z s     the point b with the entries of z as the z_k, and s as t
--   at_time b s          the point b with s as t
--   powers_at t b Q      what takes z and s to the values of Q there
--   images_at t b As     what takes j and s to the values of A_j there, the A_j ascending
-- t table · a b points · v variable · ps Q polynomials for its generators · z vector · s integer
-- As images
use Rattle.std.specs.Prelude.{ℕ, ◌-◌, ◌==◌, nat_le, Bool, ◌&&◌, ℤ, pos, List, [], map, cond, slice_index_or, if◌then◌else◌}
use Rattle.std.proofs.Common.{ltb}
use Rattle.nil_word.specs.Exponents.{entry, numbers}
use Rattle.binom_poly.specs.declared.term.Term.{Term}
use Rattle.binom_poly.specs.Polynomial.{value_of}
use Rattle.binom_poly.specs.Variable.{z_of, step_variable}
use Rattle.hall_law.specs.Plan.{Powers, Images}
use Rattle.hall_table.specs.Tabled.{Tabled, poly_in, last_of}

abbrev pub read : Tabled → (ℕ → ℤ) → List (List Term) → List ℤ
read t a ps =
    map (λ k. cond (ltb k t.level) (pos 0) (value_of a (poly_in t.level ps k)))
    (numbers 1 (last_of t))

abbrev pub is_z : Tabled → ℕ → Bool
is_z t v = nat_le (z_of t.level) v && nat_le v (z_of (last_of t))

abbrev pub at_power : Tabled → (ℕ → ℤ) → List ℤ → ℤ → ℕ → ℤ
at_power t b z s v =
    if v == step_variable then s else (if is_z t v then entry z (v - z_of 0) else b v)

abbrev pub at_time : (ℕ → ℤ) → ℤ → ℕ → ℤ
at_time b s v = if v == step_variable then s else b v

abbrev pub powers_at : Tabled → (ℕ → ℤ) → List (List Term) → Powers
powers_at t b Q z s = read t (at_power t b z s) Q

abbrev pub images_at : Tabled → (ℕ → ℤ) → List (List (List Term)) → Images
images_at t b As j s = read t (at_time b s) (slice_index_or As (j - t.level) [])
