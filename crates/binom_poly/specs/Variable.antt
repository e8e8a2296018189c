-- The numbers of variables, and the greatest exponent.
--   side                      how far the numbers of x_k, y_k and z_k are apart
--   x_of k  y_of k  z_of k    the variables x_k, y_k and z_k of a generator k
--   generator_of v            the generator of such a variable
--   step_variable             t, the variable of step sums
--   exponent_limit            the greatest exponent of a variable in a monomial
-- k generator, from 1 to 48 · v variable
use Rattle.std.specs.Prelude.{ℕ, ◌+◌, ◌%◌}

abbrev pub side : ℕ
side = 64

abbrev pub x_of : ℕ → ℕ
x_of k = k

abbrev pub y_of : ℕ → ℕ
y_of k = side + k

abbrev pub z_of : ℕ → ℕ
z_of k = 128 + k

abbrev pub generator_of : ℕ → ℕ
generator_of v = v % side

abbrev pub step_variable : ℕ
step_variable = 200

abbrev pub exponent_limit : ℕ
exponent_limit = 1000
