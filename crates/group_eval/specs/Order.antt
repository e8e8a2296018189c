-- The written order in which an element is evaluated: its vector, or the first place that overflows
-- 128 bits.
--   Outcome                    a vector, or a place
--   and_then r f               f of what r gives, or the place that r names
--   unless wide at r           the refusal at a place that overflows, and r where it doesn't
--   is_wide e                  the magnitude of e overflows
--   difference_overflows v z p    the sum of p at the values v overflows, or z less p there
--   difference t a b x k       b_k - f_k(a, x)
--   left_overflow t a          the first generator whose row of x overflows at the entries of a
--   solved_from t a b x k d    x with its d entries from k on, each what those before leave of b
--   solved t a b               the x with f(a, x) = b
--   inverted t a               a^-1
--   divided t a b              a b^-1
--   squared_and t a e h        h h, and once more a where e is odd
--   powered_in d t a e         a^e by halves, where d is at least e
--   base_of t a e              what is multiplied in a^e: a, or its inverse where e is negative
--   powered t a e              a^e
--   commuted t u v             [u,v]
--   conjugated t u v           u^v
--   paired t p a b             what the pairing p makes of a and b
--   both t p r s               the same of two outcomes, the left one first
-- t table · a b h u v x vectors · k generator · e exponent · r s outcomes · p pairing,
-- or polynomial · v values of variables · z an integer
use Rattle.std.specs.Prelude.{ℕ, zero, suc, ◌/◌, ◌%◌, ◌==◌, Bool, ◌||◌, ℤ, pos, negsuc, ◌-ℤ◌, unsigned_abs, List, Option, Result, Ok, Err, if◌then◌else◌}
use Rattle.nil_num.specs.Bound.{overflows}
use Rattle.nil_num.specs.First.{first_from}
use Rattle.nil_word.specs.Exponents.{entry}
use Rattle.hall_law.specs.Table.{zeros}
use Rattle.hall_law.specs.Plan.{put}
use Rattle.binom_poly.specs.declared.term.Term.{Term}
use Rattle.binom_poly.specs.Polynomial.{value_of}
use Rattle.hall_table.specs.declared.wide_at.WideAt.{WideAt}
use Rattle.hall_table.specs.declared.wide_at.WideAt.TheVariants.{RowX, RowY, Sum}
use Rattle.binom_poly.specs.Variable.{y_of}
use Rattle.hall_table.specs.Tabled.{Tabled, last_of, poly_at}
use Rattle.hall_table.specs.Values.{point_of}
use Rattle.hall_table.specs.Width.{width_for}
use Rattle.hall_table.specs.Order.{generators, multiplied, named, row_overflows, sum_overflows, sum_at_overflows, x_overflows}
use Rattle.group_eval.specs.declared.pairing.Pairing.{Pairing}
use Rattle.group_eval.specs.declared.pairing.Pairing.TheVariants.{Solution, Quotient, Conjugate, Commutator}

abbrev pub Outcome : Type 0
Outcome = Result (List ℤ) WideAt

abbrev pub and_then : Outcome → (List ℤ → Outcome) → Outcome
and_then (Ok a) f = f a
and_then (Err at) f = Err at

abbrev pub unless : Bool → WideAt → Outcome → Outcome
unless wide at r = if wide then Err at else r

abbrev pub is_wide : ℤ → Bool
is_wide e = overflows (unsigned_abs e)

abbrev pub difference_overflows : (ℕ → ℤ) → ℤ → List Term → Bool
difference_overflows v z p = sum_overflows v p || is_wide (z -ℤ value_of v p)

abbrev pub difference : Tabled → List ℤ → List ℤ → List ℤ → ℕ → ℤ
difference t a b x k = entry b k -ℤ value_of (point_of a x) (poly_at t k)

abbrev pub left_overflow : Tabled → List ℤ → Option ℕ
left_overflow t a = first_from t.level (generators t) (x_overflows t a)

-- the sum, the difference and the row of y_k, in this order
abbrev pub solved_from : Tabled → List ℤ → List ℤ → List ℤ → ℕ → ℕ → Outcome
solved_from t a b x k zero = Ok x
solved_from t a b x k (suc d) =
    let e = difference t a b x k in
    unless (sum_at_overflows t a x k) (Sum k)
    (unless (is_wide e) (Sum k)
    (unless (row_overflows e (width_for t (y_of k))) (RowY k)
    (solved_from t a b (put x k e) (suc k) d)))

abbrev pub solved : Tabled → List ℤ → List ℤ → Outcome
solved t a b =
    named RowX (left_overflow t a) (solved_from t a b (zeros (last_of t)) t.level (generators t))

abbrev pub inverted : Tabled → List ℤ → Outcome
inverted t a = solved t a (zeros (last_of t))

abbrev pub divided : Tabled → List ℤ → List ℤ → Outcome
divided t a b = and_then (inverted t b) (λ c. multiplied t a c)

abbrev pub squared_and : Tabled → List ℤ → ℕ → List ℤ → Outcome
squared_and t a e h =
    and_then (multiplied t h h) (λ s. if e % 2 == 1 then multiplied t s a else Ok s)

abbrev pub powered_in : ℕ → Tabled → List ℤ → ℕ → Outcome
powered_in zero t a e = Ok (zeros (last_of t))
powered_in (suc d) t a e =
    if e == 0 then Ok (zeros (last_of t))
    else (if e == 1 then Ok a
    else and_then (powered_in d t a (e / 2)) (squared_and t a e))

abbrev pub base_of : Tabled → List ℤ → ℤ → Outcome
base_of t a (pos e) = Ok a
base_of t a (negsuc e) = inverted t a

abbrev pub powered : Tabled → List ℤ → ℤ → Outcome
powered t a e =
    and_then (base_of t a e) (λ b. powered_in (unsigned_abs e) t b (unsigned_abs e))

abbrev pub commuted : Tabled → List ℤ → List ℤ → Outcome
commuted t u v = and_then (multiplied t v u) (λ a. and_then (multiplied t u v) (solved t a))

abbrev pub conjugated : Tabled → List ℤ → List ℤ → Outcome
conjugated t u v = and_then (multiplied t u v) (solved t v)

abbrev pub paired : Tabled → Pairing → List ℤ → List ℤ → Outcome
paired t Solution a b = solved t a b
paired t Quotient a b = divided t a b
paired t Conjugate a b = conjugated t a b
paired t Commutator a b = commuted t a b

abbrev pub both : Tabled → Pairing → Outcome → Outcome → Outcome
both t p r s = and_then r (λ a. and_then s (λ b. paired t p a b))
