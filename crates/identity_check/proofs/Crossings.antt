-- What a test of the last two parts shows of a monomial.
--   k generator · ms monomial · i h places · d p q parts
use Rattle.std.proofs.Common.{◌≡◌, ◌≢◌, ℕ, ◌-◌, ◌<◌, ◌≤◌, List, length, slice_index_or, sym, subst, arith}
use Rattle.std.specs.Prelude.{◌⊎◌, HoldsAt}
use Rattle.std.proofs.lemmas.List.{get_or_default}
use Rattle.binom_poly.specs.declared.part.Part.{Part}
use Rattle.binom_poly.specs.Variable.{y_of}
use Rattle.identity_check.specs.Crossing.{Crosses}
use Rattle.identity_check.specs.Crossing.Crosses.{own, often, past}

at_any : (P : Part → Type 0) (ms : List Part) (i : ℕ) → i < length ms
    → P (slice_index_or ms i record { var = 0; exp = 0 }) → HoldsAt P ms i
at_any P ms i l h d =
    subst P (sym (get_or_default ms i d record { var = 0; exp = 0 } l)) h

pub own_last : (k : ℕ) (ms : List Part) → length ms ≢ 0
    → ((slice_index_or ms (length ms - 1) record { var = 0; exp = 0 }).var ≡ k)
    ⊎ ((slice_index_or ms (length ms - 1) record { var = 0; exp = 0 }).var ≡ y_of k)
    → Crosses k ms
own_last k ms n h =
    let l : length ms - 1 < length ms = omega (arith, n) in
    own (length ms - 1) l
    (at_any (λ p. (p.var ≡ k) ⊎ (p.var ≡ y_of k)) ms (length ms - 1) l h)

pub often_last : (k : ℕ) (ms : List Part) → length ms ≢ 0
    → y_of 0 ≤ (slice_index_or ms (length ms - 1) record { var = 0; exp = 0 }).var
    → 1 < (slice_index_or ms (length ms - 1) record { var = 0; exp = 0 }).exp → Crosses k ms
often_last k ms n y e =
    let l : length ms - 1 < length ms = omega (arith, n) in
    often (length ms - 1) l
    (at_any (λ p. (y_of 0 ≤ p.var) × (1 < p.exp)) ms (length ms - 1) l (y, e))

pub past_last : (k : ℕ) (ms : List Part) → 1 < length ms
    → y_of 0 ≤ (slice_index_or ms (length ms - 1) record { var = 0; exp = 0 }).var
    → (slice_index_or ms (length ms - 1) record { var = 0; exp = 0 }).var - 64
    < (slice_index_or ms (length ms - 2) record { var = 0; exp = 0 }).var → Crosses k ms
past_last k ms n y e =
    let i = length ms - 1 in
    let h = length ms - 2 in
    let l : i < length ms = omega arith in
    let m : h < length ms = omega arith in
    past i h (omega arith) l
    (λ d.
    at_any (λ p. (y_of 0 ≤ p.var) × (p.var - y_of 0 < (slice_index_or ms h d).var)) ms i l
    (at_any (λ q. (y_of 0 ≤ (slice_index_or ms i record { var = 0; exp = 0 }).var)
    × ((slice_index_or ms i record { var = 0; exp = 0 }).var - y_of 0 < q.var)) ms h m (y, e) d) d)
