-- Remainders of sums and products.
--   rem z            the remainder of z by m
--   Lifts z m        z and a multiple of m are a natural number
--   Parts z          z is its remainder and a multiple of m
use Rattle.std.proofs.Common.{◌≡◌, ℕ, zero, suc, ◌+◌, ◌*◌, ◌/◌, ◌%◌, ◌<◌, ℤ, pos, negsuc, ◌+ℤ◌, ◌*ℤ◌, unsigned_abs, [], ◌∷◌, refl, sym, ◌∙◌, ap, arith}
use Rattle.std.specs.Int.{int_rem_euclid}
use Rattle.std.proofs.lemmas.Int.{ints, int_rem_euclid_is}
use Rattle.std.proofs.lemmas.Nat.{mod_below}
use Rattle.std.proofs.Math.Nat.{mul-suc, suc-mul, add-mul, mod-add-div'}
use Rattle.integer.proofs.Ring.{reads, ring_by}
use Rattle.load_tally.specs.Weights.{modulus, remainder}

record Lifts (z : ℤ) (m : ℕ) : Type 0 where
  times : ℕ
  natural : ℕ
  is : z +ℤ pos (times * m) ≡ pos natural

lifts : (z : ℤ) (m : ℕ) → 0 < m → Lifts z m
lifts (pos a) m h = record { times = 0; natural = a; is = omega (arith, ints) }
lifts (negsuc a) zero h = absurd (omega arith)
lifts (negsuc a) (suc n) h = record {
  times = suc a;
  natural = suc a * n;
  is = omega (arith, ints, mul-suc (suc a) n);
}

module _ (m : ℕ) (positive : 0 < m) where
  above : (z : ℤ) (k : ℕ) → int_rem_euclid (z +ℤ pos (k * m)) (pos m) ≡ int_rem_euclid z (pos m)
  above z k =
      let l = lifts (z +ℤ pos (k * m)) m positive in
      let same : z +ℤ pos ((l.times + k) * m) ≡ pos l.natural =
      omega (arith, ints, l.is, add-mul l.times k m) in
      int_rem_euclid_is (z +ℤ pos (k * m)) (pos m) m l.times l.natural positive refl l.is
      ∙ sym (int_rem_euclid_is z (pos m) m (l.times + k) l.natural positive refl same)

  -- multiples of m don't count
  pub int_rem_euclid-multiple : (z q : ℤ)
      → int_rem_euclid (z +ℤ q *ℤ pos m) (pos m) ≡ int_rem_euclid z (pos m)
  int_rem_euclid-multiple z (pos k) = above z k
  int_rem_euclid-multiple z (negsuc k) =
      let back : z +ℤ negsuc k *ℤ pos m +ℤ pos (suc k * m) ≡ z = omega (arith, ints) in
      sym (above (z +ℤ negsuc k *ℤ pos m) (suc k)) ∙ ap (λ (y : ℤ). int_rem_euclid y (pos m)) back

  pub record Parts (z : ℤ) : Type 0 where
    pub quotient : ℤ
    pub is : z ≡ int_rem_euclid z (pos m) +ℤ quotient *ℤ pos m

  pub parts : (z : ℤ) → Parts z
  parts (pos a) = record { quotient = pos (a / m); is = ap pos (sym (mod-add-div' a m)) }
  parts (negsuc a) = record {
    quotient = negsuc (a / m);
    is = omega (arith, ints, mod-add-div' a m, suc-mul (a / m) m, mod_below a m positive);
  }

some : 0 < modulus
some = omega arith

pub pos-remainder : (z : ℤ) → pos (remainder z) ≡ int_rem_euclid z (pos modulus)
pos-remainder (pos a) = refl
pos-remainder (negsuc a) = refl

pub remainder-multiple : (z q : ℤ) → remainder (z +ℤ q *ℤ pos modulus) ≡ remainder z
remainder-multiple z q = ap unsigned_abs (int_rem_euclid-multiple modulus some z q)

-- a summand may be replaced by its remainder
pub remainder-add : (z w : ℤ) → remainder (pos (remainder z) +ℤ w) ≡ remainder (z +ℤ w)
remainder-add z w =
    let p = parts modulus some z in
    let whole : z +ℤ w ≡ pos (remainder z) +ℤ w +ℤ p.quotient *ℤ pos modulus =
    with_multiple z (pos (remainder z)) w (p.quotient *ℤ pos modulus)
    (p.is ∙ ap (λ (y : ℤ). y +ℤ p.quotient *ℤ pos modulus) (sym (pos-remainder z))) in
    sym (ap remainder whole ∙ remainder-multiple (pos (remainder z) +ℤ w) p.quotient)
  where
    with_multiple : (z r w m : ℤ) → z ≡ r +ℤ m → z +ℤ w ≡ r +ℤ w +ℤ m
    with_multiple z r w m h = omega (arith, ints)

expand : (s r t d q m : ℤ) → s +ℤ (r +ℤ t *ℤ m) *ℤ (d +ℤ q *ℤ m)
    ≡ s +ℤ r *ℤ d +ℤ (r *ℤ q +ℤ t *ℤ (d +ℤ q *ℤ m)) *ℤ m
expand s r t d q m =
    ring_by (s ∷ r ∷ t ∷ d ∷ q ∷ m ∷ []) (search reads depth 40) (search reads depth 40) tt

-- factors may be replaced by their remainders
pub remainder-product : (s p : ℕ) (e : ℤ)
    → (s + p % modulus * remainder e) % modulus ≡ remainder (pos s +ℤ pos p *ℤ e)
remainder-product s p e =
    let parts_e = parts modulus some e in
    let e_is : e ≡ pos (remainder e) +ℤ parts_e.quotient *ℤ pos modulus =
    parts_e.is ∙ ap (λ (y : ℤ). y +ℤ parts_e.quotient *ℤ pos modulus) (sym (pos-remainder e)) in
    let p_is : pos p ≡ pos (p % modulus) +ℤ pos (p / modulus) *ℤ pos modulus =
    ap pos (sym (mod-add-div' p modulus)) in
    let whole =
    ap (λ (y : ℤ). pos s +ℤ y *ℤ e) p_is
    ∙ ap (λ (y : ℤ). pos s +ℤ (pos (p % modulus) +ℤ pos (p / modulus) *ℤ pos modulus) *ℤ y) e_is
    ∙ expand (pos s) (pos (p % modulus)) (pos (p / modulus)) (pos (remainder e)) parts_e.quotient
    (pos modulus) in
    sym (ap remainder whole
    ∙ remainder-multiple (pos s +ℤ pos (p % modulus) *ℤ pos (remainder e))
    (pos (p % modulus) *ℤ parts_e.quotient
    +ℤ pos (p / modulus) *ℤ (pos (remainder e) +ℤ parts_e.quotient *ℤ pos modulus)))
