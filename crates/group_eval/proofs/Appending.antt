-- A product with a power of a generator, where the left vector is 0 above it: the exponent is added.
--   level level · g generator · e exponent · m place · x vector · f table
use Rattle.std.proofs.Common.{◌≡◌, ℕ, ◌≤◌, ℤ, List, length, sym, ◌∙◌, ap, arith}
use Rattle.std.proofs.lemmas.Int.{ints}
use Rattle.std.proofs.lemmas.List.{length-replicate}
use lib.IntN.{pos}
use Rattle.nil_word.specs.declared.letter.Letter.{Letter}
use Rattle.nil_word.specs.Words.{power, IsVector}
use Rattle.nil_word.specs.Congruence.{Relations}
use Rattle.nil_word.specs.Exponents.{entry}
use Rattle.hall_law.specs.Table.{Operation, zeros, added, single, IsPresentation, IsTable, IsZeroAbove}
use Rattle.hall_law.proofs.Acting.{act, origin, mul, from_origin, power_writes}
use Rattle.hall_law.proofs.Actions.{acts}
use Rattle.hall_law.proofs.Entries.{same_entries}
use Rattle.hall_law.proofs.OrderedWords.{IsWordIn-power}
use Rattle.hall_law.proofs.Premises.{given}
use Rattle.hall_law.proofs.Vectors.{Vec, at_of, same_at, entry-zeros, length-added, IsAt-single, added_writes, part}

pub entry-single : (n g : ℕ) (e : ℤ) (m : ℕ) → 1 ≤ g → g ≤ n → 1 ≤ m
    → entry (single n g e) m ≡ part m g e
entry-single n g e m low high first =
    let w = added_writes (zeros n) g e low (omega (arith, length-replicate n (pos 0))) in
    let written = w.at m first in
    omega (arith, ints, written, entry-zeros n m)

module _ (rels : Relations) (level : ℕ) (f : Operation) (p : IsPresentation rels)
    (t : IsTable rels level f) where
  does : Letter → Vec rels.count level → Vec rels.count level
  does a u = act (given p t) a u

  -- the letters of the power make it from 0, and add it to x
  pub product-single : (g : ℕ) (e : ℤ) (x : List ℤ) → level ≤ g → g ≤ rels.count
      → IsVector rels.count level x → IsZeroAbove g x
      → f x (single rels.count g e) ≡ added x g e
  unfolding does
  product-single g e x low high h zero =
      let n = rels.count in
      let own = given p t in
      let positive : 1 ≤ g = let q = t.least in omega arith in
      let u : Vec n level = (x, at_of n level x h) in
      let one : Vec n level = origin own in
      let y : Vec n level = (single n g e, IsAt-single n level g e positive low) in
      let made = power_writes own e g low high one (λ m k. entry-zeros n m) in
      let is : acts does (power g e) one ≡ y =
      same_at n level (acts does (power g e) one) y
      (λ m a b. let w = made.at m a in
      omega (arith, ints, w, entry-zeros n m, entry-single n g e m positive high a)) in
      let written = power_writes own e g low high u zero in
      let top : g ≤ length x = omega (arith, h.entries) in
      let sum = added_writes x g e positive top in
      ap (λ (v : Vec n level). (mul own u v).0) (sym is)
      ∙ ap (λ (v : Vec n level). v.0)
      (sym (from_origin own (power g e) (IsWordIn-power level n g e low high) u))
      ∙ same_entries n (acts does (power g e) u).0 (added x g e) (acts does (power g e) u).1.size
      (length-added x g e ∙ h.entries)
      (λ m a b. let w = written.at m a in let s = sum.at m a in omega (arith, ints, w, s))
