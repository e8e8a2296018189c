-- Images are unique where the overlaps agree: each is what phi makes of the one before it.
--   rels presentation · i level · f table above it · Q powers · A B images · j generator
--   s an integer
use Rattle.std.proofs.Common.{◌≡◌, ℕ, zero, suc, ◌≤◌, ◌<◌, ℤ, pos, negsuc, ◌+ℤ◌, sym, ap, ◌∙◌, arith}
use Rattle.std.proofs.lemmas.Int.{ints}
use Rattle.nil_word.specs.Congruence.{Relations}
use Rattle.nil_word.specs.Factors.{Factoring}
use Rattle.hall_law.specs.Table.{Operation}
use Rattle.hall_law.specs.Plan.{Powers, Images, AreImages, phi}
use Rattle.hall_law.specs.Agreement.{PhiTakesOnce}
use Rattle.hall_law.specs.Uniqueness.{TakesOnce}

-- phi takes each of the images to the next
abbrev DoMove : Relations → ℕ → Operation → Powers → Images → Type 0
DoMove rels i f Q A =
    (j : ℕ) (s : ℤ) → i < j → j ≤ rels.count → A j (s +ℤ pos 1) ≡ phi rels i f Q (A j s)

module _ (rels : Relations) (factors : Factoring) (i : ℕ) (f : Operation) (Q : Powers)
    (once : PhiTakesOnce rels factors i f Q) (A B : Images)
    (a : AreImages rels factors i f Q A) (b : AreImages rels factors i f Q B)
    (moves_a : DoMove rels i f Q A) (moves_b : DoMove rels i f Q B) where
  up : (j n : ℕ) → i < j → j ≤ rels.count → A j (pos n) ≡ B j (pos n)
  up j zero low high = a.start j low high ∙ sym (b.start j low high)
  up j (suc n) low high =
      let e : pos n +ℤ pos 1 ≡ pos (suc n) = omega (arith, ints) in
      ap (A j) (sym e) ∙ moves_a j (pos n) low high
      ∙ ap (phi rels i f Q) (up j n low high)
      ∙ sym (ap (B j) (sym e) ∙ moves_b j (pos n) low high)

  -- from the next one, which phi takes from one vector alone
  back : (j : ℕ) (s next : ℤ) → i < j → j ≤ rels.count → s +ℤ pos 1 ≡ next → A j next ≡ B j next
      → A j s ≡ B j s
  back j s next low high e h =
      let only : TakesOnce rels.count (suc i) (phi rels i f Q) (A j next) =
      once (A j next) (a.within j next low high) in
      only.only (A j s) (a.within j s low high) (sym (moves_a j s low high) ∙ ap (A j) e)
      ∙ sym (only.only (B j s) (b.within j s low high)
      (sym (moves_b j s low high) ∙ ap (B j) e ∙ sym h))

  down : (j n : ℕ) → i < j → j ≤ rels.count → A j (negsuc n) ≡ B j (negsuc n)
  down j zero low high =
      back j (negsuc 0) (pos 0) low high
      (let e : negsuc 0 +ℤ pos 1 ≡ pos 0 = omega (arith, ints) in e) (up j 0 low high)
  down j (suc n) low high =
      back j (negsuc (suc n)) (negsuc n) low high
      (let e : negsuc (suc n) +ℤ pos 1 ≡ negsuc n = omega (arith, ints) in e) (down j n low high)

  pub images_agree : (j : ℕ) (s : ℤ) → i < j → j ≤ rels.count → A j s ≡ B j s
  images_agree j (pos n) low high = up j n low high
  images_agree j (negsuc n) low high = down j n low high
