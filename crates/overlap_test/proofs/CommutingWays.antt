-- Where the generators of an overlap commute, both ways are the vector with 1 at the two places.
--   p presentation · c a presentation with a table above level i · i < j < k l m generators
--   n last generator
use Rattle.std.proofs.Common.{◌≡◌, ℕ, ◌+◌, ◌^◌, ◌<◌, ◌≤◌, Bool, ℤ, pos, ◌+ℤ◌, List, [], length, refl, sym, ◌∙◌, ap, subst, inr, arith}
use Rattle.std.specs.Prelude.{Ok, cond, unsigned_abs}
use Rattle.std.specs.Cmp.Rules.{signed_items}
use Rattle.std.proofs.lemmas.Bool.{lt-leb}
use Rattle.std.proofs.lemmas.List.{length-replicate}
use Rattle.nil_num.specs.Bound.{overflows}
use Rattle.nil_word.specs.Exponents.{entry}
use Rattle.nil_word.specs.Factors.{Factor, word_of}
use Rattle.nil_pres.specs.Presented.{Presented, IsPresented, right_of}
use Rattle.nil_pres.specs.Relations.{factors_of, between, relations_of}
use Rattle.hall_law.specs.Table.{zeros, added, single, exponents, IsPresentation}
use Rattle.hall_law.proofs.Counting.{length-exponents, entry-exponents}
use Rattle.hall_law.proofs.Entries.{same_entries}
use Rattle.hall_law.proofs.Vectors.{entry-zeros, length-added, added_writes, part, part_other}
use Rattle.binom_poly.specs.Variable.{y_of}
use Rattle.hall_table.specs.declared.wide_at.WideAt.TheVariants.{RowX, RowY, Sum}
use Rattle.hall_table.specs.Multiplies.{Paired, IsChecked}
use Rattle.hall_table.specs.Order.{multiplied, named, row_overflows}
use Rattle.hall_table.specs.Tabled.{Tabled, IsTabled}
use Rattle.hall_table.specs.Values.{values}
use Rattle.hall_table.specs.Width.{width_for}
use Rattle.group_eval.specs.Order.{Outcome, and_then, unless}
use Rattle.group_eval.specs.Right.{AreSmall}
use Rattle.group_eval.proofs.Appended.{appended_is}
use Rattle.group_eval.proofs.Appending.{entry-single}
use Rattle.overlap_test.specs.declared.level_result.LevelResult.TheVariants.{Agree, Differ}
use Rattle.overlap_test.specs.Commuting.{DoCommute}
use Rattle.overlap_test.specs.Verdict.{judged, overlap_of, tried}
use Rattle.overlap_test.specs.Ways.{image, collected_written, first_written, second_written}
use Rattle.overlap_test.proofs.Crossed.{Commutes}
use Rattle.overlap_test.proofs.CrossedSums.{rows-x, multiplied-turned}
use Rattle.overlap_test.proofs.Imaging.{between-pair, small-image}
use Rattle.overlap_test.proofs.Powers.{in_level, entry-turned}
use Rattle.overlap_test.proofs.SmallRows.{row_overflows-bit}

-- ---- images without a right side
between-none : (p : Presented) (j l : ℕ) → 1 ≤ j → j < l → l ≤ length p.names → right_of p j l ≡ []
    → between p j l ≡ []
between-none p j l a b d e = between-pair p j l a b d ∙ ap factors_of e

exponents-none : (n : ℕ) → exponents n [] ≡ zeros n
exponents-none n =
    same_entries n (exponents n []) (zeros n) (length-exponents n []) (length-replicate n (pos 0))
    (λ m a b. entry-exponents n [] m a b ∙ sym (entry-zeros n m))

image-single : (p : Presented) (i l : ℕ) → 1 ≤ i → i < l → l ≤ length p.names → right_of p i l ≡ []
    → image p i l ≡ single (length p.names) l (pos 1)
image-single p i l a b d e =
    ap (λ (ss : List Factor). added (exponents (length p.names) (word_of ss)) l (pos 1))
    (between-none p i l a b d e)
    ∙ ap (λ (v : List ℤ). added v l (pos 1)) (exponents-none (length p.names))

-- ---- an overlap whose generators commute
pub record Given (c : Paired) (i j k : ℕ) : Type 0 where
  pub lawful : IsPresented c.pres
  pub presents : IsPresentation (relations_of c.pres)
  pub tabled : IsTabled c.table
  pub checked : IsChecked c
  pub least : 1 ≤ i
  pub level : c.table.level ≡ i + 1
  pub low : i < j
  pub between : j < k
  pub high : k ≤ length c.pres.names
  pub commute : DoCommute c.pres i j k

module _ (c : Paired) (i j k : ℕ) (g : Given c i j k) where
  abbrev n : ℕ
  n = length c.pres.names

  abbrev t : Tabled
  t = c.table

  abbrev one : ℕ → List ℤ
  one l = single n l (pos 1)

  abbrev way : List ℤ
  way = added (one j) k (pos 1)

  above : t.level ≤ j
  above = let least : 1 ≤ i = g.least in
      let low : i < j = g.low in
      omega (arith, g.level)

  above_k : t.level ≤ k
  above_k = let low = above in let between : j < k = g.between in omega arith

  size : (l : ℕ) → length (one l) ≡ n
  size l = length-added (zeros n) l (pos 1) ∙ length-replicate n (pos 0)

  image_j : image c.pres i j ≡ one j
  image_j =
      let between : j < k = g.between in
      let high : k ≤ n = g.high in
      image-single c.pres i j g.least g.low (omega arith) g.commute.first

  image_k : image c.pres i k ≡ one k
  image_k =
      let low : i < j = g.low in
      let between : j < k = g.between in
      image-single c.pres i k g.least (omega arith) g.high g.commute.second

  no_factors : between c.pres j k ≡ []
  no_factors =
      let least : 1 ≤ i = g.least in
      let low : i < j = g.low in
      between-none c.pres j k (omega arith) g.between g.high g.commute.above

  none_at_k : entry (one j) k ≡ pos 0
  none_at_k =
      let least : 1 ≤ i = g.least in
      let low : i < j = g.low in
      let between : j < k = g.between in
      let high : k ≤ n = g.high in
      entry-single n j (pos 1) k (omega arith) (omega arith) (omega arith)
      ∙ part_other k j (pos 1) (omega arith)

  entry-way : (m : ℕ) → 1 ≤ m → entry way m ≡ part m j (pos 1) +ℤ part m k (pos 1)
  entry-way m first =
      let least : 1 ≤ i = g.least in
      let low : i < j = g.low in
      let between : j < k = g.between in
      let high : k ≤ n = g.high in
      (added_writes (one j) k (pos 1) (omega arith) (omega (arith, size j))).at m first
      ∙ ap (λ z. z +ℤ part m k (pos 1))
      (entry-single n j (pos 1) m (omega arith) (omega arith) first)

  -- ---- the product in order
  in_order : multiplied t (one j) (one k) ≡ Ok way
  in_order =
      let least : 1 ≤ i = g.least in
      let low : i < j = g.low in
      let between : j < k = g.between in
      let high : k ≤ n = g.high in
      let first : 1 ≤ t.level = g.tabled.least in
      let width = width_for t (y_of k) in
      let wide = overflows (unsigned_abs (entry (one j) k) + unsigned_abs (pos 1)) in
      let narrow = lt-leb (2 ^ 127) (unsigned_abs (entry (one j) k) + unsigned_abs (pos 1))
      (omega (arith, ap unsigned_abs none_at_k)) in
      let sum : Outcome = unless wide (Sum k) (Ok way) in
      ap (λ (m : ℕ). multiplied t (one j) (single m k (pos 1))) (sym g.checked.last)
      ∙ appended_is c g.tabled g.presents g.checked (one j) k (pos 1)
      record {
        vector = in_level (relations_of c.pres) t.level (values t) g.presents g.checked.multiplies j
            (pos 1) above;
        small = subst AreSmall image_j
            (small-image c.pres i j g.lawful g.least g.low (omega arith));
      }
      (λ m a. entry-single n j (pos 1) m (omega arith) (omega arith) (omega arith)
      ∙ part_other m j (pos 1) (omega arith))
      record { least = above_k; most = high; number = omega arith }
      ∙ ap (λ r. named RowX r (unless (row_overflows (pos 1) width) (RowY k) sum))
      (rows-x t n j first (omega arith) (omega arith))
      ∙ ap (λ (b : Bool). unless b (RowY k) sum) (row_overflows-bit (pos 1) width (inr refl))
      ∙ ap (λ (b : Bool). unless b (Sum k) (Ok way)) narrow

  -- ---- the product with the later generator on the left
  commutes : Commutes t j k
  commutes = record {
    tabled = g.tabled;
    low = above;
    between = g.between;
    high = omega (arith, g.high, g.checked.last);
    entries = λ s e m first.
        subst (λ (l : ℕ). entry (values t (single l k s) (single l j e)) m
        ≡ part m j e +ℤ part m k s) (sym g.checked.last)
        (entry-turned (relations_of c.pres) t.level (values t) g.presents g.checked.multiplies j k
        above above_k g.between g.high (ap word_of no_factors) s e m first);
  }

  turned_values : values t (one k) (one j) ≡ way
  turned_values =
      let rels = relations_of c.pres in
      let closed = g.checked.multiplies.closed (one k) (one j)
      (in_level rels t.level (values t) g.presents g.checked.multiplies k (pos 1) above_k)
      (in_level rels t.level (values t) g.presents g.checked.multiplies j (pos 1) above) in
      same_entries n (values t (one k) (one j)) way closed.entries
      (length-added (one j) k (pos 1) ∙ size j)
      (λ m a b.
      entry-turned rels t.level (values t) g.presents g.checked.multiplies j k above above_k
      g.between g.high (ap word_of no_factors) (pos 1) (pos 1) m a ∙ sym (entry-way m a))

  turned : multiplied t (one k) (one j) ≡ Ok way
  turned =
      subst (λ (l : ℕ). multiplied t (single l k (pos 1)) (single l j (pos 1))
      ≡ Ok (values t (single l k (pos 1)) (single l j (pos 1)))) g.checked.last
      (multiplied-turned t j k commutes)
      ∙ ap (λ (v : List ℤ). Ok v) turned_values

  -- ---- the two ways
  first_way : first_written c i j k ≡ Ok way
  first_way =
      let rest : List ℤ → Outcome = λ v.
      collected_written t (image c.pres i) (between c.pres j k) v in
      ap (λ (v : List ℤ). and_then (multiplied t v (image c.pres i k)) rest) image_j
      ∙ ap (λ (v : List ℤ). and_then (multiplied t (one j) v) rest) image_k
      ∙ ap (λ (r : Outcome). and_then r rest) in_order
      ∙ ap (λ (ss : List Factor). collected_written t (image c.pres i) ss way) no_factors

  second_way : second_written c i j k ≡ Ok way
  second_way =
      ap (λ (v : List ℤ). multiplied t v (image c.pres i j)) image_k
      ∙ ap (multiplied t (one k)) image_j
      ∙ turned

  pub both_agree : tried c i (j, k) ≡ Agree
  both_agree =
      ap (λ (r : Outcome). judged i j k r (second_written c i j k)) first_way
      ∙ ap (judged i j k (Ok way)) second_way
      ∙ ap (λ (b : Bool). cond b Agree (Differ (overlap_of i j k way way)))
      ((signed_items way way).1 refl)
