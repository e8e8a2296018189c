-- An operation with the values of a multiplication table is one.
--   rels presentation · level · f the table · g the operation · a letter · x y vectors
use Rattle.std.proofs.Common.{◌≡◌, ℕ, ◌≤◌, sym, ap, ◌∙◌, subst, arith}
use lib.IntN.{ℤ, pos}
use Rattle.std.specs.Prelude.{List}
use Rattle.nil_word.specs.declared.letter.Letter.{Letter}
use Rattle.nil_word.specs.Words.{IsVector, IsIn}
use Rattle.nil_word.specs.Congruence.{Relations}
use Rattle.hall_law.specs.Table.{Operation, zeros, single, of_letter, sign, IsTable}
use Rattle.hall_law.proofs.Vectors.{vector_of, IsAt-zeros, IsAt-single}

module _ (rels : Relations) (level : ℕ) (f g : Operation) (table : IsTable rels level f)
    (e : (x y : List ℤ) → IsVector rels.count level x → IsVector rels.count level y
    → g x y ≡ f x y) where
  abbrev n : ℕ
  n = rels.count

  zero_in : IsVector n level (zeros n)
  zero_in =
      let most : level ≤ n = table.most in
      vector_of n level (zeros n) (omega arith) (IsAt-zeros n level)

  single_in : (k : ℕ) (s : ℤ) → level ≤ k → IsVector n level (single n k s)
  single_in k s low =
      let least : 1 ≤ level = table.least in
      let most : level ≤ n = table.most in
      vector_of n level (single n k s) (omega arith) (IsAt-single n level k s (omega arith) low)

  letter_in : (a : Letter) → IsIn level n a → IsVector n level (of_letter n a)
  letter_in a h = single_in a.number (sign a) h.0

  steps : (a : Letter) (x y : List ℤ) → IsIn level n a → IsVector n level x → IsVector n level y
      → g x (g y (of_letter n a)) ≡ g (g x y) (of_letter n a)
  steps a x y h hx hy =
      let l = of_letter n a in
      let hl = letter_in a h in
      ap (g x) (e y l hy hl) ∙ e x (f y l) hx (table.closed y l hy hl)
      ∙ table.multiplies.step a x y h hx hy
      ∙ sym (ap (λ (u : List ℤ). g u l) (e x y hx hy) ∙ e (f x y) l (table.closed x y hx hy) hl)

  pub table_same : IsTable rels level g
  table_same = record {
    least = table.least;
    most = table.most;
    closed = λ x y hx hy. subst (IsVector n level) (sym (e x y hx hy)) (table.closed x y hx hy);
    multiplies = record {
      unit = λ x hx. (
        e x (zeros n) hx zero_in ∙ (table.multiplies.unit x hx).0,
        e (zeros n) x zero_in hx ∙ (table.multiplies.unit x hx).1,
      );
      order = λ a x h hx zero_above.
          e x (of_letter n a) hx (letter_in a h) ∙ table.multiplies.order a x h hx zero_above;
      step = steps;
      relations = λ j l low above most.
          e (single n l (pos 1)) (single n j (pos 1)) (single_in l (pos 1) (omega arith))
          (single_in j (pos 1) low)
          ∙ table.multiplies.relations j l low above most;
    };
  }
