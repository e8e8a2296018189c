-- The split of the tails so far
use Rattle.std.proofs.Common.{◌≡◌, ℕ, zero, suc, ◌-◌, ◌+◌, ◌*◌, ◌<◌, ◌≤◌, List, [], ◌∷◌, ◌++◌, length, get_or, take, refl, sym, ap, ◌∙◌, subst, arith}
use Rattle.std.specs.Prelude.{unsigned_abs, All}
use Rattle.std.proofs.lemmas.Grind.{common_steps}
use lib.IntN.{ℤ, pos, ◌+ℤ◌, ◌*ℤ◌, +ℤ_idl}
use Rattle.integer.specs.Binomial.{choose}
use Rattle.integer.proofs.Ring.{reads, ring_by}
use Rattle.binom_poly.specs.declared.part.Part.{Part}
use Rattle.binom_poly.specs.Polynomial.{value_of}
use Rattle.binom_poly.specs.Reading.{Reading}
use Rattle.binom_poly.specs.Readings.{width_at, magnitude_of, IsCoveredMonomial, IsCovered}
use Rattle.nested_poly.specs.declared.split.Split.{Split}
use Rattle.nested_poly.specs.declared.tail.Tail.{Tail}
use Rattle.nested_poly.specs.Tails.{last_part, tail_terms, parts_in, HasPart}
use Rattle.nested_poly.specs.Splits.{split_terms, parts_left, Adds, IsSplitOf}
use Rattle.nested_poly.proofs.Branching.{covered_left, covered_right}
use Rattle.nested_poly.proofs.Joining.{tail_terms-append, parts_in-one, parts_more, value_more, magnitude_more, value_by, magnitude_by, covered_by}
use Rattle.nested_poly.proofs.Adding.{split_is, zero_more}

-- ---- the tails of a split so far, of which t is the first
pub record SplitSoFar (s : Split) (t : Tail) (ts : List Tail) : Type 0 where
  pub ends : last_part t.parts.now s.part ≡ s.part
  pub split : IsSplitOf s (t ∷ ts)

covered_part : (rows : List Reading) (t : Tail) (ts : List Tail) (p : Part) → HasPart t → last_part t.parts.now p ≡ p → IsCovered rows (tail_terms (t ∷ ts)) → p.exp < width_at rows p.var
unfolding tail_terms
covered_part rows t ts p l e h = subst (λ (r : Part). r.exp < width_at rows r.var) e (covered_here t.parts.now (length t.parts.now - 1) (omega arith) h.0)
  where
    covered_here : (ms : List Part) (i : ℕ) → i < length ms → IsCoveredMonomial rows ms → (get_or ms i p).exp < width_at rows (get_or ms i p).var
    covered_here [] i l h = absurd (omega arith)
    covered_here (q ∷ qs) zero l h = h.0
    covered_here (q ∷ qs) (suc i) l h = covered_here qs i (omega arith) h.1

no_terms : (a : ℕ → ℤ) → (value_of a (tail_terms []) ≡ pos 0) × (magnitude_of a (tail_terms []) ≡ 0)
unfolding tail_terms value_of magnitude_of
no_terms a = (refl, refl)

no_parts : parts_in [] ≡ 0
unfolding parts_in
no_parts = refl

empty_value : (x : ℤ) → x *ℤ (pos 0 +ℤ pos 0) +ℤ pos 0 ≡ pos 0
empty_value x = ring_by (x ∷ []) (search reads depth 40) (search reads depth 40) tt

empty_magnitude : (x : ℕ) → x * (0 + 0) + 0 ≡ 0
empty_magnitude x = omega arith

none_yet : (a : ℕ → ℤ) (s : Split) → s.coefficient ≡ pos 0 → s.below.items ≡ [] → s.others.items ≡ [] → (value_of a (split_terms s) ≡ pos 0) × (magnitude_of a (split_terms s) ≡ 0)
none_yet a s z e f =
    let i = split_is s s.part (pos 0) [] [] refl z e f in
    let n = no_terms a in
    let x = choose (a s.part.var) s.part.exp in (
      ap (value_of a) i ∙ value_by a s.part (pos 0) [] [] ∙ ap (λ y. x *ℤ (y +ℤ pos 0) +ℤ value_of a (tail_terms [])) n.0 ∙ ap (λ y. x *ℤ (pos 0 +ℤ pos 0) +ℤ y) n.0 ∙ empty_value x,
      ap (magnitude_of a) i ∙ magnitude_by a s.part (pos 0) [] [] ∙ ap (λ y. unsigned_abs x * (y + 0) + magnitude_of a (tail_terms [])) n.1 ∙ ap (λ y. unsigned_abs x * (0 + 0) + y) n.1 ∙ empty_magnitude (unsigned_abs x),
    )

covered_none : (rows : List Reading) (s : Split) → s.part.exp < width_at rows s.part.var → s.below.items ≡ [] → s.others.items ≡ [] → IsCovered rows (split_terms s)
unfolding tail_terms
covered_none rows s l e f = subst (IsCovered rows) (sym (split_is s s.part s.coefficient [] [] refl refl e f)) (covered_by rows s.part s.coefficient [] [] l tt tt)

pub first_added : (none s : Split) (t : Tail) → none.coefficient ≡ pos 0 → none.below.items ≡ [] → none.others.items ≡ [] → HasPart t → last_part t.parts.now none.part ≡ none.part → Adds none s t → SplitSoFar s t []
first_added none s t z e f l b h =
    let i : parts_in none.below.items ≡ 0 = ap parts_in e ∙ no_parts in
    let j : parts_in none.others.items ≡ 0 = ap parts_in f ∙ no_parts in
    let k = parts_in-one t in
    let m = h.fewer z b in
    record {
      ends = subst (λ p. last_part t.parts.now p ≡ p) (sym h.part) b;
      split = record {
        nest = record {
          values = λ a. h.values a ∙ ap (λ y. y +ℤ value_of a (tail_terms (t ∷ []))) (none_yet a none z e f).0 ∙ +ℤ_idl (value_of a (tail_terms (t ∷ [])));
          magnitudes = λ a. h.magnitudes a ∙ ap (λ y. y + magnitude_of a (tail_terms (t ∷ []))) (none_yet a none z e f).1 ∙ zero_more (magnitude_of a (tail_terms (t ∷ [])));
          covers = λ rows y. let w = covered_part rows t [] none.part l b y in h.covers rows w (covered_none rows none w e f) y;
        };
        form = h.form record { below = subst (All HasPart) (sym e) (grind arith); others = subst (All HasPart) (sym f) (grind arith) };
        fewer = omega arith;
      };
    }

pub next_added : (s new : Split) (t u : Tail) (ts us : List Tail) → us ≡ ts ++ u ∷ [] → HasPart t → SplitSoFar s t ts → Adds s new u → SplitSoFar new t us
next_added s new t u ts us e l h k =
    let i : t ∷ us ≡ (t ∷ ts) ++ u ∷ [] = ap (λ xs. t ∷ xs) e in
    let j = parts_more (t ∷ ts) (t ∷ us) u i in
    let m : parts_left s + 1 ≤ parts_in (t ∷ ts) = h.split.fewer in
    let n = k.parts in
    record {
      ends = subst (λ p. last_part t.parts.now p ≡ p) (sym k.part) h.ends;
      split = record {
        nest = record {
          values = λ a. k.values a ∙ ap (λ y. y +ℤ value_of a (tail_terms (u ∷ []))) (h.split.nest.values a) ∙ sym (value_more a (t ∷ ts) (t ∷ us) u i);
          magnitudes = λ a. k.magnitudes a ∙ ap (λ y. y + magnitude_of a (tail_terms (u ∷ []))) (h.split.nest.magnitudes a) ∙ sym (magnitude_more a (t ∷ ts) (t ∷ us) u i);
          covers = λ rows y.
              let both = subst (IsCovered rows) (ap tail_terms i ∙ tail_terms-append (t ∷ ts) (u ∷ [])) y in
              k.covers rows (covered_part rows t us s.part l h.ends y) (h.split.nest.covers rows (covered_left rows (tail_terms (t ∷ ts)) (tail_terms (u ∷ [])) both)) (covered_right rows (tail_terms (t ∷ ts)) (tail_terms (u ∷ [])) both);
        };
        form = k.form h.split.form;
        fewer = omega arith;
      };
    }

pub so_far_ends : (s : Split) (t : Tail) (ts : List Tail) (i : ℕ) → length ts ≤ i → SplitSoFar s t (take i ts) → IsSplitOf s (t ∷ ts)
so_far_ends s t ts i l h = subst (λ us. IsSplitOf s (t ∷ us)) (all_taken ts i l) h.split
  where
    all_taken : (xs : List Tail) (j : ℕ) → length xs ≤ j → take j xs ≡ xs
    all_taken xs j m = grind (arith, common_steps)
