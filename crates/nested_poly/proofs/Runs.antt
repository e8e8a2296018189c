-- Nodes of terms one after another, run by run
use Rattle.std.proofs.Common.{◌≡◌, ℕ, zero, suc, ◌+◌, ◌-◌, ◌≤◌, List, [], ◌∷◌, ◌++◌, length, take, drop, refl, sym, ap, ◌∙◌, subst, arith, append_assoc, length-append}
use Rattle.std.proofs.Math.Seq.{take-add}
use Rattle.std.proofs.lemmas.List.{take-append-drop, take-append-le, drop-append-le}
use Rattle.binom_poly.specs.declared.term.Term.{Term}
use Rattle.binom_poly.proofs.Times.{value-append}
use Rattle.binom_poly.specs.Polynomial.{value_of}
use Rattle.binom_poly.specs.Readings.{magnitude_of}
use lib.IntN.{◌+ℤ◌}
use Rattle.nested_poly.specs.declared.node.Node.{Node}
use Rattle.nested_poly.specs.declared.tail.Tail.{Tail}
use Rattle.nested_poly.specs.Nodes.{branch_terms, terms_of, terms_within, IsForest, IsNestOf}
use Rattle.nested_poly.specs.Tails.{tail_terms, parts_in, Nests}
use Rattle.nested_poly.proofs.Branching.{forest_front, forest_of_front, terms_first, length-drop, magnitude-append, covered-append, covered_left, covered_right}
use Rattle.nested_poly.proofs.Joining.{tail_terms-append, parts_in-append}

-- ---- nodes behind others
terms_within-append : (k : ℕ) (xs ys : List Node) → length xs ≤ k → IsForest xs → terms_of (xs ++ ys) ≡ terms_of xs ++ terms_of ys
unfolding terms_within
terms_within-append k [] ys l h = refl
terms_within-append zero (n ∷ xs) ys l h = absurd (omega arith)
terms_within-append (suc k) (n ∷ xs) ys l h =
    let f = forest_front n xs h in
    let b = n.below in
    let rest = terms_within-append k (drop b xs) ys (omega (arith, length-drop b xs)) f.next in
    terms_first n (xs ++ ys)
    ∙ ap (λ ms. branch_terms n (terms_of ms) ++ terms_of (drop b (xs ++ ys))) (take-append-le b xs ys f.within)
    ∙ ap (λ ms. branch_terms n (terms_of (take b xs)) ++ terms_of ms) (drop-append-le b xs ys f.within)
    ∙ ap (λ ts. branch_terms n (terms_of (take b xs)) ++ ts) rest
    ∙ sym (append_assoc (branch_terms n (terms_of (take b xs))) (terms_of (drop b xs)) (terms_of ys))
    ∙ ap (λ ts. ts ++ terms_of ys) (sym (terms_first n xs))

terms_of-append : (xs ys : List Node) → IsForest xs → terms_of (xs ++ ys) ≡ terms_of xs ++ terms_of ys
terms_of-append xs ys h = terms_within-append (length xs) xs ys (omega arith) h

forest_within-append : (k : ℕ) (xs ys : List Node) → length xs ≤ k → IsForest xs → IsForest ys → IsForest (xs ++ ys)
forest_within-append k [] ys l h g = g
forest_within-append zero (n ∷ xs) ys l h g = absurd (omega arith)
forest_within-append (suc k) (n ∷ xs) ys l h g =
    let f = forest_front n xs h in
    forest_of_front n (xs ++ ys) record {
      within = omega (arith, f.within, length-append xs ys);
      below = subst IsForest (sym (take-append-le n.below xs ys f.within)) f.below;
      next = subst IsForest (sym (drop-append-le n.below xs ys f.within))
          (forest_within-append k (drop n.below xs) ys (omega (arith, length-drop n.below xs)) f.next g);
    }

forest-append : (xs ys : List Node) → IsForest xs → IsForest ys → IsForest (xs ++ ys)
forest-append xs ys h g = forest_within-append (length xs) xs ys (omega arith) h g

nest-append : (ts us vs ws : List Term) → IsNestOf ts us → IsNestOf vs ws → IsNestOf (ts ++ vs) (us ++ ws)
nest-append ts us vs ws h k = record {
  values = λ a. value-append a ts vs ∙ ap (λ z. z +ℤ value_of a vs) (h.values a)
      ∙ ap (λ z. value_of a us +ℤ z) (k.values a) ∙ sym (value-append a us ws);
  magnitudes = λ a. magnitude-append a ts vs ∙ ap (λ z. z + magnitude_of a vs) (h.magnitudes a)
      ∙ ap (λ z. magnitude_of a us + z) (k.magnitudes a) ∙ sym (magnitude-append a us ws);
  covers = λ rows c. covered-append rows ts vs (h.covers rows (covered_left rows us ws c))
      (k.covers rows (covered_right rows us ws c));
}

nests-append : (old mid new : List Node) (ts us : List Tail) → Nests old mid ts → Nests mid new us → Nests old new (ts ++ us)
nests-append old mid new ts us h k = record {
  added = h.added ++ k.added;
  behind = k.behind ∙ ap (λ xs. xs ++ k.added) h.behind ∙ append_assoc old h.added k.added;
  form = forest-append h.added k.added h.form k.form;
  nest = subst (λ vs. IsNestOf vs (tail_terms (ts ++ us))) (sym (terms_of-append h.added k.added h.form))
      (subst (IsNestOf (terms_of h.added ++ terms_of k.added)) (sym (tail_terms-append ts us))
      (nest-append (terms_of h.added) (tail_terms ts) (terms_of k.added) (tail_terms us) h.nest k.nest));
}

-- ---- the next run
taken_more : (i e : ℕ) (ts : List Tail) → i ≤ e → take e ts ≡ take i ts ++ take (e - i) (drop i ts)
taken_more i e ts l =
    let s : i + (e - i) ≡ e = omega arith in
    ap (λ n. take n ts) (sym s) ∙ take-add i (e - i) ts

pub nests_more : (old mid new : List Node) (i e : ℕ) (ts : List Tail) → i ≤ e → Nests old mid (take i ts)
    → Nests mid new (take (e - i) (drop i ts)) → Nests old new (take e ts)
nests_more old mid new i e ts l h k =
    subst (Nests old new) (sym (taken_more i e ts l)) (nests-append old mid new (take i ts) (take (e - i) (drop i ts)) h k)

-- how many parts a run has
parts_in-split : (i : ℕ) (ts : List Tail) → parts_in (take i ts) + parts_in (drop i ts) ≡ parts_in ts
parts_in-split i ts = sym (parts_in-append (take i ts) (drop i ts)) ∙ ap parts_in (take-append-drop i ts)

pub parts_in-run : (n i : ℕ) (ts : List Tail) → parts_in (take n (drop i ts)) ≤ parts_in ts
parts_in-run n i ts = omega (arith, parts_in-split i ts, parts_in-split n (drop i ts))
