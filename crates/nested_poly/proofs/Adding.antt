-- The ways to add a tail to a split
use Rattle.std.proofs.Common.{◌≡◌, ℕ, ◌+◌, ◌*◌, List, [], ◌∷◌, ◌++◌, length, refl, sym, ap, ◌∙◌, subst, arith, length-append}
use Rattle.std.specs.Prelude.{unsigned_abs, All}
use lib.IntN.{ℤ, pos, ◌+ℤ◌, ◌*ℤ◌, +ℤ_assoc}
use Rattle.integer.specs.Binomial.{choose}
use Rattle.integer.proofs.Ring.{reads, ring_by}
use Rattle.binom_poly.specs.declared.part.Part.{Part}
use Rattle.binom_poly.specs.Polynomial.{value_of}
use Rattle.binom_poly.specs.Readings.{magnitude_of, IsCovered}
use Rattle.nested_poly.specs.declared.split.Split.{Split}
use Rattle.nested_poly.specs.declared.tail.Tail.{Tail}
use Rattle.nested_poly.specs.Tails.{last_part, tail_terms, parts_in, HasPart}
use Rattle.nested_poly.specs.Splits.{terms_by, split_terms, Adds}
use Rattle.nested_poly.proofs.Joining.{parts_more, value_more, magnitude_more, covered_more, All_more, value_by, magnitude_by, covered_by, covered_bs, covered_os, covered_one, value_last, magnitude_last, value_own, magnitude_own}

-- ---- sums of three
join_other : (x o t : ℤ) → x +ℤ (o +ℤ t) ≡ (x +ℤ o) +ℤ t
join_other x o t = sym (+ℤ_assoc x o t)

sum_other : (x o t : ℕ) → x + (o + t) ≡ (x + o) + t
sum_other x o t = omega arith

pub zero_more : (n : ℕ) → 0 + n ≡ n
zero_more n = omega arith

join_below : (x b u c o : ℤ) → x *ℤ ((b +ℤ u) +ℤ c) +ℤ o ≡ (x *ℤ (b +ℤ c) +ℤ o) +ℤ x *ℤ u
join_below x b u c o = ring_by (x ∷ b ∷ u ∷ c ∷ o ∷ []) (search reads depth 40) (search reads depth 40) tt

join_own : (x b c o : ℤ) → x *ℤ (b +ℤ c) +ℤ o ≡ (x *ℤ (b +ℤ pos 0) +ℤ o) +ℤ x *ℤ c
join_own x b c o = ring_by (x ∷ b ∷ c ∷ o ∷ []) (search reads depth 40) (search reads depth 40) tt

sum_below : (x b u c o : ℕ) → x * ((b + u) + c) + o ≡ (x * (b + c) + o) + x * u
sum_below x b u c o = omega arith

sum_own : (x b c o : ℕ) → x * (b + c) + o ≡ (x * (b + 0) + o) + x * c
sum_own x b c o = omega arith

-- ---- the ways to add a tail
pub split_is : (s : Split) (p : Part) (c : ℤ) (bs os : List Tail) → s.part ≡ p → s.coefficient ≡ c → s.below.items ≡ bs → s.others.items ≡ os → split_terms s ≡ terms_by p c bs os
split_is s p c bs os d e f g =
    ap (λ q. terms_by q s.coefficient s.below.items s.others.items) d ∙ ap (λ z. terms_by p z s.below.items s.others.items) e ∙ ap (λ xs. terms_by p c xs s.others.items) f
    ∙ ap (λ xs. terms_by p c bs xs) g

pub adds_other : (old new : Split) (t : Tail) → new.part ≡ old.part → new.coefficient ≡ old.coefficient → new.below.items ≡ old.below.items → new.others.items ≡ old.others.items ++ t ∷ []
    → HasPart t → (old.coefficient ≡ pos 0 → last_part t.parts.now old.part ≡ old.part → ⊥) → Adds old new t
adds_other old new t d e f g h differs =
    let p = old.part in
    let c = old.coefficient in
    let bs = old.below.items in
    let os = old.others.items in
    let ns = new.others.items in
    let i = split_is new p c bs ns d e f refl in
    let j : parts_in new.below.items ≡ parts_in bs = ap parts_in f in
    let k = parts_more os ns t g in
    record {
      part = d;
      values = λ a.
          ap (value_of a) i ∙ value_by a p c bs ns ∙ ap (λ z. choose (a p.var) p.exp *ℤ (value_of a (tail_terms bs) +ℤ c) +ℤ z) (value_more a os ns t g)
          ∙ join_other (choose (a p.var) p.exp *ℤ (value_of a (tail_terms bs) +ℤ c)) (value_of a (tail_terms os)) (value_of a (tail_terms (t ∷ [])))
          ∙ ap (λ z. z +ℤ value_of a (tail_terms (t ∷ []))) (sym (value_by a p c bs os));
      magnitudes = λ a.
          ap (magnitude_of a) i ∙ magnitude_by a p c bs ns ∙ ap (λ z. unsigned_abs (choose (a p.var) p.exp) * (magnitude_of a (tail_terms bs) + unsigned_abs c) + z) (magnitude_more a os ns t g)
          ∙ sum_other (unsigned_abs (choose (a p.var) p.exp) * (magnitude_of a (tail_terms bs) + unsigned_abs c)) (magnitude_of a (tail_terms os)) (magnitude_of a (tail_terms (t ∷ [])))
          ∙ ap (λ z. z + magnitude_of a (tail_terms (t ∷ []))) (sym (magnitude_by a p c bs os));
      covers = λ rows l m n. subst (IsCovered rows) (sym i) (covered_by rows p c bs ns l (covered_bs rows p c bs os m) (covered_more rows os ns t g (covered_os rows p c bs os m) n));
      form = λ q. record { below = subst (All HasPart) (sym f) q.below; others = All_more os ns t g q.others h };
      parts = omega arith;
      fewer = λ z q. absurd (differs z q);
    }

pub adds_below : (old new : Split) (t u : Tail) → new.part ≡ old.part → new.coefficient ≡ old.coefficient → new.below.items ≡ old.below.items ++ u ∷ [] → new.others.items ≡ old.others.items
    → t.parts.now ≡ u.parts.now ++ old.part ∷ [] → t.coefficient ≡ u.coefficient → HasPart u → Adds old new t
adds_below old new t u d e f g h z m =
    let p = old.part in
    let c = old.coefficient in
    let bs = old.below.items in
    let os = old.others.items in
    let ns = new.below.items in
    let i = split_is new p c ns os d e refl g in
    let j : parts_in new.others.items ≡ parts_in os = ap parts_in g in
    let k = parts_more bs ns u f in
    let l : length t.parts.now ≡ length u.parts.now + 1 = ap length h ∙ length-append u.parts.now (p ∷ []) in
    record {
      part = d;
      values = λ a.
          ap (value_of a) i ∙ value_by a p c ns os ∙ ap (λ y. choose (a p.var) p.exp *ℤ (y +ℤ c) +ℤ value_of a (tail_terms os)) (value_more a bs ns u f)
          ∙ join_below (choose (a p.var) p.exp) (value_of a (tail_terms bs)) (value_of a (tail_terms (u ∷ []))) c (value_of a (tail_terms os))
          ∙ ap (λ y. y +ℤ choose (a p.var) p.exp *ℤ value_of a (tail_terms (u ∷ []))) (sym (value_by a p c bs os))
          ∙ ap (λ y. value_of a (terms_by p c bs os) +ℤ y) (sym (value_last a t u p h z));
      magnitudes = λ a.
          ap (magnitude_of a) i ∙ magnitude_by a p c ns os ∙ ap (λ y. unsigned_abs (choose (a p.var) p.exp) * (y + unsigned_abs c) + magnitude_of a (tail_terms os)) (magnitude_more a bs ns u f)
          ∙ sum_below (unsigned_abs (choose (a p.var) p.exp)) (magnitude_of a (tail_terms bs)) (magnitude_of a (tail_terms (u ∷ []))) (unsigned_abs c) (magnitude_of a (tail_terms os))
          ∙ ap (λ y. y + unsigned_abs (choose (a p.var) p.exp) * magnitude_of a (tail_terms (u ∷ []))) (sym (magnitude_by a p c bs os))
          ∙ ap (λ y. magnitude_of a (terms_by p c bs os) + y) (sym (magnitude_last a t u p h z));
      covers = λ rows q x y.
          subst (IsCovered rows) (sym i) (covered_by rows p c ns os q (covered_more rows bs ns u f (covered_bs rows p c bs os x) (covered_one rows t u p h y)) (covered_os rows p c bs os x));
      form = λ q. record { below = All_more bs ns u f q.below m; others = subst (All HasPart) (sym g) q.others };
      parts = omega arith;
      fewer = λ _ _. omega arith;
    }

pub adds_own : (old new : Split) (t : Tail) → new.part ≡ old.part → old.coefficient ≡ pos 0 → new.coefficient ≡ t.coefficient → new.below.items ≡ old.below.items → new.others.items ≡ old.others.items
    → t.parts.now ≡ old.part ∷ [] → Adds old new t
adds_own old new t d z e f g h =
    let p = old.part in
    let bs = old.below.items in
    let os = old.others.items in
    let i = split_is new p t.coefficient bs os d e f g in
    let o = split_is old p (pos 0) bs os refl z refl refl in
    let j : parts_in new.others.items ≡ parts_in os = ap parts_in g in
    let k : parts_in new.below.items ≡ parts_in bs = ap parts_in f in
    let l : length t.parts.now ≡ 1 = ap length h in
    record {
      part = d;
      values = λ a.
          ap (value_of a) i ∙ value_by a p t.coefficient bs os
          ∙ join_own (choose (a p.var) p.exp) (value_of a (tail_terms bs)) t.coefficient (value_of a (tail_terms os))
          ∙ ap (λ y. y +ℤ choose (a p.var) p.exp *ℤ t.coefficient) (sym (ap (value_of a) o ∙ value_by a p (pos 0) bs os))
          ∙ ap (λ y. value_of a (split_terms old) +ℤ y) (sym (value_own a t p h));
      magnitudes = λ a.
          ap (magnitude_of a) i ∙ magnitude_by a p t.coefficient bs os
          ∙ sum_own (unsigned_abs (choose (a p.var) p.exp)) (magnitude_of a (tail_terms bs)) (unsigned_abs t.coefficient) (magnitude_of a (tail_terms os))
          ∙ ap (λ y. y + unsigned_abs (choose (a p.var) p.exp) * unsigned_abs t.coefficient) (sym (ap (magnitude_of a) o ∙ magnitude_by a p (pos 0) bs os))
          ∙ ap (λ y. magnitude_of a (split_terms old) + y) (sym (magnitude_own a t p h));
      covers = λ rows q x y.
          subst (IsCovered rows) (sym i) (covered_by rows p t.coefficient bs os q (covered_bs rows p (pos 0) bs os (subst (IsCovered rows) o x)) (covered_os rows p (pos 0) bs os (subst (IsCovered rows) o x)));
      form = λ q. record { below = subst (All HasPart) (sym f) q.below; others = subst (All HasPart) (sym g) q.others };
      parts = omega arith;
      fewer = λ _ _. omega arith;
    }
