-- Terms that have the values, the magnitudes and the rows of others
use Rattle.std.proofs.Common.{◌≡◌, ◌+◌, List, ◌++◌, refl, sym, ap, ◌∙◌, subst, append_assoc}
use lib.IntN.{◌+ℤ◌, +ℤ_comm}
use Rattle.binom_poly.specs.declared.term.Term.{Term}
use Rattle.binom_poly.specs.Polynomial.{value_of}
use Rattle.binom_poly.specs.Readings.{magnitude_of}
use Rattle.binom_poly.proofs.Times.{value-append}
use Rattle.nested_poly.specs.Nodes.{IsNestOf}
use Rattle.nested_poly.proofs.Branching.{magnitude-append, sum_swap, covered-append, covered_left, covered_right}

pub nest_same : (ts : List Term) → IsNestOf ts ts
nest_same ts = record { values = λ _. refl; magnitudes = λ _. refl; covers = λ _ h. h }

pub nest_trans : (ts us vs : List Term) → IsNestOf ts us → IsNestOf us vs → IsNestOf ts vs
nest_trans ts us vs h k = record {
  values = λ a. h.values a ∙ k.values a;
  magnitudes = λ a. h.magnitudes a ∙ k.magnitudes a;
  covers = λ rows c. h.covers rows (k.covers rows c);
}

pub nest_append : (ts us vs ws : List Term) → IsNestOf ts us → IsNestOf vs ws → IsNestOf (ts ++ vs) (us ++ ws)
nest_append ts us vs ws h k = record {
  values = λ a.
      value-append a ts vs ∙ ap (λ z. z +ℤ value_of a vs) (h.values a) ∙ ap (λ z. value_of a us +ℤ z) (k.values a)
      ∙ sym (value-append a us ws);
  magnitudes = λ a.
      magnitude-append a ts vs ∙ ap (λ z. z + magnitude_of a vs) (h.magnitudes a) ∙ ap (λ z. magnitude_of a us + z) (k.magnitudes a)
      ∙ sym (magnitude-append a us ws);
  covers = λ rows c. covered-append rows ts vs (h.covers rows (covered_left rows us ws c)) (k.covers rows (covered_right rows us ws c));
}

nest_exchange : (ts us : List Term) → IsNestOf (ts ++ us) (us ++ ts)
nest_exchange ts us = record {
  values = λ a. value-append a ts us ∙ +ℤ_comm (value_of a ts) (value_of a us) ∙ sym (value-append a us ts);
  magnitudes = λ a. magnitude-append a ts us ∙ sum_swap (magnitude_of a ts) (magnitude_of a us) ∙ sym (magnitude-append a us ts);
  covers = λ rows c. covered-append rows ts us (covered_right rows us ts c) (covered_left rows us ts c);
}

-- the last of three comes before the second
pub nest_swap : (ts us vs : List Term) → IsNestOf ((ts ++ us) ++ vs) ((ts ++ vs) ++ us)
nest_swap ts us vs =
    subst (λ ws. IsNestOf ws ((ts ++ vs) ++ us)) (sym (append_assoc ts us vs))
    (subst (IsNestOf (ts ++ (us ++ vs))) (sym (append_assoc ts vs us)) (nest_append ts ts (us ++ vs) (vs ++ us) (nest_same ts) (nest_exchange us vs)))

pub nest_equal : (ts us : List Term) → ts ≡ us → IsNestOf ts us
nest_equal ts us e = subst (IsNestOf ts) e (nest_same ts)
