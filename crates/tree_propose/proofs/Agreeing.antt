-- Values of terms in tested variables depend only on these.
--   test of variables · a b points · ms monomial · ts terms
use Rattle.std.proofs.Common.{◌≡◌, ℕ, Bool, List, [], ◌∷◌, refl, ap, ◌∙◌}
use Rattle.std.specs.Prelude.{All, IsTrue}
use Rattle.std.proofs.lemmas.List.Elements.{All-head, All-tail}
use lib.IntN.{ℤ, ◌+ℤ◌, ◌*ℤ◌}
use Rattle.integer.specs.Binomial.{choose}
use Rattle.binom_poly.specs.declared.part.Part.{Part}
use Rattle.binom_poly.specs.declared.term.Term.{Term}
use Rattle.binom_poly.specs.Polynomial.{monomial_value, value_of}
use Rattle.binom_poly.specs.Dependence.{Agree, DependsOnly, HasOnly}

monomial_value-agree : (test : ℕ → Bool) (a b : ℕ → ℤ) (ms : List Part) → Agree test a b
    → HasOnly test ms → monomial_value a ms ≡ monomial_value b ms
unfolding monomial_value
monomial_value-agree test a b [] h k = refl
monomial_value-agree test a b (p ∷ ps) h k =
    let P : Part → Type 0 = λ q. IsTrue (test q.var) in
    ap (λ z. choose z p.exp *ℤ monomial_value a ps) (h p.var (All-head P p ps k))
    ∙ ap (λ z. choose (b p.var) p.exp *ℤ z) (monomial_value-agree test a b ps h (All-tail P p ps k))

pub value_of-agree : (test : ℕ → Bool) (ts : List Term) → All (λ t. HasOnly test t.monomial) ts
    → DependsOnly test (λ a. value_of a ts)
unfolding value_of
value_of-agree test [] k a b h = refl
value_of-agree test (t ∷ ts) k a b h =
    let P : Term → Type 0 = λ u. HasOnly test u.monomial in
    ap (λ z. t.coefficient *ℤ z +ℤ value_of a ts) (monomial_value-agree test a b t.monomial h (All-head P t ts k))
    ∙ ap (λ z. t.coefficient *ℤ monomial_value b t.monomial +ℤ z) (value_of-agree test ts (All-tail P t ts k) a b h)
