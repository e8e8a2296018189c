-- Rows that have a place for two variables cover their product
use Rattle.std.proofs.Common.{◌≡◌, ◌<◌, List, [], ◌∷◌, sym, refl, ap, ◌∙◌, subst}
use lib.IntN.{pos}
use Rattle.binom_poly.specs.declared.term.Term.{Term}
use Rattle.binom_poly.specs.Reading.{Reading}
use Rattle.binom_poly.specs.Readings.{width_at, IsCovered}
use Rattle.binom_poly.specs.Times.{product_terms, term_products, monomial_product, against, with_part, prefixed}
use Rattle.binom_poly.specs.Collected.{var_terms, product_of, collected, put_term}

product_is : product_of (var_terms 2) (var_terms 65) ≡ record { monomial = record { var = 2; exp = 1 } ∷ record { var = 65; exp = 1 } ∷ []; coefficient = pos 1 } ∷ []
unfolding product_terms term_products monomial_product against with_part prefixed collected put_term
product_is = refl

pub covered : (rows : List Reading) (p q r : List Term) → p ≡ var_terms 2 → q ≡ var_terms 65 → r ≡ product_of p q → 1 < width_at rows 2 → 1 < width_at rows 65 → IsCovered rows r
covered rows p q r e f g h k =
    subst (IsCovered rows) (sym (g ∙ ap (λ (ts : List Term). product_of ts q) e ∙ ap (λ (ts : List Term). product_of (var_terms 2) ts) f ∙ product_is)) ((h, (k, tt)), tt)
