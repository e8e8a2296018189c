-- The last monomial of terms.
--   ts terms · t u v term
use Rattle.std.proofs.Common.{◌≡◌, ◌-◌, List, [], ◌∷◌, ◌++◌, length, Some, refl, sym, ◌∙◌, ap, arith}
use Rattle.std.specs.Prelude.{slice_get}
use Rattle.binom_poly.specs.declared.term.Term.{Term}
use Rattle.table_json.specs.Reading.{last_monomial}

pub last_monomial-append : (ts : List Term) (t : Term)
    → last_monomial (ts ++ t ∷ []) ≡ Some t.monomial
last_monomial-append [] t = refl
last_monomial-append (u ∷ []) t = refl
last_monomial-append (u ∷ v ∷ ts) t = last_monomial-append (v ∷ ts) t

last_from : (ts : List Term) (u t : Term) → Some t ≡ slice_get (u ∷ ts) (length ts)
    → last_monomial (u ∷ ts) ≡ Some t.monomial
last_from [] u t e = let same : t ≡ u = cc in ap (λ (v : Term). Some v.monomial) (sym same)
last_from (v ∷ ts) u t e = last_from ts v t e

-- the term that is lent as the last one
pub last_monomial-last : (ts : List Term) (t : Term) → Some t ≡ slice_get ts (length ts - 1)
    → last_monomial ts ≡ Some t.monomial
last_monomial-last [] t e = cc
last_monomial-last (u ∷ ts) t e =
    let i : length (u ∷ ts) - 1 ≡ length ts = omega arith in
    last_from ts u t (e ∙ ap (slice_get (u ∷ ts)) i)
