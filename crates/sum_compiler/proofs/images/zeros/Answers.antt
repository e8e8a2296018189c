-- One more zero.
use Rattle.std.proofs.Common.{◌≡◌, ℕ, zero, suc, ◌+◌, List, [], ◌∷◌, ◌++◌, replicate, refl, sym, ap, ◌∙◌, arith}
use Rattle.binom_poly.specs.declared.term.Term.{Term}
use Rattle.sum_compiler.proofs.images.zeros.Goals as goal

replicate-more : (n : ℕ) (p : List Term) → replicate (n + 1) p ≡ replicate n p ++ p ∷ []
replicate-more zero p = refl
replicate-more (suc n) p =
    ap (λ (m : ℕ). replicate m p) (let e : suc n + 1 ≡ suc (n + 1) = omega arith in e)
    ∙ ap (λ (ps : List (List Term)). p ∷ ps) (replicate-more n p)

pub loop-preserved : goal.loop-preserved
loop-preserved c =
    c.in_ok-push.ensures.items
    ∙ ap (λ (p : List Term). c.loop.polys.items ++ p ∷ []) c.zero.ensures
    ∙ ap (λ (ps : List (List Term)). ps ++ [] ∷ []) c.loop.invariant
    ∙ sym (replicate-more c.loop.counter [])
