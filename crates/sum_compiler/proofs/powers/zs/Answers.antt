-- One more variable.
use Rattle.std.proofs.Common.{◌≡◌, ℕ, ◌-◌, ◌++◌, [], ◌∷◌, List, map, sym, ap, ◌∙◌, arith}
use Rattle.std.proofs.lemmas.List.{map-append}
use Rattle.nil_word.specs.Exponents.{numbers}
use Rattle.binom_poly.specs.declared.term.Term.{Term}
use Rattle.binom_poly.specs.Collected.{var_terms}
use Rattle.binom_poly.specs.Variable.{z_of}
use Rattle.hall_table.specs.Order.{generators}
use Rattle.sum_compiler.proofs.Numbers.{numbers-more}
use Rattle.sum_compiler.proofs.powers.zs.Goals as goal

pub loop-k-preserved : goal.loop-k-preserved
loop-k-preserved c =
    let level = c.args.table.now.level in
    let k = c.loop-k.k in
    let f : ℕ → List Term = λ m. var_terms (z_of m) in
    c.in_ok-push.ensures.items
    ∙ ap (λ (p : List Term). c.loop-k.polys.items ++ p ∷ []) (c.in_ok-var.ensures.variable ∙ ap var_terms c.z_of.ensures)
    ∙ ap (λ (ps : List (List Term)). ps ++ f k ∷ []) c.loop-k.invariant
    ∙ sym (ap (map f) (numbers-more level k (omega arith)) ∙ map-append f (numbers level (k - level)) (k ∷ []))

pub returns : goal.returns
returns c =
    let t = c.args.table.now in
    let e : c.loop-k.k - t.level ≡ generators t = omega arith in
    c.loop-k.invariant ∙ ap (λ (d : ℕ). map (λ (m : ℕ). var_terms (z_of m)) (numbers t.level d)) e
