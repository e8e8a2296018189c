use Rattle.std.proofs.Common.{◌≡◌, ◌++◌, ◌∷◌, [], List, sym, ap, ◌∙◌, subst}
use Rattle.binom_poly.specs.declared.term.Term.{Term}
use Rattle.poly_subst.specs.Rows.{IsRow}
use Rattle.poly_subst.proofs.Running.{row_begins}
use Rattle.poly_subst.proofs.power_row.PowerRow.new.Goals as goal

one_item : (xs ys : List (List Term)) (x : List Term) → xs ≡ [] → ys ≡ xs ++ x ∷ [] → ys ≡ x ∷ []
one_item xs ys x e f = f ∙ ap (λ (zs : List (List Term)). zs ++ x ∷ []) e

pub returns : goal.returns
returns c = λ q.
    subst (IsRow q) (sym (one_item c.new-entries.result.items c.push.new.self.items c.in_ok-one.one c.new-entries.ensures.items c.in_ok-push.ensures.items))
    (row_begins q c.in_ok-one.one c.in_ok-one.ensures.constant c.in_ok-one.ensures.value)
