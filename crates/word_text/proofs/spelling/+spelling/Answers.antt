use Rattle.std.proofs.Common.{◌≡◌, ◌∷◌, [], ◌∙◌, sym, ap, rules, ◌++◌}
use Rattle.nil_word.specs.declared.expr.Expr.TheVariants.{Pow, Conj, Comm}
use Rattle.std.proofs.lemmas.List.{take_all}
use Rattle.word_text.specs.Writing.{exponent_token}
use Rattle.word_text.proofs.Joining.{items_tokens, on_ok, one_more, product_tokens, power_tokens, conjugate_tokens, commutator_tokens}
use Rattle.word_text.proofs.spelling.+spelling.Goals as goal

pub push_expr-loop-i-preserved : goal.push_expr-loop-i-preserved
push_expr-loop-i-preserved t c =
    one_more c.as_slice-items.result.now c.loop-i.i c.index-items-i.result c.item_breaks.result c.args.tokens.now.items _ _ _ c.loop-i-test.true c.index-items-i.is
    c.loop-i.invariant c.item_breaks.ensures c.in_ok-push_star-in-Product.ensures c.in_ok-push_enclosed-in-Product.ensures

pub push_expr-returns-after-loop-i : goal.push_expr-returns-after-loop-i
push_expr-returns-after-loop-i t c =
    c.loop-i.invariant
    ∙ ap (λ es. c.args.tokens.now.items ++ items_tokens es) (take_all c.loop-i.i c.as_slice-items.result.now c.loop-i-test.false ∙ c.as_slice-items.ensures)
    ∙ ap (λ ks. c.args.tokens.now.items ++ ks) (sym (product_tokens c.args.expr.now c.in-Product.items c.in-Product.is))

pub push_expr-returns-in_ok-push-in-Pow : goal.push_expr-returns-in_ok-push-in-Pow
push_expr-returns-in_ok-push-in-Pow t c =
    on_ok c.push-in-Pow-2.result
    (λ third. power_tokens c.args.expr.now c.get-base.result.now c.in-Pow.exponent c.base_breaks.result c.args.tokens.now.items _ _ _
    (c.in-Pow.is ∙ ap (λ b. Pow b c.in-Pow.exponent) (sym c.get-base.ensures)) c.base_breaks.ensures c.in_ok-push_enclosed-in-Pow.ensures c.in_ok-push-in-Pow.ensures
    (let own : c.exponent_kind-in-Pow.result ≡ exponent_token c.in-Pow.exponent = search rules in third ∙ ap (λ x. c.push-in-Pow.new.tokens.items ++ x ∷ []) own))
    c.push-in-Pow-2.ensures

pub push_expr-returns-in_ok-push-in-Conj : goal.push_expr-returns-in_ok-push-in-Conj
push_expr-returns-in_ok-push-in-Conj t c =
    on_ok c.push_enclosed-in-Conj-2.result
    (λ third. conjugate_tokens c.args.expr.now c.get-conjugated.result.now c.get-conjugator.result.now c.base_breaks-in-Conj.result c.conjugator_breaks.result c.args.tokens.now.items _ _ _
    (c.in-Conj.is ∙ ap (λ u. Conj u c.in-Conj.v) (sym c.get-conjugated.ensures) ∙ ap (λ v. Conj c.get-conjugated.result.now v) (sym c.get-conjugator.ensures))
    c.base_breaks-in-Conj.ensures c.conjugator_breaks.ensures c.in_ok-push_enclosed-in-Conj.ensures c.in_ok-push-in-Conj.ensures third)
    c.push_enclosed-in-Conj-2.ensures

pub push_expr-returns-in_ok-push_expr-in-Comm-2 : goal.push_expr-returns-in_ok-push_expr-in-Comm-2
push_expr-returns-in_ok-push_expr-in-Comm-2 t c =
    on_ok c.push-in-Comm-3.result
    (λ fifth. commutator_tokens c.args.expr.now c.get-first.result.now c.get-second.result.now c.args.tokens.now.items _ _ _ _ _
    (c.in-Comm.is ∙ ap (λ u. Comm u c.in-Comm.v) (sym c.get-first.ensures) ∙ ap (λ v. Comm c.get-first.result.now v) (sym c.get-second.ensures))
    c.in_ok-push-in-Comm.ensures c.in_ok-push_expr-in-Comm.ensures c.in_ok-push-in-Comm-2.ensures c.in_ok-push_expr-in-Comm-2.ensures fifth)
    c.push-in-Comm-3.ensures
