use Rattle.std.proofs.Common.{◌≡◌, ℕ, ◌≤◌, ◌+◌, ◌∙◌, sym, ap, subst, arith}
use Rattle.std.specs.Prelude.{All, List, max, slice_index}
use Rattle.std.proofs.lemmas.Result.{IfOk-weaker}
use lib.IntN.{pos}
use Rattle.binom_poly.specs.declared.top.Top.{Top}
use Rattle.binom_poly.specs.Monomial.{IsVariable}
use Rattle.binom_poly.specs.Reading.{Reading}
use Rattle.binom_poly.specs.Readings.{reading_at, value_at, width_of}
use Rattle.hall_table.specs.Tabled.{Tabled}
use Rattle.hall_table.specs.Width.{HasRows}
use Rattle.hall_table.proofs.Widths.{top_of, top_is, greatest_in-small, tops_begin, tops_more, rows_made}
use Rattle.hall_table.proofs.table.Table.rows.Goals as goal

pub loop-k-init : goal.loop-k-init
loop-k-init c =
    tops_begin c.args.self.now c.level-k.result c.new-tops.result.items c.level-k.ensures.level
    c.new-tops.ensures.items

-- the two variables of a generator get their tops
pub loop-k-preserved : goal.loop-k-preserved
loop-k-preserved c =
    let t = c.args.self.now in
    let greatest = c.greatest_exponents_in-greatest.result in
    let same : c.deref.result.now ≡ t.polys = c.deref.ensures.value ∙ ap (λ (u : Tabled). u.polys) c.self.view_is in
    let top : (v : ℕ) (x : Top) → x ≡ record { var = v; top = max (slice_index greatest v) 1 } → x ≡ top_of t v =
    λ v x e. top_is t v _ c.deref.result.now x e (c.greatest_exponents_in-greatest.ensures.greatest v) same in
    tops_more t c.loop-k.k c.loop-k.tops.items c.push.new.self.items c.push-in-loop-k.new.self.items
    c.row_top.result c.row_top-in-loop-k.result c.level-k.ensures.form
    (greatest_in-small t c.deref.result.now c.greatest_exponents_in-greatest.ensures.small same)
    (omega arith) (omega arith) c.loop-k.invariant (top c.loop-k.k c.row_top.result c.row_top.ensures)
    (top c.y_of.result c.row_top-in-loop-k.result c.row_top-in-loop-k.ensures ∙ ap (top_of t) c.y_of.ensures)
    c.in_ok-push.ensures.items c.in_ok-push-2.ensures.items

pub reserve-requires : goal.reserve-requires
reserve-requires c =
    subst (λ ts. All (λ t. IsVariable t.var × (t.top ≤ 1000)) ts) (sym c.deref-2.ensures.value)
    c.loop-k.invariant.variables

pub returns-clause-rows : goal.returns-clause-rows
returns-clause-rows c =
    IfOk-weaker c.reserve.result
    (λ (rows : List Reading). (v : ℕ) → reading_at rows v
    ≡ record { value = pos 0; width = width_of c.deref-2.result.now v })
    (λ (rows : List Reading). HasRows c.args.self.now rows)
    (λ rows h. rows_made c.args.self.now c.loop-k.k (c.last-k-end.result + 1) c.loop-k.tops.items
    c.deref-2.result.now rows c.loop-k.invariant c.deref-2.ensures.value
    (ap (λ n. n + 1) c.last-k-end.ensures.last) c.loop-k-test.false (omega arith) h)
    c.reserve.ensures

pub returns-clause-zeros : goal.returns-clause-zeros
returns-clause-zeros c =
    IfOk-weaker c.reserve.result
    (λ (rows : List Reading). (v : ℕ) → reading_at rows v
    ≡ record { value = pos 0; width = width_of c.deref-2.result.now v })
    (λ (rows : List Reading). (v : ℕ) → value_at rows v ≡ pos 0)
    (λ rows h v. ap (λ (r : Reading). r.value) (h v)) c.reserve.ensures
