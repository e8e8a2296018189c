use Rattle.std.proofs.Common.{◌≡◌, ◌+◌, ◌-◌, [], map, get_or, take, sym, ◌∙◌, ap, subst, arith}
use Rattle.std.specs.Prelude.{All}
use Rattle.table_json.specs.Format.{poly_data}
use Rattle.table_json.specs.Reading.{HasParts}
use Rattle.table_json.proofs.Made.{has_parts, made_more}
use Rattle.table_json.proofs.writing.poly_values.Goals as goal

pub poly_value-requires : goal.poly_value-requires
poly_value-requires c =
    subst (All HasParts) (sym c.lend.ensures)
    (has_parts c.args.table.now c.loop-k.k c.last-k-end.ensures.form c.requires
    c.loop-k.invariant.least (omega arith))

pub loop-k-preserved : goal.loop-k-preserved
loop-k-preserved c =
    let k = c.loop-k.k in
    let polys = c.args.table.now.polys in
    let at : c.lend.result.now ≡ get_or polys (k - 1) [] =
    c.lend.ensures ∙ ap (λ j. get_or polys (k - j) []) c.requires in
    let more = made_more poly_data polys (k - 1) [] c.loop-k.values.items c.push.new.self.items
    c.in_ok-value.value
    (omega arith) c.loop-k.invariant.made (c.in_ok-value.ensures
    ∙ ap poly_data at) c.in_ok-push.ensures.items in
    let j : k - 1 + 1 ≡ k + 1 - 1 = omega arith in
    record { least = omega arith; made = more ∙ ap (λ i. map poly_data (take i polys)) j }
