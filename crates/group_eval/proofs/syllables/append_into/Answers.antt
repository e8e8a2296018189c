use Rattle.std.proofs.Common.{◌∙◌, rules, FitsSigned}
use Rattle.std.specs.Int.{w128}
use Rattle.std.proofs.lemmas.Int.{to_z-of_z}
use Rattle.hall_table.proofs.Following.{entry_read}
use Rattle.group_eval.proofs.Sums.{Fit, appended-wide, appended-made}
use Rattle.group_eval.proofs.syllables.append_into.Goals as goal

pub returns-in_default-clause-order : goal.returns-in_default-clause-order
returns-in_default-clause-order c =
    let x = c.args.left.now in
    let k = c.args.syllable.generator in
    let e = c.args.syllable.exponent in
    let own : FitsSigned w128 c.at.result = search rules in
    let signed : FitsSigned w128 e = search rules in
    let fit : Fit c.args.table.now x k _ _ e = record {
      rows = c.in_ok-put_x.ensures.first;
      row = c.in_ok-set_y.ensures.wide;
      entry_is = to_z-of_z w128 c.at.result own ∙ entry_read x k c.at.result c.at.ensures.entry;
      exponent = to_z-of_z w128 e signed;
    } in
    appended-wide fit c.in_default.ensures

pub returns-clause-order : goal.returns-clause-order
returns-clause-order c =
    let x = c.args.left.now in
    let k = c.args.syllable.generator in
    let e = c.args.syllable.exponent in
    let own : FitsSigned w128 c.at.result = search rules in
    let signed : FitsSigned w128 e = search rules in
    let total : FitsSigned w128 c.in-Ok.total = search rules in
    let fit : Fit c.args.table.now x k _ _ e = record {
      rows = c.in_ok-put_x.ensures.first;
      row = c.in_ok-set_y.ensures.wide;
      entry_is = to_z-of_z w128 c.at.result own ∙ entry_read x k c.at.result c.at.ensures.entry;
      exponent = to_z-of_z w128 e signed;
    } in
    appended-made fit _ c.set.new.self c.in-Ok.ensures.1
    (to_z-of_z w128 c.in-Ok.total total ∙ c.in-Ok.ensures.0) c.set.ensures
