use Rattle.std.proofs.Common.{◌≡◌, ◌≤◌, Some, sym, ◌∙◌, ap, subst}
use Rattle.std.proofs.lemmas.Result.{IfOk-weaker}
use Rattle.std.proofs.lemmas.Str.{IsUtf8-string_bytes}
use Rattle.serde_json.specs.Data.{Data, depth}
use Rattle.serde_json.specs.View.{view}
use Rattle.serde_json.specs.Written.{compact_text, has_float}
use Rattle.table_json.specs.Format.{table_data}
use Rattle.table_json.proofs.Made.{table_depth, table_plain, table_said}
use Rattle.table_json.proofs.writing.write_table.Goals as goal

pub returns-clause-text : goal.returns-clause-text
returns-clause-text c =
    let is : view c.in_ok-value.value ≡ table_data c.args.table.now = c.in_ok-value.ensures.value in
    IfOk-weaker c.to_string.result _ _
    (λ s h. h (ap has_float is ∙ table_plain c.args.table.now)
    ∙ ap compact_text is) c.to_string.ensures.text

pub returns-clause-again : goal.returns-clause-again
returns-clause-again c =
    let is : view c.in_ok-value.value ≡ table_data c.args.table.now = c.in_ok-value.ensures.value in
    IfOk-weaker c.to_string.result _ _
    (λ s h. record {
      value = table_data c.args.table.now;
      json = record {
        utf8 = IsUtf8-string_bytes s;
        value = h (subst (λ (d : Data). depth d ≤ 127) (sym is) (table_depth c.args.table.now))
            ∙ ap (λ d. Some d) is;
      };
      says = table_said c.args.table.now c.in_ok-value.ensures.form c.requires;
    }) c.to_string.ensures.reads_back
