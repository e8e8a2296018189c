use Rattle.std.proofs.Common.{◌≡◌, ℕ, ap, ◌∙◌, string_bytes, arith}
use Rattle.nil_examples.specs.Loads.{queries}
use Rattle.nil_examples.proofs.Drawing.{state-next, queries-next}
use Rattle.nil_examples.proofs.loads.queries.Goals as goal

-- one query more
pub loop-k-preserved : goal.loop-k-preserved
loop-k-preserved c =
    let k = c.loop-k.k in
    let state = c.loop-k.draws.state in
    record {
      text = c.in_ok-push_query.ensures.line
          ∙ queries-next c.args.n c.args.seed k state (string_bytes c.loop-k.text) c.loop-k.invariant.text c.loop-k.invariant.state;
      state = state-next c.args.seed k state c.push_query.new.draws.state c.loop-k.invariant.state c.in_ok-push_query.ensures.state;
    }

pub returns : goal.returns
returns c =
    let all : c.loop-k.k ≡ c.args.count = omega arith in
    c.loop-k.invariant.text ∙ ap (λ (i : ℕ). queries c.args.n c.args.seed i) all
