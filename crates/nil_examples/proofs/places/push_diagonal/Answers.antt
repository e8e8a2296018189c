use Rattle.std.proofs.Common.{◌≡◌, ℕ, ◌+◌, ◌-◌, ◌∷◌, ◌++◌, [], List, ap, ◌∙◌, arith}
use Rattle.nil_examples.specs.declared.places.Place.{Place}
use Rattle.nil_examples.proofs.Diagonals.{along, along-next}
use Rattle.nil_examples.proofs.places.push_diagonal.Goals as goal

-- one place more
pub loop-p-preserved : goal.loop-p-preserved
loop-p-preserved c =
    let p = c.loop-p.p in
    along-next c.args.d p c.args.places.now.items c.push.new.self.items
    (c.in_ok-push.ensures.items
    ∙ ap (λ (t : List Place). t ++ record { row = p + 1; column = p + 1 + c.args.d } ∷ []) c.loop-p.invariant)

pub returns : goal.returns
returns c =
    let all : c.loop-p.p ≡ c.args.m - c.args.d = omega arith in
    c.loop-p.invariant ∙ ap (λ (n : ℕ). c.args.places.now.items ++ along c.args.d n) all
