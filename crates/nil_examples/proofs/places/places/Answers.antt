use Rattle.std.proofs.Common.{◌≡◌, ℕ, ◌+◌, ◌-◌, ◌++◌, List, ap, ◌∙◌, arith}
use Rattle.nil_examples.specs.declared.places.Place.{Place}
use Rattle.nil_examples.specs.Places.{diagonal}
use Rattle.nil_examples.proofs.Diagonals.{diagonals, diagonals-next}
use Rattle.nil_examples.proofs.places.places.Goals as goal

-- one diagonal more
pub loop-d-preserved : goal.loop-d-preserved
loop-d-preserved c =
    c.in_ok-push_diagonal.ensures
    ∙ ap (λ (t : List Place). t ++ diagonal c.args.m (c.loop-d.d + 1)) c.loop-d.invariant
    ∙ diagonals-next c.args.m c.loop-d.d

pub returns : goal.returns
returns c =
    let all : c.loop-d.d ≡ c.args.m - 1 = omega arith in
    c.loop-d.invariant ∙ ap (λ (n : ℕ). diagonals c.args.m n) all
