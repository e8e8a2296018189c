use Rattle.std.proofs.Common.{◌≡◌, ◌++◌, ◌-◌, take, ℕ, List, ◌∙◌, ap, arith}
use Rattle.session_io.specs.Holding.{held}
use Rattle.session_io.proofs.Holding.{take-min, take-fill}
use Rattle.session_io.proofs.held_line.HeldLine.add.Goals as goal

pub returns : goal.returns
returns c =
    let front = c.self.inside.bytes.items in
    let bytes = c.args.bytes.now in
    let seen : front ≡ c.args.self.now = cc in
    let few = c.self.invariant.0 in
    c.in-Ok.ensures.items ∙ ap (λ (n : ℕ). front ++ take n bytes) c.min.ensures
    ∙ ap (λ (t : List ℕ). front ++ t) (take-min bytes (65537 - c.len.result))
    ∙ take-fill 65537 front bytes (65537 - c.len.result) (omega (arith, c.len.ensures, few))
    ∙ ap (λ (t : List ℕ). held (t ++ bytes)) seen
