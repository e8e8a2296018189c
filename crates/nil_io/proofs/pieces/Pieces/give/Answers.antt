use Rattle.std.proofs.Common.{◌≡◌, ℕ, ◌-◌, ◌≤◌, List, drop, take, length, sym, ◌∙◌, ap, subst, arith}
use Rattle.nil_io.proofs.Fronts.{whole, given}
use Rattle.nil_io.proofs.pieces.Pieces.give.Goals as goal

-- what was copied is the front of what was left
pub returns-clause-taken : goal.returns-clause-taken
returns-clause-taken c =
    let xs = c.self.inside.bytes.items in
    let start = c.self.inside.start in
    let n = c.min-count.result in
    let front : c.copy_from_slice.new.self ≡ take n (take (length xs - start) (drop start xs)) =
    subst (λ (ys : List ℕ). c.copy_from_slice.new.self ≡ take n (take (length ys - start) (drop start ys))) c.deref.ensures.value c.copy_from_slice.ensures.after in
    let short : n ≤ length (drop start xs) =
    omega (arith, ap length (whole xs start), subst (λ (ys : List ℕ). c.min-count.result ≤ length (take (length ys - start) (drop start ys))) c.deref.ensures.value (omega arith)) in
    sym (ap (λ v. v.left) c.self.view_is) ∙ given xs c.copy_from_slice.new.self (drop n c.args.buf.now) start n front short
