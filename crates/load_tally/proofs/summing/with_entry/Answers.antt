use Rattle.std.proofs.Common.{◌≡◌, ℕ, ◌+◌, ◌*◌, ◌%◌, pos, unsigned_abs, ◌∙◌, ap, rules, FitsSigned}
use Rattle.std.specs.Int.{w128, int_rem_euclid}
use Rattle.std.proofs.lemmas.Int.{to_z-of_z}
use Rattle.load_tally.specs.Weights.{modulus}
use Rattle.load_tally.proofs.Remainders.{remainder-product}
use Rattle.load_tally.proofs.summing.with_entry.Goals as goal

pub returns-clause-sum : goal.returns-clause-sum
returns-clause-sum c =
    let fits : FitsSigned w128 c.rem_euclid-entry.result = search rules in
    let value : c.rem_euclid-entry.result ≡ int_rem_euclid c.args.entry (pos modulus) =
    c.rem_euclid-entry.ensures.value
    ∙ ap (λ z. int_rem_euclid z (pos modulus)) (to_z-of_z w128 c.args.entry c.ranges.entry) in
    ap (λ (r : ℕ). (c.args.sum + c.args.place % modulus * r) % modulus)
    (ap unsigned_abs (to_z-of_z w128 c.rem_euclid-entry.result fits ∙ value))
    ∙ remainder-product c.args.sum c.args.place c.args.entry
