use Rattle.std.proofs.Common.{◌≡◌, ℕ, ◌≤◌, ◌==◌, false, length, string_bytes, arith}
use Rattle.std.proofs.lemmas.Bool.Decides.{nat_tests}
use Rattle.pres_text.proofs.Written.{right_text-whole}
use Rattle.pres_text.proofs.writing.put_right.Goals as goal

some : (n : ℕ) → false ≡ (n == 0) → 1 ≤ n
some n h = grind (arith, nat_tests)

pub returns : goal.returns
returns c =
    right_text-whole c.args.pres.now.names c.args.right.now c.split_at.result.0.now c.split_at.result.1.now (string_bytes c.args.text.now) (string_bytes c.put_power.new.text) (string_bytes c.powers.text)
    _ c.powers.syllable-index (some (length c.args.right.now) c.if-is_empty.ensures) c.split_at.ensures.front c.split_at.ensures.back c.in_ok-put_power.ensures c.powers.invariant c.powers-test.false
