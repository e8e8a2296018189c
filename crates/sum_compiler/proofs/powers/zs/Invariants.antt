use Rattle.std.proofs.Common.{◌≡◌, ◌-◌, map}
use Rattle.nil_word.specs.Exponents.{numbers}
use Rattle.binom_poly.specs.Collected.{var_terms}
use Rattle.binom_poly.specs.Variable.{z_of}
use Rattle.sum_compiler.proofs.powers.zs.Given as goal

abbrev pub invariant-loop-k : goal.invariant-loop-k
invariant-loop-k l =
    l.polys.items ≡ map (λ m. var_terms (z_of m)) (numbers l.table.level (l.k - l.table.level))
