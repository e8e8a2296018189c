-- By the central law.
use Rattle.std.proofs.Common.{◌≡◌, ℕ, ◌+◌, suc, subst, arith}
use Rattle.nil_word.specs.Words.{IsWordIn}
use Rattle.left_collect.proofs.Passing.{generator_passes, image_passes}
use Rattle.left_collect.proofs.Factored.{by_syllables}
use Rattle.left_collect.proofs.laws.conjugates.Goals as goal

pub returns-clause-generator : goal.returns-clause-generator
returns-clause-generator c = λ rels a k lawful positive b d.
    generator_passes rels lawful a k positive b d

pub returns-clause-word : goal.returns-clause-word
returns-clause-word c = λ rels a w lawful positive there h.
    let e : a.number + 1 ≡ suc a.number = omega arith in
    image_passes rels lawful a positive there w
    (subst (λ (n : ℕ). IsWordIn n rels.count w) e h)

pub returns-clause-syllables : goal.returns-clause-syllables
returns-clause-syllables c = λ rels g k right lawful positive b d e.
    by_syllables rels g k right lawful positive b d e
