-- The factors of a letter aren't 0.
use Rattle.std.proofs.Common.{◌≢◌, ◌∙◌, ap, sym, subst, pos}
use Rattle.std.specs.Prelude.{All}
use Rattle.dt_letters.specs.Allowed.{exponents_of}
use Rattle.dt_letters.specs.Terms.{factor, groups_from}
use Rattle.dt_letters.specs.Arena.{letter_in}
use Rattle.dt_trees.specs.Polynomials.{groups_over}
use Rattle.dt_trees.proofs.Groups.{factors-nonzero}
use Rattle.dt_trees.proofs.constants.constant.Goals as goal

pub product-requires-clause-nonzero : goal.product-requires-clause-nonzero
product-requires-clause-nonzero c =
    let a = c.args.letters.now in
    let e = exponents_of a.pres in
    let t = letter_in a c.args.tree in
    subst (All (λ g. factor e t g ≢ pos 0))
    (sym (ap (groups_over a) c.deref.ensures.value ∙ c.in_ok-put_groups.ensures.groups
    ∙ ap (λ ms. groups_from t (groups_over a ms)) c.new-members.ensures.items))
    (factors-nonzero e t c.requires.letter)
