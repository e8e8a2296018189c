-- By the lemma of Early at the places of the halves.
use Rattle.std.proofs.Common.{◌≡◌, ℕ, ◌≤◌, ◌⊎◌, inl, inr, subst, ap, arith}
use Rattle.dt_letters.specs.declared.tree.Tree.{Tree}
use Rattle.dt_letters.specs.Letters.{node, group_of}
use Rattle.dt_letters.specs.Growth.{raised}
use Rattle.dt_letters.specs.Least.{greatest_in}
use Rattle.dt_letters.specs.Arena.{Arena, IsTreeOf, AreForms, AreDifferent, letter_in}
use Rattle.dt_letters.specs.declared.form.Form.{Form}
use Rattle.std.specs.Prelude.{List}
use Rattle.dt_letters.proofs.Early.{none-of-member}
use Rattle.dt_letters.proofs.letters.Letters.is_early.Goals as goal

has_none : (a : Arena) (fs : List Form) → fs ≡ a.forms → AreForms 0 fs → AreDifferent fs
    → (t m l r : Tree) (k i : ℕ) → IsTreeOf a l → IsTreeOf a r → IsTreeOf a t
    → node (letter_in a l) (letter_in a r) k i ≡ letter_in a m
    → (t.place ≤ l.place) ⊎ (t.place ≤ r.place)
    → ((n : ℕ) → raised (group_of (letter_in a m)) n (letter_in a t) ≡ letter_in a t)
    × (greatest_in (group_of (letter_in a m)) (letter_in a t) ≡ 0)
has_none a fs s good once t m l r k i x y z e h =
    none-of-member a.forms (subst (AreForms 0) s good) (subst AreDifferent s once) l.place r.place k i t.place
    (letter_in a m) x y z e h

pub returns-then-a-left-clause-raised : goal.returns-then-a-left-clause-raised
returns-then-a-left-clause-raised c h =
    (has_none c.args.self.now c.self.inside.forms.keys (ap (λ (a : Arena). a.forms) c.self.view_is)
    c.self.invariant.0 c.self.invariant.1 c.args.a c.args.member c.in-Node.left c.in-Node.right c.in-Node.kind c.in-Node.number
    c.in-Node.ensures.trees.0 c.in-Node.ensures.trees.1 c.requires.first c.in-Node.ensures.letter
    (inl (grind (arith, h)))).0

pub returns-then-a-left-clause-greatest : goal.returns-then-a-left-clause-greatest
returns-then-a-left-clause-greatest c h =
    (has_none c.args.self.now c.self.inside.forms.keys (ap (λ (a : Arena). a.forms) c.self.view_is)
    c.self.invariant.0 c.self.invariant.1 c.args.a c.args.member c.in-Node.left c.in-Node.right c.in-Node.kind c.in-Node.number
    c.in-Node.ensures.trees.0 c.in-Node.ensures.trees.1 c.requires.first c.in-Node.ensures.letter
    (inl (grind (arith, h)))).1

pub returns-else-a-left-clause-raised : goal.returns-else-a-left-clause-raised
returns-else-a-left-clause-raised c h =
    (has_none c.args.self.now c.self.inside.forms.keys (ap (λ (a : Arena). a.forms) c.self.view_is)
    c.self.invariant.0 c.self.invariant.1 c.args.a c.args.member c.in-Node.left c.in-Node.right c.in-Node.kind c.in-Node.number
    c.in-Node.ensures.trees.0 c.in-Node.ensures.trees.1 c.requires.first c.in-Node.ensures.letter
    (inr (grind (arith, h)))).0

pub returns-else-a-left-clause-greatest : goal.returns-else-a-left-clause-greatest
returns-else-a-left-clause-greatest c h =
    (has_none c.args.self.now c.self.inside.forms.keys (ap (λ (a : Arena). a.forms) c.self.view_is)
    c.self.invariant.0 c.self.invariant.1 c.args.a c.args.member c.in-Node.left c.in-Node.right c.in-Node.kind c.in-Node.number
    c.in-Node.ensures.trees.0 c.in-Node.ensures.trees.1 c.requires.first c.in-Node.ensures.letter
    (inr (grind (arith, h)))).1
