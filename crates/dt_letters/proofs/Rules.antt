-- The rules of the order and of nodes, and answers of tests that decide them.
--   a b l r letters · e exponents · k type · i number · o the answer of a test
use Rattle.std.proofs.Common.{◌≡◌, Bool, true, refl, sym, ◌∙◌}
use Rattle.std.specs.Prelude.{◌↔◌, IsTrue}
use Rattle.dt_letters.specs.Letters.{Letter, leaf, node}
use Rattle.dt_letters.specs.Order.{IsBefore, IsEarlier}
use Rattle.dt_letters.specs.Meeting.{before, earlier, same_letter}
use Rattle.dt_letters.specs.Allowed.{GoesOn, goes_on}
use Rattle.dt_letters.proofs.Relations.{earlier_test, earlier_of_test, tests_order}

pub goes_on_test : (l r : Letter) → GoesOn l r → goes_on l r ≡ true
goes_on_test (leaf s k i) r h = refl
goes_on_test (node a b k i) r h = earlier_test b r h

pub goes_on_of_test : (l r : Letter) → goes_on l r ≡ true → GoesOn l r
goes_on_of_test (leaf s k i) r h = tt
goes_on_of_test (node a b k i) r h = earlier_of_test b r h

-- an answer that is that of a test decides what the test decides
pub decides : {P : Type 0} (o t : Bool) → o ≡ t → (t ≡ true) ↔ P → IsTrue o ↔ P
decides o t e d = (λ h. d.0 (sym e ∙ h), λ p. e ∙ d.1 p)

pub before_decided : (a b : Letter) (o : Bool) → o ≡ before a b → IsTrue o ↔ IsBefore a b
before_decided a b o e = decides o (before a b) e (tests_order a b).0

pub earlier_decided : (a b : Letter) (o : Bool) → o ≡ earlier a b → IsTrue o ↔ IsEarlier a b
earlier_decided a b o e = decides o (earlier a b) e (tests_order a b).1

pub same_decided : (a b : Letter) (o : Bool) → o ≡ same_letter a b → IsTrue o ↔ (a ≡ b)
same_decided a b o e = decides o (same_letter a b) e (tests_order a b).2
