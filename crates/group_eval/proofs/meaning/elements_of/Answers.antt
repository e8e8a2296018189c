use Rattle.std.proofs.Common.{◌≡◌, subst}
use Rattle.nil_pres.specs.Presented.{Presented, IsPresented}
use Rattle.hall_table.specs.Tabled.{Tabled, IsTabled}
use Rattle.hall_table.specs.Multiplies.{Paired, IsChecked}
use Rattle.group_eval.specs.Laws.{OfChecked, MultipliedIs, SolvedIs, InvertedIs, DividedIs, PoweredIs, CommutedIs, ConjugatedIs}
use Rattle.group_eval.proofs.meaning.elements_of.Goals as goal

at_checked : (c : Paired) (p : Presented) (t : Tabled) → p ≡ c.pres → t ≡ c.table → IsPresented p
    → IsTabled t → IsChecked c → (P : Paired → Type 0) → OfChecked P → P c
at_checked c p t e f g h i P law = law c (subst IsPresented e g) (subst IsTabled f h) i

pub returns : goal.returns
returns c =
    let at = at_checked c.args.checked.now c.pres.result.now c.table.result.now c.pres.ensures.pres
    c.table.ensures.table c.count.ensures.lawful c.level.ensures.form c.table.ensures.multiplies in
    record {
      products = at MultipliedIs c.elements.ensures.products;
      solutions = at SolvedIs c.elements.ensures.solutions;
      inverses = at InvertedIs c.elements.ensures.inverses;
      quotients = at DividedIs c.elements.ensures.quotients;
      powers = at PoweredIs c.elements.ensures.powers;
      commutators = at CommutedIs c.elements.ensures.commutators;
      conjugates = at ConjugatedIs c.elements.ensures.conjugates;
    }
