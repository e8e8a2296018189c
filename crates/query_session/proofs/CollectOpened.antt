-- The command `collect PRES`: what was opened.
use Rattle.std.proofs.Common.{◌≡◌, ℕ, List, [], ◌∷◌, refl, sym, subst}
use Rattle.nil_pres.specs.Presented.{Presented}
use Rattle.pres_text.specs.File.{IsFile}
use Rattle.session_io.specs.Asked.{Asked}
use Rattle.query_session.specs.Opening.{HasOpened}
use Rattle.query_session.specs.Presentations.{presentation, HasPresentation}
use Rattle.query_session.specs.Collect.{IsPresentation}

pub HasOpened-presentation : (pres : List ℕ) (a : Asked) (p q : Presented) → q ≡ p
    → HasPresentation pres a p → HasOpened Presented (IsPresentation pres) a q
HasOpened-presentation pres a p q same h =
    let P : Presented → Type 0 = λ x. IsFile x h.file in
    record {
      files = presentation pres h.file ∷ [];
      got = (h.got, tt);
      is = record { file = h.file; got = refl; is_file = subst P (sym same) h.is_file };
    }
