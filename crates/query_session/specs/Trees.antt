-- The command `trees PRES NAME`.
--   number_in p name              the generator with a name, or none
--   AreTrees pres name files out  the file says a presentation with this generator, and out lists its
--                                 least trees and their polynomial
--   IsRefused pres name a ..      the status comes instead, with its cause
--   IsTreesOf pres name ..        the command's session
--   IsSmoothTrees pres name a p   the known file says p, with this generator, whose polynomial doesn't
--                                 overflow
-- p a presentation · k generator · a what is asked for
use Rattle.std.specs.Prelude.{◌≡◌, ℕ, ◌+◌, List, [], ◌∷◌, Option, Some, None, option_map, position}
use Rattle.std.specs.Str.{bytes_eq}
use Rattle.nil_pres.specs.Presented.{Presented}
use Rattle.pres_text.specs.File.{IsFile}
use Rattle.hall_compile.specs.declared.wide_place.WidePlace.TheVariants as place
use Rattle.tree_text.specs.Lines.{PolyOverflows, IsTreesText}
use Rattle.session_io.specs.Asked.{Asked, Fed}
use Rattle.session_io.specs.Files.{Got}
use Rattle.query_session.specs.declared.usage_kind.UsageKind.TheVariants as reason
use Rattle.query_session.specs.declared.status.Status.{Status}
use Rattle.query_session.specs.declared.status.Status.TheVariants as s
use Rattle.query_session.specs.Presentations.{presentation, IsFileRefused}
use Rattle.query_session.specs.Known.{IsKnown}
use Rattle.query_session.specs.Texts.{IsTextRun}

abbrev pub number_in : Presented → List ℕ → Option ℕ
number_in p name = option_map (λ i. i + 1) (position (bytes_eq name) p.names)

pub record AreTrees (pres name : List ℕ) (files : List Got) (out : List ℕ) : Type 0 where
  pub file : List ℕ
  pub p : Presented
  pub k : ℕ
  pub got : files ≡ presentation pres file ∷ []
  pub is_file : IsFile p file
  pub named : number_in p name ≡ Some k
  pub text : IsTreesText p k out

pub data IsRefused (pres name : List ℕ) (a : Asked) : List Got → List (List ℕ) → Status
    → Type 0 where
  in_file : (files : List Got) (names : List (List ℕ)) (status : Status)
      → IsFileRefused pres a files names status → IsRefused pres name a files names status
  no_generator : (file : List ℕ) (p : Presented) → IsFile p file → number_in p name ≡ None
      → IsRefused pres name a (presentation pres file ∷ []) p.names (s.Usage reason.NoGenerator)
  wide : (file : List ℕ) (p : Presented) (k : ℕ) → IsFile p file → number_in p name ≡ Some k
      → PolyOverflows p k
      → IsRefused pres name a (presentation pres file ∷ []) p.names (s.Wide (place.Trees k))

abbrev pub IsTreesOf : List ℕ → List ℕ → ℕ → Asked → Fed → Status → Option (List ℕ)
    → Option (List ℕ) → Type 0
IsTreesOf pres name = IsTextRun (AreTrees pres name) (IsRefused pres name)

pub record IsSmoothTrees (pres name : List ℕ) (a : Asked) (p : Presented) : Type 0 where
  pub file : List ℕ
  pub k : ℕ
  pub known : IsKnown a (presentation pres file)
  pub is_file : IsFile p file
  pub named : number_in p name ≡ Some k
  pub fits : ¬ PolyOverflows p k
