-- What a command opens before its output, or what refuses it.
--   HasOpened I opened a i     i was opened, and its files were got
--   HasRefused refused a s     nothing was: the files of the status s were got, or memory was wanting
--   HasRefusal refused a r     so it is, and r says the text of its status
-- I what is opened: opened files i · refused a files names s   s comes over a presentation with
-- these names · a what is asked for · s status · r refusal
use Rattle.std.specs.Prelude.{◌≡◌, ℕ, ◌⊎◌, List}
use Rattle.session_io.specs.Asked.{Asked}
use Rattle.session_io.specs.Files.{Got, AreGot}
use Rattle.query_session.specs.declared.refusal.Refusal.{Refusal}
use Rattle.query_session.specs.declared.status.Status.{Status}
use Rattle.query_session.specs.declared.status.Status.TheVariants as s
use Rattle.query_session.specs.Refusals.{Says}

pub record HasOpened (I : Type 0) (opened : List Got → I → Type 0) (a : Asked) (i : I) : Type 0 where
  pub files : List Got
  pub got : AreGot a files
  pub is : opened files i

pub record HasRefused (refused : Asked → List Got → List (List ℕ) → Status → Type 0) (a : Asked)
    (status : Status) : Type 0 where
  pub files : List Got
  pub got : AreGot a files
  pub cause : (status ≡ s.Memory) ⊎ ((names : List (List ℕ)) × refused a files names status)

pub record HasRefusal (refused : Asked → List Got → List (List ℕ) → Status → Type 0) (a : Asked)
    (r : Refusal) : Type 0 where
  pub files : List Got
  pub got : AreGot a files
  pub cause : (r.status ≡ s.Memory)
      ⊎ ((names : List (List ℕ)) × refused a files names r.status × Says names r)
