-- The commands, by their words.
--   Command                  what is to be done
--   run_of names             the forms of `run`, by the words behind it
--   check_of names, compile_of names, trees_of names, collect_of names, example_of names,
--   load_of names            those of the other commands
--   kind_of word             the kind of an example
--   sized kind size          the command `example` of a kind and a size
--   loaded m count seed      the command `load` of three numbers
--   named_by word names      the command that a word names, by the words behind it
--   command_of words         the command that the words ask for; none where they fit no form
--   seen command             what contracts see of the program's own type
--   IsUsage f s out          the words are refused, and the source is untouched
--   IsSessionOf os command limit a f ..   the session of a command, or of none
--   IsSession os limit a f ..   the session of the words, with a limit of query bytes
-- os the proposals for each presentation and level · a what is asked for · f what is fed · s status
use Rattle.std.specs.Prelude.{◌≡◌, ℕ, List, [], ◌∷◌, Option, Some, None, if◌then◌else◌, codes}
use Rattle.std.specs.Str.{bytes_eq}
use Rattle.nil_pres.specs.Presented.{Presented}
use Rattle.hall_compile.specs.Proposals.{Proposal}
use Rattle.session_io.specs.Asked.{Asked, Fed, IsUntouched}
use Rattle.session_io.specs.Lines.{as_lines}
use Rattle.query_session.specs.declared.command.Command.{Command as Named}
use Rattle.query_session.specs.declared.command.Command.TheVariants as named
use Rattle.query_session.specs.declared.example_kind.ExampleKind.{ExampleKind}
use Rattle.query_session.specs.declared.example_kind.ExampleKind.TheVariants as kind
use Rattle.query_session.specs.declared.usage_kind.UsageKind.TheVariants as reason
use Rattle.query_session.specs.declared.status.Status.{Status}
use Rattle.query_session.specs.declared.status.Status.TheVariants as s
use Rattle.query_session.specs.Statuses.{text_of}
use Rattle.query_session.specs.Runs.{IsRun}
use Rattle.query_session.specs.Run.{IsRunOf}
use Rattle.query_session.specs.RunTable.{IsRunTableOf}
use Rattle.query_session.specs.Check.{IsCheckOf}
use Rattle.query_session.specs.Compile.{IsCompileOf}
use Rattle.query_session.specs.Trees.{IsTreesOf}
use Rattle.query_session.specs.Collect.{IsCollectOf}
use Rattle.query_session.specs.Example.{IsExampleOf}
use Rattle.query_session.specs.Load.{IsLoadOf}
use Rattle.query_session.specs.Numbers.{number_of}

pub data Command : Type 0 where
  run : (pres : List ℕ) → Command
  run_table : (pres table : List ℕ) → Command
  check : (pres : List ℕ) → Command
  compile : (pres : List ℕ) → Command
  trees : (pres name : List ℕ) → Command
  collect : (pres : List ℕ) → Command
  example : (kind : ExampleKind) (size : ℕ) → Command
  load : (rows count seed : ℕ) → Command

abbrev pub run_of : List (List ℕ) → Option Command
run_of [] = None
run_of (pres ∷ []) = Some (run pres)
run_of (pres ∷ table ∷ []) = Some (run_table pres table)
run_of (pres ∷ table ∷ more ∷ rest) = None

abbrev pub check_of : List (List ℕ) → Option Command
check_of (pres ∷ []) = Some (check pres)
check_of [] = None
check_of (pres ∷ more ∷ rest) = None

abbrev pub compile_of : List (List ℕ) → Option Command
compile_of (pres ∷ []) = Some (compile pres)
compile_of [] = None
compile_of (pres ∷ more ∷ rest) = None

abbrev pub trees_of : List (List ℕ) → Option Command
trees_of (pres ∷ name ∷ []) = Some (trees pres name)
trees_of [] = None
trees_of (pres ∷ []) = None
trees_of (pres ∷ name ∷ more ∷ rest) = None

abbrev pub collect_of : List (List ℕ) → Option Command
collect_of (pres ∷ []) = Some (collect pres)
collect_of [] = None
collect_of (pres ∷ more ∷ rest) = None

abbrev pub kind_of : List ℕ → Option ExampleKind
kind_of word =
    if bytes_eq word (codes "unitri") then Some kind.Unitriangular
    else if bytes_eq word (codes "free2") then Some kind.FreeClassTwo
    else None

abbrev pub sized : Option ExampleKind → Option ℕ → Option Command
sized (Some k) (Some n) = Some (example k n)
sized None n = None
sized (Some k) None = None

abbrev pub example_of : List (List ℕ) → Option Command
example_of (word ∷ size ∷ []) = sized (kind_of word) (number_of size)
example_of [] = None
example_of (word ∷ []) = None
example_of (word ∷ size ∷ more ∷ rest) = None

abbrev pub loaded : Option ℕ → Option ℕ → Option ℕ → Option Command
loaded (Some m) (Some count) (Some seed) = Some (load m count seed)
loaded None count seed = None
loaded (Some m) None seed = None
loaded (Some m) (Some count) None = None

abbrev pub load_of : List (List ℕ) → Option Command
load_of (m ∷ count ∷ seed ∷ []) = loaded (number_of m) (number_of count) (number_of seed)
load_of [] = None
load_of (m ∷ []) = None
load_of (m ∷ count ∷ []) = None
load_of (m ∷ count ∷ seed ∷ more ∷ rest) = None

abbrev pub named_by : List ℕ → List (List ℕ) → Option Command
named_by word names =
    if bytes_eq word (codes "run") then run_of names
    else if bytes_eq word (codes "check") then check_of names
    else if bytes_eq word (codes "compile") then compile_of names
    else if bytes_eq word (codes "trees") then trees_of names
    else if bytes_eq word (codes "collect") then collect_of names
    else if bytes_eq word (codes "example") then example_of names
    else if bytes_eq word (codes "load") then load_of names
    else None

abbrev pub command_of : List (List ℕ) → Option Command
command_of [] = None
command_of (word ∷ names) = named_by word names

abbrev pub seen : Named → Command
seen (named.Run pres) = run pres.now
seen (named.RunTable pres table) = run_table pres.now table.now
seen (named.Check pres) = check pres.now
seen (named.Compile pres) = compile pres.now
seen (named.Trees pres name) = trees pres.now name.now
seen (named.Collect pres) = collect pres.now
seen (named.Example kind size) = example kind size
seen (named.Load rows count seed) = load rows count seed

pub record IsUsage (f : Fed) (status : Status) (out : List ℕ) : Type 0 where
  pub is : status ≡ s.Usage reason.Words
  pub text : out ≡ as_lines (text_of [] (s.Usage reason.Words))
  pub untouched : IsUntouched f

abbrev pub IsSessionOf : (Presented → ℕ → List Proposal) → Option Command → ℕ → Asked → Fed → Status
    → Option (List ℕ) → Option (List ℕ) → Type 0
IsSessionOf os None limit a f =
    IsRun (λ files taken more. IsUsage f)
    (λ files taken more. IsUsage f (s.Usage reason.Words)) limit a f
IsSessionOf os (Some (run pres)) limit a f = IsRunOf os pres limit a f
IsSessionOf os (Some (run_table pres table)) limit a f = IsRunTableOf pres table limit a f
IsSessionOf os (Some (check pres)) limit a f = IsCheckOf os pres limit a f
IsSessionOf os (Some (compile pres)) limit a f = IsCompileOf os pres limit a f
IsSessionOf os (Some (trees pres name)) limit a f = IsTreesOf pres name limit a f
IsSessionOf os (Some (collect pres)) limit a f = IsCollectOf pres limit a f
IsSessionOf os (Some (example kind size)) limit a f = IsExampleOf kind size limit a f
IsSessionOf os (Some (load rows count seed)) limit a f =
    IsLoadOf os rows count seed limit a f

abbrev pub IsSession : (Presented → ℕ → List Proposal) → ℕ → Asked → Fed → Status
    → Option (List ℕ) → Option (List ℕ) → Type 0
IsSession os limit a f = IsSessionOf os (command_of a.words) limit a f
