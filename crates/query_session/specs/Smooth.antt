-- When a session can't but end well.
--   IsSmoothOf os limit command a f p   the known files of a command, over the presentation p, refuse
--                            nothing, are within their limits, and meet no fault; so do the known
--                            queries, where it reads them
--   IsSmooth os limit a f p  so it is for the command that the words ask for
-- os the proposals for each presentation and level · a what is asked for · f what is fed
use Rattle.std.specs.Prelude.{◌≡◌, ℕ, List, Some, None}
use Rattle.nil_pres.specs.Presented.{Presented}
use Rattle.hall_compile.specs.Proposals.{Proposal}
use Rattle.session_io.specs.Asked.{Asked, Fed}
use Rattle.query_session.specs.Known.{AreKnown}
use Rattle.query_session.specs.Compiling.{IsSmoothCompile}
use Rattle.query_session.specs.RunTable.{IsSmoothRunTable}
use Rattle.query_session.specs.Trees.{IsSmoothTrees}
use Rattle.query_session.specs.Collect.{IsSmoothCollect}
use Rattle.query_session.specs.Example.{fault_of}
use Rattle.query_session.specs.Load.{IsSmoothLoad}
use Rattle.query_session.specs.Commands.{Command, command_of, run, run_table, check, compile, trees, collect, example, load}

abbrev pub IsSmoothOf : (Presented → ℕ → List Proposal) → ℕ → Command → Asked → Fed → Presented
    → Type 0
IsSmoothOf os limit (run pres) a f p = IsSmoothCompile os pres a p × AreKnown limit f
IsSmoothOf os limit (run_table pres table) a f p =
    IsSmoothRunTable pres table a p × AreKnown limit f
IsSmoothOf os limit (check pres) a f p = IsSmoothCompile os pres a p
IsSmoothOf os limit (compile pres) a f p = IsSmoothCompile os pres a p
IsSmoothOf os limit (trees pres name) a f p = IsSmoothTrees pres name a p
IsSmoothOf os limit (collect pres) a f p = IsSmoothCollect pres a p × AreKnown limit f
IsSmoothOf os limit (example kind size) a f p = fault_of kind size ≡ None
IsSmoothOf os limit (load rows count seed) a f p = IsSmoothLoad os rows count seed

pub record IsSmooth (os : Presented → ℕ → List Proposal) (limit : ℕ) (a : Asked) (f : Fed)
    (p : Presented) : Type 0 where
  pub command : Command
  pub asks : command_of a.words ≡ Some command
  pub smooth : IsSmoothOf os limit command a f p
