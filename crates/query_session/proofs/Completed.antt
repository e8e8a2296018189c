-- Each command without a fault ends well.
use Rattle.std.proofs.Common.{◌≡◌, ℕ, ◌≤◌, ◌⊎◌, List, Option, Some, None, subst}
use Rattle.nil_pres.specs.Presented.{Presented}
use Rattle.pres_text.specs.File.{IsFile}
use Rattle.pres_text.specs.FirstFault.{first_fault}
use Rattle.hall_table.specs.Tabled.{Tabled}
use Rattle.hall_table.specs.Multiplies.{Paired}
use Rattle.hall_compile.specs.Proposals.{Proposal}
use Rattle.table_json.specs.declared.table_fault.TableFault.{TableFault}
use Rattle.table_json.specs.Saying.{IsTableText}
use Rattle.table_json.specs.Refusing.{IsFirstRefusal}
use Rattle.session_io.specs.Asked.{Asked, Fed}
use Rattle.query_session.specs.declared.status.Status.{Status}
use Rattle.query_session.specs.declared.status.Status.TheVariants as s
use Rattle.query_replies.specs.Right.{IsReply}
use Rattle.query_session.specs.Compiling as of_compile
use Rattle.query_session.specs.Run as of_run
use Rattle.query_session.specs.RunTable as of_table
use Rattle.query_session.specs.Check as of_check
use Rattle.query_session.specs.Compile as of_table_text
use Rattle.collect_text.specs.Right.{IsCollected}
use Rattle.query_session.specs.Presentations.{IsFileRefused}
use Rattle.query_session.specs.Trees as of_trees
use Rattle.query_session.specs.Collect as of_collect
use Rattle.query_session.specs.Load as of_load
use Rattle.query_session.specs.Sizes.{IsSizeRefused}
use Rattle.query_session.specs.Example as of_example
use Rattle.query_session.specs.Commands.{Command, run, run_table, check, compile, trees, collect, example, load, IsSessionOf, IsSession}
use Rattle.query_session.specs.Smooth.{IsSmoothOf, IsSmooth}
use Rattle.query_session.proofs.Completing.{IsRunOver-done, IsTextRun-done, file_not_refused}
use Rattle.query_session.proofs.CompileOpened.{compile_not_refused}
use Rattle.query_session.proofs.TableOpened.{run_table_not_refused}
use Rattle.query_session.proofs.Examples.{size_not_refused}
use Rattle.query_session.proofs.TreesOpened.{trees_not_refused}
use Rattle.query_session.proofs.LoadOpened.{load_not_refused}

module _
    (one : (file : List ℕ) (p q : Presented) → IsFile p file → IsFile q file → p ≡ q)
    (none : (file : List ℕ) (p : Presented) → IsFile p file → first_fault file ≡ None)
    (one_table : (n : ℕ) (text : List ℕ) (t u : Tabled) → n ≤ 48 → IsTableText n text t
    → IsTableText n text u → t ≡ u)
    (no_fault : (n : ℕ) (text : List ℕ) (t : Tabled) (f : TableFault) → n ≤ 48
    → IsTableText n text t → IsFirstRefusal n text f → ⊥)
    (os : Presented → ℕ → List Proposal) (limit : ℕ) (a : Asked) (f : Fed) (p : Presented)
    (status : Status) (old new : Option (List ℕ)) where
  command-done : (command : Command) → IsSmoothOf os limit command a f p
      → IsSessionOf os (Some command) limit a f status old new
      → (status ≡ s.WriteFault → ⊥) → (status ≡ s.Done) ⊎ (status ≡ s.Memory)
  command-done (run pres) (smooth, queries) session n =
      IsRunOver-done Paired (of_run.IsOpened os pres) IsReply (of_compile.IsRefused os pres) limit a
      f (compile_not_refused one none os pres a p smooth) queries status old new session n
  command-done (run_table pres table) (smooth, queries) session n =
      IsRunOver-done Paired (of_table.IsOpened pres table) IsReply (of_table.IsRefused pres table)
      limit a f (run_table_not_refused one none one_table no_fault pres table a p smooth) queries
      status old new session n
  command-done (check pres) smooth session n =
      IsTextRun-done (of_check.IsVerdict os pres) (of_compile.IsRefused os pres) limit a f
      (compile_not_refused one none os pres a p smooth) status old new session n
  command-done (compile pres) smooth session n =
      IsTextRun-done (of_table_text.IsTableOf os pres) (of_compile.IsRefused os pres) limit a f
      (compile_not_refused one none os pres a p smooth) status old new session n
  command-done (trees pres name) smooth session n =
      IsTextRun-done (of_trees.AreTrees pres name) (of_trees.IsRefused pres name) limit a f
      (trees_not_refused one none pres name a p smooth) status old new session n
  command-done (collect pres) (smooth, queries) session n =
      IsRunOver-done Presented (of_collect.IsPresentation pres) IsCollected (IsFileRefused pres) limit
      a f (file_not_refused none a pres smooth.file p smooth.known smooth.is_file) queries status old
      new session n
  command-done (load rows count seed) smooth session n =
      IsTextRun-done (of_load.IsLoaded os rows count seed) (of_load.IsRefused os rows count seed)
      limit a f (load_not_refused os rows count seed a smooth) status old new session n
  command-done (example kind size) smooth session n =
      IsTextRun-done (of_example.IsExample kind size) (IsSizeRefused (of_example.fault_of kind size))
      limit a f (size_not_refused (of_example.fault_of kind size) a smooth) status old new session n

  pub ends-smoothly : IsSession os limit a f status old new → IsSmooth os limit a f p
      → (status ≡ s.WriteFault → ⊥) → (status ≡ s.Done) ⊎ (status ≡ s.Memory)
  ends-smoothly session smooth n =
      let S : Option Command → Type 0 = λ d. IsSessionOf os d limit a f status old new in
      command-done smooth.command smooth.smooth (subst S smooth.asks session) n
