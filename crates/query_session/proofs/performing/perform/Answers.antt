-- Each command's session is that of the call that was made for it.
use Rattle.std.proofs.Common.{Some, None, refl, rules}
use Rattle.session_io.specs.Asked.{asked, fed}
use Rattle.query_session.specs.declared.command.Command.TheVariants as named
use Rattle.query_session.proofs.Filling.{IsMemoOf-is, IsMemoOf-nothing}
use Rattle.query_session.proofs.Sessions.{IsSessionOf-is, IsRun-usage}
use Rattle.query_session.proofs.performing.perform.Goals as goal

pub returns-in-Some-Run-clause-run : goal.returns-in-Some-Run-clause-run
returns-in-Some-Run-clause-run g c = λ words.
    IsSessionOf-is _ c.args.limit _ _ c.run.result _ _ c.args.command
    (Some (named.Run c.in-Some-Run.pres)) (search rules)
    (c.run.ensures.run words)

pub returns-in-Some-Run-clause-memo : goal.returns-in-Some-Run-clause-memo
returns-in-Some-Run-clause-memo g c = λ words.
    IsMemoOf-is _ c.args.limit _ _ c.run.new.memo c.args.command
    (Some (named.Run c.in-Some-Run.pres)) (search rules)
    (c.run.ensures.memo words)

pub returns-in-Some-RunTable-clause-run : goal.returns-in-Some-RunTable-clause-run
returns-in-Some-RunTable-clause-run g c = λ words.
    IsSessionOf-is _ c.args.limit _ _ c.run_table.result _ _ c.args.command
    (Some (named.RunTable c.in-Some-RunTable.pres c.in-Some-RunTable.table)) (search rules)
    (c.run_table.ensures.run words)

pub returns-in-Some-RunTable-clause-memo : goal.returns-in-Some-RunTable-clause-memo
returns-in-Some-RunTable-clause-memo g c = λ words.
    IsMemoOf-is _ c.args.limit _ _ c.run_table.new.memo c.args.command
    (Some (named.RunTable c.in-Some-RunTable.pres c.in-Some-RunTable.table)) (search rules)
    (c.run_table.ensures.memo words)

pub returns-in-Some-Collect-clause-run : goal.returns-in-Some-Collect-clause-run
returns-in-Some-Collect-clause-run g c = λ words.
    IsSessionOf-is _ c.args.limit _ _ c.collect.result _ _ c.args.command
    (Some (named.Collect c.in-Some-Collect.pres)) (search rules)
    (c.collect.ensures.run words)

pub returns-in-Some-Collect-clause-memo : goal.returns-in-Some-Collect-clause-memo
returns-in-Some-Collect-clause-memo g c = λ words.
    IsMemoOf-nothing _ _ c.args.limit (asked words _ _ _ _ _) _ c.args.memo.now c.requires.empty

pub returns-in-Some-Check-clause-run : goal.returns-in-Some-Check-clause-run
returns-in-Some-Check-clause-run g c = λ words.
    let q = c.args.queries.now in
    IsSessionOf-is _ c.args.limit _ _ c.check.result _ _ c.args.command
    (Some (named.Check c.in-Some-Check.pres)) (search rules)
    (c.check.ensures.run c.args.limit words (g.S.Source.left q) (g.S.Source.faults q)
    (g.S.Source.given q))

pub returns-in-Some-Check-clause-memo : goal.returns-in-Some-Check-clause-memo
returns-in-Some-Check-clause-memo g c = λ words.
    IsMemoOf-nothing _ _ c.args.limit (asked words _ _ _ _ _) _ c.args.memo.now c.requires.empty

pub returns-in-Some-Compile-clause-run : goal.returns-in-Some-Compile-clause-run
returns-in-Some-Compile-clause-run g c = λ words.
    let q = c.args.queries.now in
    IsSessionOf-is _ c.args.limit _ _ c.compile.result _ _ c.args.command
    (Some (named.Compile c.in-Some-Compile.pres)) (search rules)
    (c.compile.ensures.run c.args.limit words (g.S.Source.left q) (g.S.Source.faults q)
    (g.S.Source.given q))

pub returns-in-Some-Compile-clause-memo : goal.returns-in-Some-Compile-clause-memo
returns-in-Some-Compile-clause-memo g c = λ words.
    IsMemoOf-nothing _ _ c.args.limit (asked words _ _ _ _ _) _ c.args.memo.now c.requires.empty

pub returns-in-Some-Trees-clause-run : goal.returns-in-Some-Trees-clause-run
returns-in-Some-Trees-clause-run g c = λ words.
    let q = c.args.queries.now in
    IsSessionOf-is _ c.args.limit _ _ c.trees.result _ _ c.args.command
    (Some (named.Trees c.in-Some-Trees.pres c.in-Some-Trees.name)) (search rules)
    (c.trees.ensures.run c.args.limit words (g.S.Source.left q) (g.S.Source.faults q)
    (g.S.Source.given q))

pub returns-in-Some-Trees-clause-memo : goal.returns-in-Some-Trees-clause-memo
returns-in-Some-Trees-clause-memo g c = λ words.
    IsMemoOf-nothing _ _ c.args.limit (asked words _ _ _ _ _) _ c.args.memo.now c.requires.empty

pub returns-in-Some-Example-clause-run : goal.returns-in-Some-Example-clause-run
returns-in-Some-Example-clause-run g c = λ words.
    let q = c.args.queries.now in
    IsSessionOf-is _ c.args.limit (asked words _ _ _ _ _) _ c.example.result _ _ c.args.command
    (Some (named.Example c.in-Some-Example.kind c.in-Some-Example.size)) (search rules)
    (c.example.ensures.run c.args.limit _ (g.S.Source.left q) (g.S.Source.faults q)
    (g.S.Source.given q))

pub returns-in-Some-Example-clause-memo : goal.returns-in-Some-Example-clause-memo
returns-in-Some-Example-clause-memo g c = λ words.
    IsMemoOf-nothing _ _ c.args.limit (asked words _ _ _ _ _) _ c.args.memo.now c.requires.empty

pub returns-in-Some-Load-clause-run : goal.returns-in-Some-Load-clause-run
returns-in-Some-Load-clause-run g c = λ words.
    let q = c.args.queries.now in
    IsSessionOf-is _ c.args.limit (asked words _ _ _ _ _) _ c.load.result _ _ c.args.command
    (Some (named.Load c.in-Some-Load.rows c.in-Some-Load.count c.in-Some-Load.seed)) (search rules)
    (c.load.ensures.run c.args.limit _ (g.S.Source.left q) (g.S.Source.faults q)
    (g.S.Source.given q))

pub returns-in-Some-Load-clause-memo : goal.returns-in-Some-Load-clause-memo
returns-in-Some-Load-clause-memo g c = λ words.
    IsMemoOf-nothing _ _ c.args.limit (asked words _ _ _ _ _) _ c.args.memo.now c.requires.empty

pub returns-in-None-clause-run : goal.returns-in-None-clause-run
returns-in-None-clause-run g c = λ words.
    let q = c.args.queries.now in
    let left = g.S.Source.left q in
    let faults = g.S.Source.faults q in
    let given = g.S.Source.given q in
    IsSessionOf-is _ c.args.limit (asked words _ _ _ _ _)
    (fed left left faults faults given given) c.refuse.result (g.K.Sink.written c.args.out.now)
    (g.K.Sink.written c.refuse.new.out) c.args.command None c.in-None.is
    (IsRun-usage c.args.limit _ (fed left left faults faults given given) c.refuse.result
    (g.K.Sink.written c.args.out.now) (g.K.Sink.written c.refuse.new.out)
    (record { left = refl; faults = refl; given = refl }) (c.refuse.ensures.ended (λ h. cc)))

pub returns-in-None-clause-memo : goal.returns-in-None-clause-memo
returns-in-None-clause-memo g c = λ words.
    IsMemoOf-nothing _ _ c.args.limit (asked words _ _ _ _ _) _ c.args.memo.now c.requires.empty
