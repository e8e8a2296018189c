-- What is done for the command is the session of the words.
use Rattle.std.proofs.Common.{option_map}
use Rattle.session_io.specs.Asked.{texts}
use Rattle.query_session.specs.Commands.{command_of, seen}
use Rattle.query_session.proofs.Filling.{IsMemoAfter-of}
use Rattle.query_session.proofs.Sessions.{IsSession-of, given-bound}
use Rattle.query_session.proofs.within.session_within.Goals as goal

pub returns-clause-run : goal.returns-clause-run
returns-clause-run g c =
    IsSession-of _ c.args.limit _ _ c.perform.result _ _
    (option_map seen c.command_of-command.result) c.command_of-command.ensures
    (c.perform.ensures.run (texts c.args.words.now.items))

pub returns-clause-complete : goal.returns-clause-complete
returns-clause-complete g c = λ p smooth none.
    c.complete_runs.ensures _ c.args.limit _ _ p c.perform.result
    (g.K.Sink.written c.args.out.now) (g.K.Sink.written c.perform.new.out)
    (returns-clause-run g c) smooth (λ w. none (c.perform.ensures.cause w))

pub returns-clause-bound : goal.returns-clause-bound
returns-clause-bound g c =
    given-bound _ (command_of (texts c.args.words.now.items)) c.args.limit _ _ c.perform.result
    (g.K.Sink.written c.args.out.now) (g.K.Sink.written c.perform.new.out)
    (returns-clause-run g c)

pub returns-clause-memo : goal.returns-clause-memo
returns-clause-memo g c =
    IsMemoAfter-of _ c.args.limit _ _ c.perform.new.memo
    (option_map seen c.command_of-command.result) c.command_of-command.ensures
    (c.perform.ensures.memo (texts c.args.words.now.items))
