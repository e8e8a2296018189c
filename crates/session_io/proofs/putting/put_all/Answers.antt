use Rattle.std.proofs.Common.{◌-◌, length, take, drop, sym, take-append-drop, arith, length-drop, length-take}
use Rattle.session_io.specs.Stops.{failed}
use Rattle.session_io.proofs.Appending.{Appends-next, Appends-keeps}
use Rattle.session_io.proofs.putting.put_all.Goals as goal

pub loop-at-preserved : goal.loop-at-preserved
loop-at-preserved g c = (
  omega (
    arith,
    c.in-Ok.ensures.bound,
    length-take (length c.args.bytes.now - c.loop-at.at) (drop c.loop-at.at c.args.bytes.now),
    length-drop c.loop-at.at c.args.bytes.now,
  ),
  Appends-next _ _ _ c.args.bytes.now c.loop-at.at c.in-Ok.count c.loop-at.invariant.1
      c.in-Ok.ensures.bytes,
  omega (arith, c.loop-at.invariant.2, c.in-Ok.ensures.cause.later),
)

pub returns-in-Err-clause-err : goal.returns-in-Err-clause-err
returns-in-Err-clause-err g c =
    failed (take c.loop-at.at c.args.bytes.now) (drop c.loop-at.at c.args.bytes.now)
    (sym (take-append-drop c.loop-at.at c.args.bytes.now))
    (Appends-keeps (g.K.Sink.written c.args.out.now) (g.K.Sink.written c.loop-at.out)
    (g.K.Sink.written c.write.new.self) (take c.loop-at.at c.args.bytes.now)
    c.loop-at.invariant.1 c.in-Err.ensures.bytes)
