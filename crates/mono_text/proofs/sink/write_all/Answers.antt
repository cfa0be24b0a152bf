use Rattle.std.proofs.Common.{arith}
use Rattle.std.proofs.Common.{length-drop, ◌≤◌, ◌∙◌, length, drop}
use Rattle.mono_text.proofs.EnvironmentLemmas.{write_on}
use Rattle.mono_text.proofs.sink.write_all.Goals as goal

pub loop-done-preserved : goal.loop-done-preserved
loop-done-preserved g c =
    let n = c.in_ok-done.field-0 in
    let within : n ≤ length (drop c.loop-done.done c.args.bytes.now) = rw c.rest_of.ensures at c.in_ok-done.ensures.within in (
      omega (arith, c.loop-done-test.true, length-drop c.loop-done.done c.args.bytes.now, within),
      write_on (g.K.Sink.written c.args.sink.now) (g.K.Sink.written c.loop-done.sink) (g.K.Sink.written c.write.new.self) c.args.bytes.now c.loop-done.done n c.loop-done.invariant.1 (rw c.rest_of.ensures at c.in_ok-done.ensures.bytes),
      c.in_ok-done.ensures.cause ∙ c.loop-done.invariant.2,
    )
