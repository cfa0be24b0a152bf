use Rattle.std.proofs.Common.{◌-◌, length, arith, ◌∙◌}
use Rattle.mono_rt.proofs.DrainLemmas.{remotes_more, listed_more}
use Rattle.mono_rt.proofs.parts.drains.Parts+O+Blockings+P.tell_remotes.Goals as goal

pub loop-t-preserved : goal.loop-t-preserved
loop-t-preserved g c =
    let before = c.loop-t.invariant in
    let told = c.tell_remote.ensures in
    let taken = c.args.taken.now in
    let tasks = c.args.self.now.tasks.tasks in
    let i = c.loop-t.t-index in
    let journal = c.loop-t.journal in (
      told.full ∙ before.0,
      remotes_more tasks taken i 0 journal.history.entries _ _ c.loop-t-test.true told.history before.1,
      listed_more tasks taken i 0 c.loop-t.into.items _ _ c.loop-t-test.true told.listed before.2,
      omega (arith, c.loop-t-test.true),
      omega (arith, c.loop-t-test.true, told.places (length taken - i) (omega (arith, c.loop-t-test.true, before.4))),
      omega (arith, c.loop-t-test.true, told.len, told.capacity, before.5),
      told.held ∙ before.6,
    )
