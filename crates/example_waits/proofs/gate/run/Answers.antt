use Rattle.mono_rt.proofs.FuturePollLemmas.{on_main}
use Rattle.mono_rt.proofs.PollableLemmas.{every_turn}
use Rattle.mono_wait.proofs.FoundLemmas.{parks_find}
use Rattle.example_waits.proofs.gate.run.Goals as goal

-- each future of this type can be polled
pub block_on-requires-clause-others : goal.block_on-requires-clause-others
block_on-requires-clause-others g c = every_turn _ _ c.requires.callable

-- each park finds who waits in the line, and so no permit lies idle
pub returns : goal.returns
returns g c = on_main _ _ _ (parks_find (λ w p t is. (is.0, c.no_permit_lies_idle.ensures w.part p t is.1 is.0))) (c.each_park_of_block_on_finds_its_tasks_listed.ensures _ c.args.main c.args.runtime.now c.block_on.new.self c.block_on.ensures.listed)
