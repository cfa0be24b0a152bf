use Rattle.std.proofs.Common.{refl, ◌∙◌}
use Rattle.mono_blocking.specs.JobSpawns.{strategy_of}
use Rattle.mono_machine.specs.Machine.{start_machine}
use Rattle.mono_rt.specs.DriverReadings.{telling}
use Rattle.mono_rt.proofs.DriverLemmas.{same_told}
use Rattle.mono_rt.specs.Stores.{store_of}
use Rattle.mono_rt.proofs.FuturePollLemmas.{new_store}
use Rattle.mono_rt.proofs.StartLemmas.{same_start, none_made, runs_from}
use Rattle.mono_rt.specs.Reaches.{IsAligned, sharing_nothing}
use Rattle.mono_rt.proofs.PossibleAnswerLemmas.{ok_given}
use Rattle.mono_rt.proofs.PollableLemmas.{turn_new}
use Rattle.mono_rt.proofs.builder.start.Goals as goal

pub returns-in-Err-clause-history : goal.returns-in-Err-clause-history
returns-in-Err-clause-history g c = none_made g.O.Outcome.output_number sharing_nothing g.F.TaskFuture _ _ _ _ _ _

pub returns-in-Ok-clause-history : goal.returns-in-Ok-clause-history
returns-in-Ok-clause-history g c =
    let made = c.in-Ok.runtime in
    let left = c.block_on.new.self in
    let built = c.new-builder.result in
    runs_from g.O.Outcome.output_number sharing_nothing g.F.TaskFuture made.cx.parts.has_timers _ c.args.turns c.args.future tt (store_of made.cx) (store_of left.cx) c.block_on.result
    (start_machine built.limits (strategy_of built.pool)) _
    (telling (g.D.Clock.readings made.driver) (g.D.Clock.time made.driver) (g.D.Clock.parks made.driver) (g.D.Clock.submits made.driver) (g.D.Clock.faults made.driver) (g.D.Clock.can_fail made.driver)) _ _
    made.cx.parts left.cx.parts made.journal left.journal
    c.in-Ok.ensures.timers
    (same_start built.limits _ built.pool _ c.new-builder.ensures.limits c.new-builder.ensures.pool)
    (same_told g.D.Clock.readings g.D.Clock.time g.D.Clock.parks g.D.Clock.submits g.D.Clock.faults g.D.Clock.can_fail (c.in-Ok.ensures.driver ∙ c.new-builder.ensures.driver))
    (new_store made.cx tt c.in-Ok.ensures.futures refl) c.in-Ok.ensures.stands c.in-Ok.ensures.history c.in-Ok.ensures.registered c.block_on.ensures.blocked c.block_on.ensures.told c.block_on.ensures.polled c.block_on.ensures.still_polled

pub returns-in-Ok-clause-given : goal.returns-in-Ok-clause-given
returns-in-Ok-clause-given g c = ok_given (IsAligned c.in-Ok.runtime.cx) (g.F.TaskFuture.gives c.args.future) c.block_on.result c.in-Ok.ensures.aligned c.block_on.ensures.given

pub block_on-requires-clause-others : goal.block_on-requires-clause-others
block_on-requires-clause-others g c = turn_new g.F.TaskFuture c.in-Ok.runtime.cx c.in-Ok.ensures.futures c.requires.others c.in-Ok.ensures.aligned
