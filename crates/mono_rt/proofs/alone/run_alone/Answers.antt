use Rattle.std.proofs.Common.{true, [], refl, subst}
use Rattle.mono_machine.specs.Machine.{Machine, start_machine}
use Rattle.mono_blocking.specs.JobSpawns.{strategy_of}
use Rattle.mono_rt.specs.Numbering.{answer_numbered}
use Rattle.mono_rt.specs.Rounds.{Blocked}
use Rattle.mono_rt.proofs.JournalLemmas.{goes_of, run_of, registers_of}
use Rattle.mono_rt.proofs.RoundLemmas.{relation_of}
use Rattle.mono_rt.specs.DriverReadings.{IsTold, telling}
use Rattle.mono_rt.proofs.DriverLemmas.{told_in}
use Rattle.mono_rt.specs.Stores.{store_of}
use Rattle.mono_rt.proofs.FuturePollLemmas.{new_store, polls_whole, still_whole}
use Rattle.mono_rt.proofs.JournalRoomLemmas.{one_long}
use Rattle.mono_rt.specs.Reaches.{IsAligned, sharing_nothing}
use Rattle.mono_rt.proofs.PossibleAnswerLemmas.{aligned_new, ok_given}
use Rattle.mono_rt.proofs.PollableLemmas.{turn_new}
use Rattle.mono_rt.proofs.alone.run_alone.Goals as goal

pub returns : goal.returns
returns g c =
    let number = g.O.Outcome.output_number in
    let made = c.in_ok-runtime.runtime in
    let left = c.block_on-answer.new.self in
    let m = start_machine c.args.limits (strategy_of c.args.pool) in
    let answer = answer_numbered number c.block_on-answer.result in
    let told = Blocked made.cx.parts.has_timers c.args.turns answer in
    let aligned : IsAligned made.cx = aligned_new number made.cx m c.in_ok-runtime.ensures.stands refl c.in_ok-runtime.ensures.futures in
    record {
      given = ok_given (IsAligned made.cx) (g.F.TaskFuture.gives c.args.future) c.block_on-answer.result aligned c.block_on-answer.ensures.given;
      blocked = subst (λ h. (new : Machine) × Blocked h c.args.turns answer m c.into_journal.result.history.entries new []) c.in_ok-runtime.ensures.timers
          (relation_of number told made.cx.parts left.cx.parts made.journal left.journal c.into_journal.result m c.in_ok-runtime.ensures.stands c.in_ok-runtime.ensures.history c.into_journal.ensures c.block_on-answer.ensures.blocked);
      told = subst (λ d. IsTold c.block_on-answer.result (telling (g.D.Clock.readings d) (g.D.Clock.time d) (g.D.Clock.parks d) (g.D.Clock.submits d) (g.D.Clock.faults d) (g.D.Clock.can_fail d)) c.into_journal.result.history.entries) c.in_ok-runtime.ensures.driver
          (told_in c.into_journal.result c.in_ok-runtime.ensures.history c.into_journal.ensures c.block_on-answer.ensures.told);
      parks = registers_of number made.cx.parts left.cx.parts made.journal left.journal c.into_journal.result m c.in_ok-runtime.ensures.stands c.in_ok-runtime.ensures.history c.into_journal.ensures c.in_ok-runtime.ensures.registered (goes_of number told made.cx.parts left.cx.parts made.journal left.journal c.block_on-answer.ensures.blocked);
      run = run_of number made.cx.parts left.cx.parts made.journal left.journal c.into_journal.result m c.in_ok-runtime.ensures.stands c.in_ok-runtime.ensures.history c.into_journal.ensures (goes_of number told made.cx.parts left.cx.parts made.journal left.journal c.block_on-answer.ensures.blocked);
      polled = polls_whole number sharing_nothing g.F.TaskFuture c.args.future tt made.cx.parts.has_timers true (store_of made.cx) (store_of left.cx) made.cx.parts left.cx.parts made.journal left.journal c.into_journal.result m m c.block_on-answer.result
          c.in_ok-runtime.ensures.timers (new_store made.cx tt c.in_ok-runtime.ensures.futures refl) refl c.in_ok-runtime.ensures.stands c.in_ok-runtime.ensures.history c.into_journal.ensures c.block_on-answer.ensures.polled;
      still_polled = still_whole number sharing_nothing g.F.TaskFuture c.args.future tt made.cx.parts.has_timers true (store_of made.cx) (store_of left.cx) made.cx.parts left.cx.parts made.journal left.journal c.into_journal.result m m c.block_on-answer.result
          c.in_ok-runtime.ensures.timers (new_store made.cx tt c.in_ok-runtime.ensures.futures refl) refl c.in_ok-runtime.ensures.stands c.in_ok-runtime.ensures.history c.into_journal.ensures c.block_on-answer.ensures.still_polled;
      full = one_long number sharing_nothing g.F.TaskFuture made.cx made.journal left.journal c.into_journal.result c.in_ok-runtime.ensures.unfull c.into_journal.ensures c.block_on-answer.ensures.full;
    }

pub block_on-answer-requires-clause-others : goal.block_on-answer-requires-clause-others
block_on-answer-requires-clause-others g c =
    let made = c.in_ok-runtime.runtime in
    turn_new g.F.TaskFuture made.cx c.in_ok-runtime.ensures.futures c.requires.others
    (aligned_new g.O.Outcome.output_number made.cx (start_machine c.args.limits (strategy_of c.args.pool)) c.in_ok-runtime.ensures.stands refl c.in_ok-runtime.ensures.futures)
