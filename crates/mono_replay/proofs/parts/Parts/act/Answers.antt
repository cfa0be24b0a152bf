use Rattle.std.proofs.Common.{◌∙◌, ap, Ok, Err}
use Rattle.std.specs.Prelude.{Result, OnOk}
use Rattle.mono_model.specs.Tasks.{woken}
use Rattle.mono_model.specs.Joins.{join_dropped}
use Rattle.mono_model.specs.SleepActs as sleep
use Rattle.mono_time.specs.Sleeps.{with_removed_sleep}
use Rattle.mono_time.specs.Timers.{sleeps_of, registered_of}
use Rattle.mono_machine.specs.SleepCalls.{gone_reply, elapsed_reply}
use Rattle.mono_machine.proofs.FinishedSetLemmas.{alike_woken, alike_dropped}
use Rattle.mono_replay.proofs.MatchLemmas.{changed}
use Rattle.mono_replay.proofs.TimersLemmas.{other_timers, rests}
use Rattle.mono_time.proofs.SleepTableLemmas.{alike_removed}
use Rattle.mono_time.proofs.RegistrationLemmas.{sleeps-stay, registered-added, registered-removed, block-sleeps}
use Rattle.mono_replay.proofs.parts.Parts.act.Goals as goal

pub returns-in-Wake-clause-matches : goal.returns-in-Wake-clause-matches
returns-in-Wake-clause-matches c = λ m st. rw c.in-Wake.is (changed c.args.self.now m c.wake.new.self (λ x. woken x c.in-Wake.t) st c.wake.ensures.after (alike_woken m.tasks c.in-Wake.t))

pub returns-in-DropSleep-clause-reply : goal.returns-in-DropSleep-clause-reply
returns-in-DropSleep-clause-reply c = λ m st. rw c.in-DropSleep.is (c.gone_reply.ensures ∙ ap gone_reply (c.remove.ensures.stands m.sleeps st.sleeps.keeps.stands).0)

pub returns-in-DropSleep-clause-matches : goal.returns-in-DropSleep-clause-matches
returns-in-DropSleep-clause-matches c = λ m st.
    let old = c.args.self.now.timers in
    let s = c.in-DropSleep.s in
    rw c.in-DropSleep.is (other_timers c.args.self.now m c.remove.new.self (sleep.removed m.sleeps s) st
    (rests old c.remove.new.self m.sleeps (sleep.removed m.sleeps s) (with_removed_sleep (sleeps_of old) s) st.sleeps c.remove.ensures.sleeps (alike_removed (sleeps_of old) s) c.remove.ensures.elapsed (c.remove.ensures.stands m.sleeps st.sleeps.keeps.stands).1))

pub returns-in-SleepElapsed-clause-reply : goal.returns-in-SleepElapsed-clause-reply
returns-in-SleepElapsed-clause-reply c = λ m st. rw c.in-SleepElapsed.is (c.elapsed_reply.ensures ∙ ap elapsed_reply (c.is_elapsed.ensures.stands m.sleeps st.sleeps.keeps.stands))

pub returns-in-DropJoin-clause-matches : goal.returns-in-DropJoin-clause-matches
returns-in-DropJoin-clause-matches c = λ m st. rw c.in-DropJoin.is (changed c.args.self.now m c.drop_join.new.self (λ x. join_dropped x c.in-DropJoin.t) st c.drop_join.ensures.after (alike_dropped m.tasks c.in-DropJoin.t))

always : {T E P : Type 0} (r : Result T E) → P → OnOk r P
always (Ok x) p = p
always (Err e) p = tt

pub returns-in-NewSleep-clause-registered : goal.returns-in-NewSleep-clause-registered
returns-in-NewSleep-clause-registered c = always c.new_sleep.result (λ m st none.
    rw c.in-NewSleep.is (registered-added c.args.self.now.timers c.new_sleep.new.self.timers m c.in-NewSleep.n c.new_sleep.ensures.registered))

pub returns-in-DropSleep-clause-registered : goal.returns-in-DropSleep-clause-registered
returns-in-DropSleep-clause-registered c = λ m st none.
    rw c.in-DropSleep.is (registered-removed c.args.self.now.timers c.remove.new.self m.sleeps st.sleeps.keeps.stands c.in-DropSleep.s c.remove.ensures.registered)

pub returns-in-Block-clause-registered : goal.returns-in-Block-clause-registered
returns-in-Block-clause-registered c = always c.block.result (λ m st none.
    rw c.in-Block.is (sleeps-stay c.args.self.now.timers c.block.new.self.timers m.sleeps _ (block-sleeps c.in-Block.output m) (λ q. ap (λ t. registered_of t q) c.block.ensures.timers)))
