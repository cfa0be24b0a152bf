use Rattle.std.proofs.Common.{arith, inl, inr, false, true, ◌≡◌, Option, Some, None, refl, ap, ◌∙◌, sym}
use Rattle.std.specs.Prelude.{⊤}
use Rattle.std.specs.Option.{option_map}
use Rattle.mono_rt.specs.Rounds.{IsSpawn}
use Rattle.mono_rt.proofs.JournalLemmas.{goes_of}
use Rattle.mono_rt.proofs.RoundLemmas.{does_more, blocks_by, blocks_done, blocks_refused}
use Rattle.mono_rt.proofs.DriverLemmas.{telling_more, capacity_ends, so_after, so_by, so_error, so_past, so_value}
use Rattle.std.proofs.Common.{Err, subst}
use Rattle.mono_rt.specs.Journals.{Does, Stays}
use Rattle.mono_rt.specs.Stores.{store_of}
use Rattle.mono_rt.specs.FuturePolls.{PollingBy, PollsMainBy, StillPollsMain}
use Rattle.mono_rt.proofs.FuturePollLemmas.{made_store, on_main, polls_on, polls_drop, polls_main, lasted_main, lacked_main, none_lacked, none_made}
use Rattle.mono_rt.proofs.JournalRoomLemmas.{fills_on, fills_not, fills_still}
use Rattle.mono_rt.proofs.ListedTaskLemmas.{does_listed_main}
use Rattle.mono_rt.proofs.FaultLemmas.{capacity_faults, faults_after}
use Rattle.mono_rt.specs.Outputs.{AddsNone}
use Rattle.mono_rt.proofs.EndedTaskLemmas.{if_main}
use Rattle.mono_rt.specs.EndedTasks.{closed_in}
use Rattle.mono_rt.proofs.ClosedTaskLemmas.{closes_unmade, retired_main, all_unknown}
use Rattle.mono_rt.proofs.PlaceLemmas.{placed, same_answer, same_refusal, not_refused}
use Rattle.mono_rt.proofs.StrategyLemmas.{same_strategy}
use Rattle.mono_rt.proofs.OutputLemmas.{adds_itself, adds_dropped, output_dropped}
use Rattle.mono_rt.proofs.PossibleAnswerLemmas.{aligned_spawned, no_more_on, no_more_by, no_more_spawned, given_later}
use Rattle.mono_rt.proofs.PollableLemmas.{turn_same, turn_with}
use Rattle.mono_rt.proofs.TurnCountLemmas.{counts_on, counts_spawn, counts_drop, counts_unmade}
use Rattle.mono_rt.proofs.runtimes.Runtime.block_on.Goals as goal

false-true : false ≡ true → ⊥
false-true e = cc

-- if the main task has its output, the drop of its handle gives it
none_given : {A : Type 0} (v : Option A) (x : A) → v ≡ None → v ≡ Some x → ⊥
none_given v x none given = cc

pub unreachable-requires : goal.unreachable-requires
unreachable-requires g c =
    let given = rw c.in-Ok-answer.is at c.run-answer.ensures.given in
    none_given c.end_main-output.result given.0 c.in-None.is (c.end_main-output.ensures.output given.0 given.1)

pub returns-in-Err-clause-blocked : goal.returns-in-Err-clause-blocked
returns-in-Err-clause-blocked g c =
    blocks_refused g.O.Outcome.output_number c.in-Err.error c.args.self.now.cx.parts.has_timers c.args.turns c.args.self.now.cx.parts c.start_main.new.self.cx.parts c.args.self.now.journal c.start_main.new.self.journal c.in-Err.ensures.none.stays c.in-Err.ensures.none.refused

pub returns-in-Err-answer-clause-blocked : goal.returns-in-Err-answer-clause-blocked
returns-in-Err-answer-clause-blocked g c =
    let number = g.O.Outcome.output_number in
    let old = c.args.self.now in
    let started = c.start_main.new.self in
    let ran = c.run-answer.new.self in
    let ended = c.end_main-output.new.self in
    let last = c.end_main-output.new.journal in
    blocks_by number c.in-Err-answer.error old.cx.parts.has_timers started.cx.parts.has_timers c.in-Ok.main c.args.turns (option_map number c.end_main-output.result) old.cx.parts started.cx.parts ran.cx.parts ended old.journal started.journal ran.journal last
    c.start_main.ensures.has_timers c.in-Ok.ensures.made.spawn (rw c.in-Err-answer.is at c.run-answer.ensures.ends) c.end_main-output.ensures.dropped

pub returns-in-Some-clause-blocked : goal.returns-in-Some-clause-blocked
returns-in-Some-clause-blocked g c =
    let number = g.O.Outcome.output_number in
    let old = c.args.self.now in
    let started = c.start_main.new.self in
    let ran = c.run-answer.new.self in
    let ended = c.end_main-output.new.self in
    let last = c.end_main-output.new.journal in
    blocks_done number (number c.in-Some.output) old.cx.parts.has_timers started.cx.parts.has_timers c.in-Ok.main c.args.turns old.cx.parts started.cx.parts ran.cx.parts ended old.journal started.journal ran.journal last
    c.start_main.ensures.has_timers c.in-Ok.ensures.made.spawn (rw c.in-Ok-answer.is at c.run-answer.ensures.ends) (rw c.in-Some.is at c.end_main-output.ensures.dropped)

pub returns-in-Err-clause-told : goal.returns-in-Err-clause-told
returns-in-Err-clause-told g c = so_by (telling_more (λ x e. capacity_ends _ c.in-Err.error x _ c.in-Err.ensures.none.refused e) c.start_main.ensures.told)

pub returns-in-Err-answer-clause-told : goal.returns-in-Err-answer-clause-told
returns-in-Err-answer-clause-told g c = so_error (so_past (so_after c.start_main.ensures.told (rw c.in-Err-answer.is at c.run-answer.ensures.went.told)) c.end_main-output.ensures.told)

pub returns-in-Some-clause-told : goal.returns-in-Some-clause-told
returns-in-Some-clause-told g c = so_value (so_past (so_after c.start_main.ensures.told (rw c.in-Ok-answer.is at c.run-answer.ensures.went.told)) c.end_main-output.ensures.told)

pub returns-in-Err-clause-full : goal.returns-in-Err-clause-full
returns-in-Err-clause-full g c = fills_not g.O.Outcome.output_number g.W.SharedState g.F.TaskFuture c.args.self.now.cx c.args.self.now.journal c.start_main.new.self.journal c.start_main.ensures.full

pub returns-in-Err-answer-clause-full : goal.returns-in-Err-answer-clause-full
returns-in-Err-answer-clause-full g c =
    let number = g.O.Outcome.output_number in
    let old = c.args.self.now in
    let started = c.start_main.new.self in
    let ran = c.run-answer.new.self in
    (fills_still number g.W.SharedState g.F.TaskFuture old.cx old.journal ran.journal c.end_main-output.new.journal
    (fills_on number g.W.SharedState g.F.TaskFuture old.cx started.cx old.journal started.journal ran.journal (goes_of number (IsSpawn c.in-Ok.main) old.cx.parts started.cx.parts old.journal started.journal c.in-Ok.ensures.made.spawn) (fills_not number g.W.SharedState g.F.TaskFuture old.cx old.journal started.journal c.start_main.ensures.full) c.run-answer.ensures.went.full)
    c.end_main-output.ensures.full)

pub returns-in-Some-clause-full : goal.returns-in-Some-clause-full
returns-in-Some-clause-full g c =
    let number = g.O.Outcome.output_number in
    let old = c.args.self.now in
    let started = c.start_main.new.self in
    let ran = c.run-answer.new.self in
    fills_still number g.W.SharedState g.F.TaskFuture old.cx old.journal ran.journal c.end_main-output.new.journal
    (fills_on number g.W.SharedState g.F.TaskFuture old.cx started.cx old.journal started.journal ran.journal (goes_of number (IsSpawn c.in-Ok.main) old.cx.parts started.cx.parts old.journal started.journal c.in-Ok.ensures.made.spawn) (fills_not number g.W.SharedState g.F.TaskFuture old.cx old.journal started.journal c.start_main.ensures.full) c.run-answer.ensures.went.full)
    c.end_main-output.ensures.full

pub returns-in-Err-clause-polled : goal.returns-in-Err-clause-polled
returns-in-Err-clause-polled g c = none_made ⊤ c.in-Err.error _ _ c.in-Err.ensures.none.refused

pub returns-in-Err-answer-clause-polled : goal.returns-in-Err-answer-clause-polled
returns-in-Err-answer-clause-polled g c =
    let number = g.O.Outcome.output_number in
    let old = c.args.self.now in
    let started = c.start_main.new.self in
    let ran = c.run-answer.new.self in
    let ended = c.end_main-output.new.self in
    let last = c.end_main-output.new.journal in
    let h = old.cx.parts.has_timers in
    lasted_main {X = ⊤} (Err c.in-Err-answer.error) _ (λ lasts.
    (polls_main number g.W.SharedState g.F.TaskFuture h true c.args.future c.in-Ok.main (store_of old.cx) (store_of started.cx) (store_of ran.cx) old.cx.parts started.cx.parts ended old.journal started.journal last (made_store old.cx started.cx c.args.future c.in-Ok.ensures.made.futures c.start_main.ensures.shared) c.in-Ok.ensures.made.spawn
    (polls_on number g.W.SharedState g.F.TaskFuture h true (store_of started.cx) (store_of ran.cx) (store_of ran.cx) started.cx.parts ran.cx.parts ended started.journal ran.journal last
    (subst (λ b. Does number (PollingBy number g.W.SharedState g.F.TaskFuture b true (store_of started.cx) (store_of ran.cx)) started.cx.parts ran.cx.parts started.journal ran.journal) c.start_main.ensures.has_timers ((rw c.in-Err-answer.is at c.run-answer.ensures.went.polled) true (λ is. lasts)))
    (polls_drop number g.W.SharedState g.F.TaskFuture h true (store_of ran.cx) (store_of ran.cx) c.in-Ok.main (option_map number c.end_main-output.result) ran.cx.parts ended ran.journal last refl c.end_main-output.ensures.dropped))))

pub returns-in-Some-clause-polled : goal.returns-in-Some-clause-polled
returns-in-Some-clause-polled g c =
    let number = g.O.Outcome.output_number in
    let old = c.args.self.now in
    let started = c.start_main.new.self in
    let ran = c.run-answer.new.self in
    let ended = c.end_main-output.new.self in
    let last = c.end_main-output.new.journal in
    let h = old.cx.parts.has_timers in
    polls_main number g.W.SharedState g.F.TaskFuture h true c.args.future c.in-Ok.main (store_of old.cx) (store_of started.cx) (store_of ran.cx) old.cx.parts started.cx.parts ended old.journal started.journal last (made_store old.cx started.cx c.args.future c.in-Ok.ensures.made.futures c.start_main.ensures.shared) c.in-Ok.ensures.made.spawn
    (polls_on number g.W.SharedState g.F.TaskFuture h true (store_of started.cx) (store_of ran.cx) (store_of ran.cx) started.cx.parts ran.cx.parts ended started.journal ran.journal last
    (subst (λ b. Does number (PollingBy number g.W.SharedState g.F.TaskFuture b true (store_of started.cx) (store_of ran.cx)) started.cx.parts ran.cx.parts started.journal ran.journal) c.start_main.ensures.has_timers ((rw c.in-Ok-answer.is at c.run-answer.ensures.went.polled) true (λ is. tt)))
    (polls_drop number g.W.SharedState g.F.TaskFuture h true (store_of ran.cx) (store_of ran.cx) c.in-Ok.main (option_map number c.end_main-output.result) ran.cx.parts ended ran.journal last refl c.end_main-output.ensures.dropped))

pub returns-in-Err-clause-listed : goal.returns-in-Err-clause-listed
returns-in-Err-clause-listed g c = none_made ⊤ c.in-Err.error _ _ c.in-Err.ensures.none.refused

pub returns-in-Err-answer-clause-listed : goal.returns-in-Err-answer-clause-listed
returns-in-Err-answer-clause-listed g c =
    let old = c.args.self.now in
    let ran = c.run-answer.new.self in
    on_main {X = ⊤} (Err c.in-Err-answer.error) _ _
    (does_listed_main g.O.Outcome.output_number g.W.SharedState g.F.TaskFuture old.cx.parts.has_timers true c.args.future (store_of old.cx) (store_of ran.cx) old.cx.parts c.end_main-output.new.self old.journal c.end_main-output.new.journal)
    (returns-in-Err-answer-clause-polled g c)

pub returns-in-Some-clause-listed : goal.returns-in-Some-clause-listed
returns-in-Some-clause-listed g c =
    let old = c.args.self.now in
    let ran = c.run-answer.new.self in
    does_listed_main g.O.Outcome.output_number g.W.SharedState g.F.TaskFuture old.cx.parts.has_timers true c.args.future (store_of old.cx) (store_of ran.cx) old.cx.parts c.end_main-output.new.self old.journal c.end_main-output.new.journal
    (returns-in-Some-clause-polled g c)

pub returns-in-Err-clause-still_polled : goal.returns-in-Err-clause-still_polled
returns-in-Err-clause-still_polled g c =
    let number = g.O.Outcome.output_number in
    let old = c.args.self.now in
    let started = c.start_main.new.self in
    none_lacked ⊤ c.in-Err.error _ _
    (does_more number Stays (StillPollsMain number g.W.SharedState g.F.TaskFuture old.cx.parts.has_timers c.args.future (store_of old.cx) (store_of started.cx)) old.cx.parts started.cx.parts old.journal started.journal (λ m new xs zs stm stn is. inl is))
    c.in-Err.ensures.none.stays

pub returns-in-Err-answer-clause-still_polled : goal.returns-in-Err-answer-clause-still_polled
returns-in-Err-answer-clause-still_polled g c =
    let number = g.O.Outcome.output_number in
    let old = c.args.self.now in
    let started = c.start_main.new.self in
    let ran = c.run-answer.new.self in
    let ended = c.end_main-output.new.self in
    let last = c.end_main-output.new.journal in
    let h = old.cx.parts.has_timers in
    lacked_main {X = ⊤} (Err c.in-Err-answer.error) _
    (does_more number (PollsMainBy number g.W.SharedState g.F.TaskFuture h false c.args.future (store_of old.cx) (store_of ran.cx)) (StillPollsMain number g.W.SharedState g.F.TaskFuture h c.args.future (store_of old.cx) (store_of ran.cx)) old.cx.parts ended old.journal last (λ m new xs zs stm stn is. inr is)
    (polls_main number g.W.SharedState g.F.TaskFuture h false c.args.future c.in-Ok.main (store_of old.cx) (store_of started.cx) (store_of ran.cx) old.cx.parts started.cx.parts ended old.journal started.journal last (made_store old.cx started.cx c.args.future c.in-Ok.ensures.made.futures c.start_main.ensures.shared) c.in-Ok.ensures.made.spawn
    (polls_on number g.W.SharedState g.F.TaskFuture h false (store_of started.cx) (store_of ran.cx) (store_of ran.cx) started.cx.parts ran.cx.parts ended started.journal ran.journal last
    (subst (λ b. Does number (PollingBy number g.W.SharedState g.F.TaskFuture b false (store_of started.cx) (store_of ran.cx)) started.cx.parts ran.cx.parts started.journal ran.journal) c.start_main.ensures.has_timers (c.run-answer.ensures.went.polled false (λ is. absurd (false-true is))))
    (polls_drop number g.W.SharedState g.F.TaskFuture h false (store_of ran.cx) (store_of ran.cx) c.in-Ok.main (option_map number c.end_main-output.result) ran.cx.parts ended ran.journal last refl c.end_main-output.ensures.dropped))))

pub returns-in-Err-clause-faults : goal.returns-in-Err-clause-faults
returns-in-Err-clause-faults g c = capacity_faults _ c.in-Err.error _ _ c.in-Err.ensures.none.refused c.start_main.ensures.faults

pub returns-in-Err-answer-clause-faults : goal.returns-in-Err-answer-clause-faults
returns-in-Err-answer-clause-faults g c = faults_after c.in-Err-answer.error _ _ _ c.start_main.ensures.faults (rw c.in-Err-answer.is at c.run-answer.ensures.went.faults)

pub returns-in-Some-clause-faults : goal.returns-in-Some-clause-faults
returns-in-Some-clause-faults g c = (rw c.in-Ok-answer.is at c.run-answer.ensures.went.faults) ∙ c.start_main.ensures.faults

pub returns-in-Err-answer-clause-place : goal.returns-in-Err-answer-clause-place
returns-in-Err-answer-clause-place g c = placed ⊤ ⊤ c.in-Err-answer.error _ _ c.in-Ok.ensures.place (rw c.in-Err-answer.is at c.run-answer.ensures.went.placed)

pub returns-in-Err-clause-place : goal.returns-in-Err-clause-place
returns-in-Err-clause-place g c = same_answer ⊤ ⊤ c.in-Err.error _ _ c.in-Err.ensures.place

pub returns-in-Err-clause-untouched : goal.returns-in-Err-clause-untouched
returns-in-Err-clause-untouched g c = same_refusal ⊤ ⊤ c.in-Err.error _ c.in-Err.ensures.untouched

pub returns-in-Err-answer-clause-untouched : goal.returns-in-Err-answer-clause-untouched
returns-in-Err-answer-clause-untouched g c = not_refused ⊤ ⊤ c.in-Err-answer.error _ (rw c.in-Err-answer.is at c.run-answer.ensures.went.placed)

pub returns-in-Err-clause-strategy : goal.returns-in-Err-clause-strategy
returns-in-Err-clause-strategy g c = same_strategy g.O.Outcome.output_number _ _ _ _ _ (returns-in-Err-clause-blocked g c)

pub returns-in-Err-answer-clause-strategy : goal.returns-in-Err-answer-clause-strategy
returns-in-Err-answer-clause-strategy g c = same_strategy g.O.Outcome.output_number _ _ _ _ _ (returns-in-Err-answer-clause-blocked g c)

pub returns-in-Some-clause-strategy : goal.returns-in-Some-clause-strategy
returns-in-Some-clause-strategy g c = same_strategy g.O.Outcome.output_number _ _ _ _ _ (returns-in-Some-clause-blocked g c)

-- the output that was taken is the one that was there
same_output : {A : Type 0} (v : Option A) (x y : A) → v ≡ Some x → v ≡ Some y → x ≡ y
same_output v x y p q = cc

pub returns-in-Some-clause-given : goal.returns-in-Some-clause-given
returns-in-Some-clause-given g c = λ aligned.
    let gives = g.F.TaskFuture.gives in
    let old = c.args.self.now in
    let started = c.start_main.new.self in
    let ran = c.run-answer.new.self in
    let there = rw c.in-Ok-answer.is at c.run-answer.ensures.given in
    let is = same_output c.end_main-output.result there.0 c.in-Some.output (c.end_main-output.ensures.output there.0 there.1) c.in-Some.is in
    subst (gives c.args.future) is
    (given_later gives old.cx started.cx c.args.future c.in-Ok.ensures.made.tasks c.in-Ok.ensures.made.futures c.in-Ok.main c.in-Ok.ensures.made.is_next aligned ran.cx there.0 c.run-answer.ensures.went.answers (output_dropped ran.cx.parts.tasks.tasks c.in-Ok.main there.0 there.1))

pub returns-in-Err-clause-answers : goal.returns-in-Err-clause-answers
returns-in-Err-clause-answers g c =
    let old = c.args.self.now in
    let started = c.start_main.new.self in
    no_more_by g.F.TaskFuture.gives old.cx started.cx (subst (AddsNone old.cx.parts.tasks.tasks) (sym c.in-Err.ensures.none.tasks) (adds_itself old.cx.parts.tasks.tasks)) c.in-Err.ensures.none.futures

pub returns-in-Err-answer-clause-answers : goal.returns-in-Err-answer-clause-answers
returns-in-Err-answer-clause-answers g c =
    let gives = g.F.TaskFuture.gives in
    let old = c.args.self.now in
    let started = c.start_main.new.self in
    let ran = c.run-answer.new.self in
    no_more_on gives old.cx started.cx _ (no_more_spawned gives old.cx started.cx c.args.future c.in-Ok.ensures.made.tasks c.in-Ok.ensures.made.futures)
    (no_more_on gives started.cx ran.cx _ c.run-answer.ensures.went.answers
    (no_more_by gives ran.cx _ (subst (AddsNone ran.cx.parts.tasks.tasks) (sym c.end_main-output.ensures.left) (adds_dropped ran.cx.parts.tasks.tasks c.in-Ok.main)) refl))

pub returns-in-Some-clause-answers : goal.returns-in-Some-clause-answers
returns-in-Some-clause-answers g c =
    let gives = g.F.TaskFuture.gives in
    let old = c.args.self.now in
    let started = c.start_main.new.self in
    let ran = c.run-answer.new.self in
    no_more_on gives old.cx started.cx _ (no_more_spawned gives old.cx started.cx c.args.future c.in-Ok.ensures.made.tasks c.in-Ok.ensures.made.futures)
    (no_more_on gives started.cx ran.cx _ c.run-answer.ensures.went.answers
    (no_more_by gives ran.cx _ (subst (AddsNone ran.cx.parts.tasks.tasks) (sym c.end_main-output.ensures.left) (adds_dropped ran.cx.parts.tasks.tasks c.in-Ok.main)) refl))

pub returns-in-Err-clause-retired : goal.returns-in-Err-clause-retired
returns-in-Err-clause-retired g c = none_made ⊤ c.in-Err.error _ _ c.in-Err.ensures.none.refused

pub returns-in-Err-answer-clause-retired : goal.returns-in-Err-answer-clause-retired
returns-in-Err-answer-clause-retired g c = if_main ⊤ c.in-Err-answer.error _ (record {
  unknown = retired_main g.O.Outcome.output_number (option_map g.O.Outcome.output_number c.end_main-output.result) c.in-Ok.main c.args.self.now c.start_main.new.self c.run-answer.new.self _ c.end_main-output.new.self c.end_main-output.new.journal
      c.start_main.ensures.wakers c.in-Ok.ensures.made.spawn c.run-answer.ensures.went.closes c.retire_ended.ensures.retired c.end_main-output.ensures.dropped;
  none = c.retire_ended.ensures.none;
})

pub returns-in-Some-clause-retired : goal.returns-in-Some-clause-retired
returns-in-Some-clause-retired g c = record {
  unknown = retired_main g.O.Outcome.output_number (option_map g.O.Outcome.output_number c.end_main-output.result) c.in-Ok.main c.args.self.now c.start_main.new.self c.run-answer.new.self _ c.end_main-output.new.self c.end_main-output.new.journal
      c.start_main.ensures.wakers c.in-Ok.ensures.made.spawn c.run-answer.ensures.went.closes c.retire_ended.ensures.retired c.end_main-output.ensures.dropped;
  none = c.retire_ended.ensures.none;
}

-- those that ended in the loop, also if memory ran out
pub returns-in-Err-clause-closed : goal.returns-in-Err-clause-closed
returns-in-Err-clause-closed g c =
    closes_unmade g.O.Outcome.output_number _ _ (ap (λ w. closed_in w.retired.entries w.ended.items) c.start_main.ensures.wakers) c.in-Err.error c.args.self.now.cx.parts c.start_main.new.self.cx.parts c.args.self.now.journal c.start_main.new.self.journal
    c.in-Err.ensures.none.refused c.in-Err.ensures.none.stays

pub returns-in-Err-answer-clause-closed : goal.returns-in-Err-answer-clause-closed
returns-in-Err-answer-clause-closed g c =
    retired_main g.O.Outcome.output_number (option_map g.O.Outcome.output_number c.end_main-output.result) c.in-Ok.main c.args.self.now c.start_main.new.self c.run-answer.new.self _ c.end_main-output.new.self c.end_main-output.new.journal
    c.start_main.ensures.wakers c.in-Ok.ensures.made.spawn c.run-answer.ensures.went.closes (all_unknown c.retire_ended.new.self.retired.entries c.retire_ended.new.self.ended.items c.retire_ended.ensures.none ∙ c.retire_ended.ensures.retired) c.end_main-output.ensures.dropped

pub returns-in-Some-clause-closed : goal.returns-in-Some-clause-closed
returns-in-Some-clause-closed g c =
    retired_main g.O.Outcome.output_number (option_map g.O.Outcome.output_number c.end_main-output.result) c.in-Ok.main c.args.self.now c.start_main.new.self c.run-answer.new.self _ c.end_main-output.new.self c.end_main-output.new.journal
    c.start_main.ensures.wakers c.in-Ok.ensures.made.spawn c.run-answer.ensures.went.closes (all_unknown c.retire_ended.new.self.retired.entries c.retire_ended.new.self.ended.items c.retire_ended.ensures.none ∙ c.retire_ended.ensures.retired) c.end_main-output.ensures.dropped

pub run-answer-requires-clause-callable : goal.run-answer-requires-clause-callable
run-answer-requires-clause-callable g c =
    let old = c.args.self.now in
    let started = c.start_main.new.self in
    turn_with g.F.TaskFuture old.cx started.cx c.args.future (aligned_spawned old.cx started.cx c.args.future c.in-Ok.ensures.made.tasks c.in-Ok.ensures.made.futures) c.in-Ok.ensures.made.futures c.requires.callable c.requires.others

pub returns-in-Err-clause-callable : goal.returns-in-Err-clause-callable
returns-in-Err-clause-callable g c =
    turn_same g.F.TaskFuture g.F.TaskFuture.gives c.args.self.now.cx c.start_main.new.self.cx (returns-in-Err-clause-answers g c) c.in-Err.ensures.none.futures c.requires.others

pub returns-in-Err-answer-clause-callable : goal.returns-in-Err-answer-clause-callable
returns-in-Err-answer-clause-callable g c =
    let gives = g.F.TaskFuture.gives in
    let ran = c.run-answer.new.self in
    turn_same g.F.TaskFuture gives ran.cx _ (no_more_by gives ran.cx _ (subst (AddsNone ran.cx.parts.tasks.tasks) (sym c.end_main-output.ensures.left) (adds_dropped ran.cx.parts.tasks.tasks c.in-Ok.main)) refl) refl (c.run-answer.ensures.went.callable (turn_with g.F.TaskFuture c.args.self.now.cx c.start_main.new.self.cx c.args.future (aligned_spawned c.args.self.now.cx c.start_main.new.self.cx c.args.future c.in-Ok.ensures.made.tasks c.in-Ok.ensures.made.futures) c.in-Ok.ensures.made.futures c.requires.callable c.requires.others))

pub returns-in-Some-clause-callable : goal.returns-in-Some-clause-callable
returns-in-Some-clause-callable g c =
    let gives = g.F.TaskFuture.gives in
    let ran = c.run-answer.new.self in
    turn_same g.F.TaskFuture gives ran.cx _ (no_more_by gives ran.cx _ (subst (AddsNone ran.cx.parts.tasks.tasks) (sym c.end_main-output.ensures.left) (adds_dropped ran.cx.parts.tasks.tasks c.in-Ok.main)) refl) refl (c.run-answer.ensures.went.callable (turn_with g.F.TaskFuture c.args.self.now.cx c.start_main.new.self.cx c.args.future (aligned_spawned c.args.self.now.cx c.start_main.new.self.cx c.args.future c.in-Ok.ensures.made.tasks c.in-Ok.ensures.made.futures) c.in-Ok.ensures.made.futures c.requires.callable c.requires.others))

pub returns-in-Err-answer-clause-rests : goal.returns-in-Err-answer-clause-rests
returns-in-Err-answer-clause-rests g c = c.end_main-output.ensures.turn ∙ c.run-answer.ensures.went.rests (c.start_main.ensures.turn ∙ c.requires.rests)

pub returns-in-Err-answer-clause-shared : goal.returns-in-Err-answer-clause-shared
returns-in-Err-answer-clause-shared g c = subst (λ w. g.W.SharedState.leads w c.run-answer.new.self.cx.shared) c.start_main.ensures.shared c.run-answer.ensures.went.shared

pub returns-in-Err-answer-clause-held : goal.returns-in-Err-answer-clause-held
returns-in-Err-answer-clause-held g c = omega (arith, c.end_main-output.ensures.held, c.run-answer.ensures.went.held, c.in-Ok.ensures.made.held)

pub returns-in-Some-clause-rests : goal.returns-in-Some-clause-rests
returns-in-Some-clause-rests g c = c.end_main-output.ensures.turn ∙ c.run-answer.ensures.went.rests (c.start_main.ensures.turn ∙ c.requires.rests)

pub returns-in-Some-clause-shared : goal.returns-in-Some-clause-shared
returns-in-Some-clause-shared g c = subst (λ w. g.W.SharedState.leads w c.run-answer.new.self.cx.shared) c.start_main.ensures.shared c.run-answer.ensures.went.shared

pub returns-in-Some-clause-held : goal.returns-in-Some-clause-held
returns-in-Some-clause-held g c = omega (arith, c.end_main-output.ensures.held, c.run-answer.ensures.went.held, c.in-Ok.ensures.made.held)

pub run-answer-requires-clause-rests : goal.run-answer-requires-clause-rests
run-answer-requires-clause-rests g c = c.start_main.ensures.turn ∙ c.requires.rests

pub end_main-output-requires : goal.end_main-output-requires
end_main-output-requires g c = omega (arith, c.run-answer.ensures.went.held, c.in-Ok.ensures.made.held)

pub returns-in-Err-clause-held : goal.returns-in-Err-clause-held
returns-in-Err-clause-held g c = c.in-Err.ensures.none.held

-- the main task is made, the loop runs, and the main task's handle is dropped
pub returns-in-Err-answer-clause-turns : goal.returns-in-Err-answer-clause-turns
returns-in-Err-answer-clause-turns g c =
    let number = g.O.Outcome.output_number in
    let old = c.args.self.now in
    let started = c.start_main.new.self in
    let ran = c.run-answer.new.self in
    let ended = c.end_main-output.new.self in
    let last = c.end_main-output.new.journal in
    counts_on number old.cx.parts started.cx.parts ended old.journal started.journal last
    (counts_spawn number c.in-Ok.main old.cx.parts started.cx.parts old.journal started.journal c.start_main.ensures.turns c.in-Ok.ensures.made.spawn)
    (counts_on number started.cx.parts ran.cx.parts ended started.journal ran.journal last c.run-answer.ensures.went.turns
    (counts_drop number c.in-Ok.main (option_map number c.end_main-output.result) ran.cx.parts ended ran.journal last c.end_main-output.ensures.turns c.end_main-output.ensures.dropped))

pub returns-in-Some-clause-turns : goal.returns-in-Some-clause-turns
returns-in-Some-clause-turns g c =
    let number = g.O.Outcome.output_number in
    let old = c.args.self.now in
    let started = c.start_main.new.self in
    let ran = c.run-answer.new.self in
    let ended = c.end_main-output.new.self in
    let last = c.end_main-output.new.journal in
    counts_on number old.cx.parts started.cx.parts ended old.journal started.journal last
    (counts_spawn number c.in-Ok.main old.cx.parts started.cx.parts old.journal started.journal c.start_main.ensures.turns c.in-Ok.ensures.made.spawn)
    (counts_on number started.cx.parts ran.cx.parts ended started.journal ran.journal last c.run-answer.ensures.went.turns
    (counts_drop number c.in-Ok.main (option_map number c.end_main-output.result) ran.cx.parts ended ran.journal last c.end_main-output.ensures.turns c.end_main-output.ensures.dropped))

pub returns-in-Err-clause-turns : goal.returns-in-Err-clause-turns
returns-in-Err-clause-turns g c =
    counts_unmade g.O.Outcome.output_number c.in-Err.error c.args.self.now.cx.parts c.start_main.new.self.cx.parts c.args.self.now.journal c.start_main.new.self.journal c.start_main.ensures.turns c.in-Err.ensures.none.refused c.in-Err.ensures.none.stays
