-- Worked runs, by computation.
use Rattle.std.proofs.Common.{◌≡◌, ◌<◌, [], ◌∷◌, refl, ap, subst, ◌∙◌, arith, lit<, lit≤, inl, inr}
use Rattle.mono_model.specs.Sleeps.{MayFire}
use Rattle.mono_machine.specs.Machine.{Machine}
use Rattle.mono_machine.specs.Acts.{act_outcome}
use Rattle.mono_machine.specs.Turns.{after_turn}
use Rattle.mono_machine.specs.Steps.{at_clock, greatest_at}
use Rattle.mono_machine.specs.Examples.{start, new_sleep, poll, DeadlineIsNow, BothRoundings, NoneIsEarly, NoneIsLeftOut, FarSleeps, Ties, WokenInOwnTurn, LatestWaker, EndOfTheType, ClockGoesBack, LateMove, RefusalFirst, RefusalInTheMiddle, NoRoomFirst, RefusalsOfJoin, DoublesInInbox, TwoCauses, NoPool, OnTheCaller, OnAThread, JobsThatEnd, EndOfJobWakesNobody, CanceledIsToldOnce, WakesInOrder, LatestWaiter, LatestWaiterOfJob, NotedTwice, WhoIsListed, FinishesInTheInbox, QueuedStaysInPlace, ResetOfAFreshSleep, DroppedSleepWakesNobody, MovedEarlierIsLast, MovedEarlierKeepsWaker, FinishedTakesRoom, NoHandleTakesRoom, WaitsForItself, TakenHasFinished, DueIsNotElapsed, AscendingTicks, DoneIsNotListed, PollKeepsItsPlace, NoneFiresBeforeAnEarlier, NoneFiresBeforeItsTurn, NoneFiresTwice, WhomAWakeNames}
use Rattle.mono_machine.specs.declared.events.Act.TheVariants as act
use Rattle.mono_machine.specs.declared.events.End.TheVariants as end
use Rattle.mono_machine.proofs.FireTestLemmas.{fires, listed, not_listed}

pub deadline_is_now : DeadlineIsNow
deadline_is_now = (_, (_, (refl, refl), (_, (refl, refl), refl)))

pub both_roundings : BothRoundings
both_roundings = (_, (_, (refl, refl), (_, (refl, refl), (_, (lit≤ tt, fires _ 1 [] refl, refl), (_, (lit≤ tt, fires _ 2 (0 ∷ []) refl, refl), refl)))))

pub far_sleeps : FarSleeps
far_sleeps = (_, (_, (refl, refl), (_, (refl, refl), (_, (lit≤ tt, fires _ 1073741824 (1 ∷ []) refl, refl), (_, (refl, refl), refl)))))

pub ties : Ties
ties = (_, (_, (refl, refl), (_, (refl, refl), (_, (lit≤ tt, fires _ 100 (2 ∷ 0 ∷ 1 ∷ []) refl, refl), refl))))

pub woken_in_own_turn : WokenInOwnTurn
woken_in_own_turn = (_, (_, (refl, refl), (_, (refl, refl), (_, (refl, refl), (_, (refl, refl), (_, (refl, refl), refl))))))

pub latest_waker : LatestWaker
latest_waker = (_, (_, (refl, refl), (_, (refl, refl), (_, (refl, refl), (_, (refl, refl), (_, (lit≤ tt, fires _ 10 (0 ∷ []) refl, refl), (_, (refl, refl), (_, (refl, refl), refl))))))))

pub end_of_the_type : EndOfTheType
end_of_the_type = (_, (_, (refl, refl), (_, (refl, refl), (_, (lit≤ tt, fires _ 9223372036854775807 [] refl, refl), (_, (lit< tt, refl, refl), (_, (refl, refl), refl))))))

pub clock_goes_back : ClockGoesBack
clock_goes_back = (_, (_, (refl, refl), (_, (refl, refl), (_, (lit≤ tt, fires _ 10 [] refl, refl), (_, (lit≤ tt, fires _ 10 [] refl, refl), (_, (refl, refl), (_, (refl, refl), refl)))))))

pub late_move : LateMove
late_move = (_, (_, (refl, refl), (_, (refl, refl), (_, (lit≤ tt, fires _ 50 [] refl, refl), (_, (lit≤ tt, fires _ 80 (0 ∷ []) refl, refl), (_, (refl, refl), refl))))))

pub refusal_first : RefusalFirst
refusal_first = (_, (_, (refl, refl), (_, (refl, refl), refl)))

pub refusal_in_the_middle : RefusalInTheMiddle
refusal_in_the_middle = (_, (_, (refl, refl), (_, (refl, refl), (_, (refl, refl), (_, (refl, refl), refl)))))

pub no_room_first : NoRoomFirst
no_room_first = (_, (_, (refl, refl), (_, (refl, refl), (_, (refl, refl), refl))))

pub refusals_of_join : RefusalsOfJoin
refusals_of_join = (_, (_, (refl, refl), (_, (refl, refl), (_, (refl, refl), (_, (refl, refl), (_, (refl, refl), refl))))))

pub doubles_in_inbox : DoublesInInbox
doubles_in_inbox = (_, (_, (refl, refl), (_, (refl, refl), (_, (refl, refl), (_, (refl, refl), (_, (refl, refl), (_, (refl, refl), (_, (refl, refl), refl))))))))

pub two_causes : TwoCauses
two_causes = (_, (_, (refl, refl), (_, (refl, refl), (_, (refl, refl), refl))))

pub no_pool : NoPool
no_pool = (_, (_, (refl, refl), refl))

pub on_the_caller : OnTheCaller
on_the_caller = (_, (_, (refl, refl), (_, (refl, refl), (_, (refl, refl), refl))))

pub on_a_thread : OnAThread
on_a_thread = (_, (_, (refl, refl), (_, (refl, refl), (_, (refl, refl), (_, (refl, refl), (_, (refl, refl), refl))))))

pub jobs_that_end : JobsThatEnd
jobs_that_end = (_, (_, (refl, refl), (_, (refl, refl), (_, (refl, refl), (_, (refl, refl), (_, (refl, refl), (_, (refl, refl), (_, (refl, refl), (_, (refl, refl), (_, (refl, refl), refl))))))))))

-- the machine once the sleep is armed
abbrev spawned_one : Machine
spawned_one = (act_outcome act.Spawn (start 16)).machine

abbrev armed_one : Machine
armed_one = after_turn (new_sleep 1000001 ∷ poll 0 ∷ []) end.Pending spawned_one

after_two : (m1 m2 : Machine) → m1 ≡ spawned_one → m2 ≡ after_turn (new_sleep 1000001 ∷ poll 0 ∷ []) end.Pending m1 → m2 ≡ armed_one
after_two m1 m2 first second = second ∙ ap (after_turn (new_sleep 1000001 ∷ poll 0 ∷ []) end.Pending) first

no_early : MayFire armed_one.sleeps.table (greatest_at armed_one 1999999) (0 ∷ []) → ⊥
no_early may = not_listed armed_one.sleeps.table 1 0 (0 ∷ []) may (0, lit< tt, refl) refl

pub none_is_early : NoneIsEarly
none_is_early (new, (m1, s1, (m2, s2, (m3, s3, rest)))) =
    no_early (subst (λ x. MayFire x.sleeps.table (greatest_at x 1999999) (0 ∷ [])) (after_two m1 m2 s1.1 s2.1) s3.1)

no_left_out : MayFire (at_clock armed_one 1999999).sleeps.table (greatest_at (at_clock armed_one 1999999) 2000000) [] → ⊥
no_left_out may =
    let (k, below, is) = listed armed_one.sleeps.table 2 0 [] may refl in
    let inside : k < 0 = below in
    omega (arith, inside)

pub none_is_left_out : NoneIsLeftOut
none_is_left_out (new, (m1, s1, (m2, s2, (m3, s3, (m4, s4, rest))))) =
    no_left_out (subst (λ x. MayFire x.sleeps.table (greatest_at x 2000000) []) (s3.2 ∙ ap (λ m. at_clock m 1999999) (after_two m1 m2 s1.1 s2.1)) s4.1)

pub end_of_job_wakes_nobody : EndOfJobWakesNobody
end_of_job_wakes_nobody = (_, (_, (refl, refl), (_, (refl, refl), (_, (refl, refl), (_, (refl, refl), (_, (refl, refl), (_, (refl, refl), (_, (refl, refl), (_, (refl, refl), refl)))))))))

pub canceled_is_told_once : CanceledIsToldOnce
canceled_is_told_once = (_, (_, (refl, refl), (_, (refl, refl), (_, (refl, refl), (_, (refl, refl), refl)))))

pub wakes_in_order : WakesInOrder
wakes_in_order = (_, (_, (refl, refl), (_, (refl, refl), (_, (refl, refl), (_, (refl, refl), (_, (lit≤ tt, fires _ 20 (0 ∷ 1 ∷ []) refl, refl), (_, (refl, refl), (_, (refl, refl), refl))))))))

pub latest_waiter : LatestWaiter
latest_waiter = (_, (_, (refl, refl), (_, (refl, refl), (_, (refl, refl), (_, (refl, refl), (_, (refl, refl), (_, (refl, refl), (_, (refl, refl), (_, (refl, refl), refl)))))))))

pub latest_waiter_of_job : LatestWaiterOfJob
latest_waiter_of_job = (_, (_, (refl, refl), (_, (refl, refl), (_, (refl, refl), (_, (refl, refl), (_, (refl, refl), refl))))))

pub noted_twice : NotedTwice
noted_twice = (_, (_, (refl, refl), (_, (refl, refl), (_, (refl, refl), (_, (refl, refl), refl)))))

pub who_is_listed : WhoIsListed
who_is_listed = (_, (_, (refl, refl), (_, (refl, refl), (_, (refl, refl), (_, (refl, refl), (_, (refl, refl), (_, (refl, refl), (_, (refl, refl), (_, (refl, refl), (_, (refl, refl), (_, (refl, refl), (_, (refl, refl), (_, (refl, refl), (_, (refl, refl), refl))))))))))))))

pub finishes_in_the_inbox : FinishesInTheInbox
finishes_in_the_inbox = (_, (_, (refl, refl), (_, (refl, refl), (_, (refl, refl), (_, (refl, refl), (_, (refl, refl), refl))))))

pub queued_stays_in_place : QueuedStaysInPlace
queued_stays_in_place = (_, (_, (refl, refl), (_, (refl, refl), (_, (refl, refl), (_, (refl, refl), refl)))))

pub reset_of_a_fresh_sleep : ResetOfAFreshSleep
reset_of_a_fresh_sleep = (_, (_, (refl, refl), (_, (refl, refl), (_, (lit≤ tt, fires _ 5 [] refl, refl), (_, (lit≤ tt, fires _ 6 (0 ∷ []) refl, refl), (_, (refl, refl), (_, (refl, refl), (_, (lit≤ tt, fires _ 7 (0 ∷ []) refl, refl), refl))))))))

pub dropped_sleep_wakes_nobody : DroppedSleepWakesNobody
dropped_sleep_wakes_nobody = (_, (_, (refl, refl), (_, (refl, refl), (_, (refl, refl), (_, (refl, refl), (_, (lit≤ tt, fires _ 5 [] refl, refl), refl))))))

pub moved_earlier_is_last : MovedEarlierIsLast
moved_earlier_is_last = (_, (_, (refl, refl), (_, (refl, refl), (_, (refl, refl), (_, (lit≤ tt, fires _ 60 (1 ∷ 0 ∷ []) refl, refl), refl)))))

pub moved_earlier_keeps_waker : MovedEarlierKeepsWaker
moved_earlier_keeps_waker = (_, (_, (refl, refl), (_, (refl, refl), (_, (refl, refl), (_, (lit≤ tt, fires _ 60 (0 ∷ []) refl, refl), (_, (refl, refl), refl))))))

pub finished_takes_room : FinishedTakesRoom
finished_takes_room = (_, (_, (refl, refl), (_, (refl, refl), (_, (refl, refl), (_, (refl, refl), (_, (refl, refl), (_, (refl, refl), (_, (refl, refl), (_, (refl, refl), (_, (refl, refl), (_, (refl, refl), refl)))))))))))

pub no_handle_takes_room : NoHandleTakesRoom
no_handle_takes_room = (_, (_, (refl, refl), (_, (refl, refl), (_, (refl, refl), (_, (refl, refl), (_, (refl, refl), refl))))))

pub waits_for_itself : WaitsForItself
waits_for_itself = (_, (_, (refl, refl), (_, (refl, refl), (_, (refl, refl), (_, (refl, refl), (_, (refl, refl), refl))))))

pub taken_has_finished : TakenHasFinished
taken_has_finished = (_, (_, (refl, refl), (_, (refl, refl), (_, (refl, refl), (_, (refl, refl), refl)))))

pub due_is_not_elapsed : DueIsNotElapsed
due_is_not_elapsed = (_, (_, (refl, refl), (_, (refl, refl), refl)))

pub ascending_ticks : AscendingTicks
ascending_ticks = (_, (_, (refl, refl), (_, (refl, refl), (_, (lit≤ tt, fires _ 20 (1 ∷ 0 ∷ []) refl, refl), refl))))

pub done_is_not_listed : DoneIsNotListed
done_is_not_listed = (_, (_, (refl, refl), (_, (refl, refl), (_, (refl, refl), refl))))

pub poll_keeps_its_place : PollKeepsItsPlace
poll_keeps_its_place = (_, (_, (refl, refl), (_, (refl, refl), (_, (lit≤ tt, fires _ 10 (0 ∷ 1 ∷ []) refl, refl), refl))))

pub none_fires_before_an_earlier : NoneFiresBeforeAnEarlier
none_fires_before_an_earlier new step = elim (step.1.in_order 0 1 0 (lit< tt) (lit< tt) _ _ refl refl) [
  | inl less ↦ let is : 20 < 10 = less in omega (arith, is)
  | inr same ↦ let is : 20 ≡ 10 = same.0 in omega (arith, is)
]

pub none_fires_before_its_turn : NoneFiresBeforeItsTurn
none_fires_before_its_turn new step = elim (step.1.in_order 0 1 0 (lit< tt) (lit< tt) _ _ refl refl) [
  | inl less ↦ let is : 10 < 10 = less in omega (arith, is)
  | inr same ↦ let is : 1 < 0 = same.1 refl refl in omega (arith, is)
]

pub none_fires_twice : NoneFiresTwice
none_fires_twice new step = step.1.no_doubles 0 1 0 (lit< tt) (lit< tt) refl

pub whom_a_wake_names : WhomAWakeNames
whom_a_wake_names = (refl, refl, refl, refl, refl, refl, refl)
