use Rattle.std.proofs.Common.{None, sym, ◌∙◌, subst}
use Rattle.mono_rt.proofs.TurnLemmas.{turn_is, rests_after, same_has_timers, turn_led}
use Rattle.mono_rt.proofs.PartTurnLemmas.{begun_turn}
use Rattle.mono_rt.proofs.PossibleAnswerLemmas.{no_more_in_turn, starts}
use Rattle.mono_rt.specs.Pollable.{EachCanPoll}
use Rattle.mono_rt.proofs.PollableLemmas.{if_held, each_set, turn_on}
use Rattle.mono_rt.proofs.contexts.Cx.turn.Goals as goal

pub returns-clause-turn : goal.returns-clause-turn
returns-clause-turn g c = record { begun = _; begins = c.begin_turn-task.ensures.begins; runs = rw (sym c.begin_turn-task.ensures.future) c.run_turn-end.ensures.runs }

pub returns-clause-is : goal.returns-clause-is
returns-clause-is g c = λ is_unread blank m st.
    let number = g.O.Outcome.output_number in
    let old = c.args.self.now in
    let begun = c.begin_turn-task.new.self in
    let t = c.begin_turn-task.result.0 in
    turn_is number g.W.SharedState g.F.TaskFuture c.begin_turn-task.result.1 old begun c.run_turn-end.new.self t c.args.now _ _ m is_unread blank
    c.begin_turn-task.ensures.begins.parts c.run_turn-end.ensures.runs st

pub returns-clause-rests : goal.returns-clause-rests
returns-clause-rests g c =
    rests_after g.O.Outcome.output_number g.W.SharedState g.F.TaskFuture c.begin_turn-task.result.1 c.begin_turn-task.new.self c.run_turn-end.new.self c.begin_turn-task.result.0 _ _
    (begun_turn g.O.Outcome.output_number c.args.self.now.parts c.begin_turn-task.new.self.parts c.begin_turn-task.result.0 c.args.now c.args.self.now.parts.acts c.begin_turn-task.ensures.begins.parts) c.run_turn-end.ensures.runs

pub returns-clause-has_timers : goal.returns-clause-has_timers
returns-clause-has_timers g c =
    same_has_timers g.O.Outcome.output_number g.W.SharedState g.F.TaskFuture c.begin_turn-task.result.1 c.begin_turn-task.new.self c.run_turn-end.new.self c.begin_turn-task.result.0 _ _ c.run_turn-end.ensures.runs
    ∙ c.begin_turn-task.ensures.begins.parts.has_timers

pub returns-clause-shared : goal.returns-clause-shared
returns-clause-shared g c =
    let begun = c.begin_turn-task.new.self in
    let left = c.run_turn-end.new.self in
    subst (λ w. g.W.SharedState.leads w left.shared) c.begin_turn-task.ensures.begins.shared
    (turn_led g.O.Outcome.output_number g.W.SharedState g.F.TaskFuture g.met.W.SharedState.leads_itself g.met.W.SharedState.leads_on c.begin_turn-task.result.1 begun left c.begin_turn-task.result.0 _ _ c.run_turn-end.ensures.runs)

pub returns-clause-answers : goal.returns-clause-answers
returns-clause-answers g c =
    no_more_in_turn g.O.Outcome.output_number g.W.SharedState g.F.TaskFuture c.args.self.now c.run_turn-end.new.self c.begin_turn-task.result.0 c.args.now c.args.self.now.parts.acts _ _ (returns-clause-turn g c)

pub run_turn-end-requires-clause-callable : goal.run_turn-end-requires-clause-callable
run_turn-end-requires-clause-callable g c =
    if_held g.F.TaskFuture.can_poll c.begin_turn-task.result.1 (λ f is. c.requires.callable.table c.begin_turn-task.result.0 f (sym c.begin_turn-task.ensures.future ∙ is))

pub run_turn-end-requires-clause-others : goal.run_turn-end-requires-clause-others
run_turn-end-requires-clause-others g c =
    let old = c.args.self.now in
    let begun = c.begin_turn-task.new.self in
    let t = c.begin_turn-task.result.0 in
    let begins = c.begin_turn-task.ensures.begins in
    let can_poll = g.F.TaskFuture.can_poll in
    turn_on g.F.TaskFuture old begun (starts g.O.Outcome.output_number g.W.SharedState old begun t c.args.now old.parts.acts begins.parts begins.futures).aligned
    (subst (EachCanPoll can_poll) (sym begins.futures) (each_set can_poll old.futures.items t None c.requires.callable.table tt)) c.requires.callable

pub returns-clause-callable : goal.returns-clause-callable
returns-clause-callable g c = turn_on g.F.TaskFuture c.args.self.now c.run_turn-end.new.self (returns-clause-answers g c).aligned c.run_turn-end.ensures.callable c.requires.callable
