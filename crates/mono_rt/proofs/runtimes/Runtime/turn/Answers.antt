use Rattle.std.proofs.Common.{refl, ap, sym, subst, inl, ◌∙◌}
use Rattle.mono_rt.specs.Journals.{Does, Stays}
use Rattle.mono_rt.specs.Record.{no_acts}
use Rattle.mono_rt.specs.Refinement.{hosting_of}
use Rattle.mono_rt.specs.Rounds.{UpToOneTurn, TurnEnds}
use Rattle.mono_rt.specs.Stores.{store_of}
use Rattle.mono_rt.specs.FuturePolls.{HasLasted}
use Rattle.mono_rt.specs.Turns.{Turn}
use Rattle.mono_rt.specs.Progress.{lasting, Proceeds}
use Rattle.mono_rt.proofs.CallLemmas.{same_machine}
use Rattle.mono_rt.proofs.JournalLemmas.{does_turn}
use Rattle.mono_rt.proofs.RoundLemmas.{does_one, does_more, turn_ends}
use Rattle.mono_rt.proofs.DriverLemmas.{telling_on, telling_more, tells_kept, unfailed, so_broken}
use Rattle.mono_rt.proofs.FuturePollLemmas.{polls_stays, polls_turn}
use Rattle.mono_rt.proofs.JournalRoomLemmas.{fills_not, fills_turn}
use Rattle.mono_rt.proofs.PossibleAnswerLemmas.{no_more_same, no_more_around}
use Rattle.mono_rt.proofs.PollableLemmas.{turn_same}
use Rattle.mono_rt.proofs.ProgressLemmas.{went_turn}
use Rattle.mono_task.specs.Schedule.{one_more_turn}
use Rattle.mono_rt.proofs.ClosedTaskLemmas.{closes_stays, closes_turn}
use Rattle.mono_rt.proofs.TurnCountLemmas.{counts_stays, counts_turn, one_turn_more}
use Rattle.mono_rt.proofs.runtimes.Runtime.turn.Goals as goal

pub returns-in_default-clause-turned : goal.returns-in_default-clause-turned
returns-in_default-clause-turned g c =
    does_more g.O.Outcome.output_number Stays UpToOneTurn c.args.self.now.cx.parts c.open_turn.new.self c.args.self.now.journal c.open_turn.new.journal (λ m new xs zs stm stn is. inl is) c.in_default.ensures.unread

pub returns-clause-turned : goal.returns-clause-turned
returns-clause-turned g c =
    let number = g.O.Outcome.output_number in
    let old = c.args.self.now in
    let opened = c.open_turn.new.self in
    let done = c.turn-task.new.self in
    let left = c.keep_turn.new.self in
    let first = c.open_turn.new.journal in
    let last = c.keep_turn.new.journal in
    subst (λ r. Does number (TurnEnds r) old.cx.parts left old.journal last) (sym c.turn_answer.ensures)
    (turn_ends number left.is_out_of_memory old.cx.parts left old.journal last
    (does_one number old.cx.parts opened left old.journal first last _ _ _ _ _ c.in-Some.ensures.reading
    (does_turn number opened done.parts left first last _ _ _ (c.turn-task.ensures.is old.journal.is_full c.in-Some.ensures.acts) c.keep_turn.ensures.history
    (λ m st. same_machine number hosting_of done.parts left m c.keep_turn.ensures.tasks c.keep_turn.ensures.timers c.keep_turn.ensures.has_timers c.keep_turn.ensures.blocking st) c.keep_turn.ensures.timers)))

pub returns-in_default-clause-went : goal.returns-in_default-clause-went
returns-in_default-clause-went g c =
    let old = c.args.self.now in
    let future = g.F.TaskFuture in
    let opened = record old.cx { parts = c.open_turn.new.self } in
    let answers = no_more_same future.gives old.cx opened c.open_turn.ensures.tasks refl in
    record {
      has_timers = c.open_turn.ensures.has_timers;
      rests = λ x. ap (λ t. t.turn) c.open_turn.ensures.tasks ∙ x;
      turns = counts_stays g.O.Outcome.output_number old.cx.parts opened.parts old.journal c.open_turn.new.journal (ap (λ t. t.turns) c.open_turn.ensures.tasks) c.in_default.ensures.unread;
      answers = answers;
      callable = turn_same future future.gives old.cx opened answers refl;
      shared = g.met.W.SharedState.leads_itself _;
      polled = λ lasts may. polls_stays g.O.Outcome.output_number g.W.SharedState future old.cx.parts.has_timers lasts (store_of old.cx) (store_of old.cx) old.cx.parts opened.parts old.journal c.open_turn.new.journal refl c.in_default.ensures.unread;
      faults = c.open_turn.ensures.faults;
      told = so_broken (telling_more unfailed c.open_turn.ensures.told);
      full = fills_not g.O.Outcome.output_number g.W.SharedState future old.cx old.journal c.open_turn.new.journal c.open_turn.ensures.full;
      held = c.open_turn.ensures.held;
      placed = tt;
      closes = closes_stays g.O.Outcome.output_number _ _ refl old.cx.parts opened.parts old.journal c.open_turn.new.journal c.in_default.ensures.unread;
    }

pub returns-clause-went : goal.returns-clause-went
returns-clause-went g c =
    let number = g.O.Outcome.output_number in
    let sharing = g.W.SharedState in
    let future = g.F.TaskFuture in
    let old = c.args.self.now in
    let opened = record old.cx { parts = c.open_turn.new.self } in
    let done = c.turn-task.new.self in
    let closed = record done { parts = c.keep_turn.new.self } in
    let first = c.open_turn.new.journal in
    let last = c.keep_turn.new.journal in
    let new = record old { cx = closed; driver = c.open_turn.new.driver; journal = last } in
    let is = c.turn-task.ensures.is old.journal.is_full c.in-Some.ensures.acts in
    subst (λ r. Proceeds number sharing g.D.Clock future (lasting r) old new) (sym c.turn_answer.ensures)
    (went_turn number sharing g.D.Clock future closed.parts.is_out_of_memory old new
    (c.keep_turn.ensures.has_timers ∙ c.turn-task.ensures.has_timers ∙ c.open_turn.ensures.has_timers)
    (λ x. ap (λ t. t.turn) c.keep_turn.ensures.tasks ∙ c.turn-task.ensures.rests)
    (counts_turn number old.cx.parts closed.parts old.journal last
    (ap (λ t. t.turns) c.keep_turn.ensures.tasks ∙ one_turn_more number sharing future _ _ _ _ _ opened done c.turn-task.ensures.turn ∙ ap (λ t. one_more_turn t.turns) c.open_turn.ensures.tasks)
    (does_one number old.cx.parts opened.parts closed.parts old.journal first last _ _ _ _ _ c.in-Some.ensures.reading
    (does_turn number opened.parts done.parts closed.parts first last _ _ _ is c.keep_turn.ensures.history
    (λ m st. same_machine number hosting_of done.parts closed.parts m c.keep_turn.ensures.tasks c.keep_turn.ensures.timers c.keep_turn.ensures.has_timers c.keep_turn.ensures.blocking st) c.keep_turn.ensures.timers)))
    (no_more_around future.gives old.cx opened done closed c.open_turn.ensures.tasks refl c.turn-task.ensures.answers c.keep_turn.ensures.tasks refl)
    (λ x. turn_same future future.gives done closed (no_more_same future.gives done closed c.keep_turn.ensures.tasks refl) refl c.turn-task.ensures.callable)
    c.turn-task.ensures.shared
    (λ lasts lasted. polls_turn number sharing future old.cx.parts.has_timers lasts old.cx opened done closed old.journal first last c.turn-task.result.0 c.in-Some.now old.journal.is_full c.turn-task.result.1 c.turn-task.result.2 c.open_turn.ensures.has_timers refl refl c.in-Some.ensures.at
    (subst (λ acts. Turn number sharing future c.turn-task.result.0 c.in-Some.now acts c.turn-task.result.1 c.turn-task.result.2 opened done) c.in-Some.ensures.acts c.turn-task.ensures.turn)
    (does_turn number opened.parts done.parts closed.parts first last _ _ _ is c.keep_turn.ensures.history
    (λ m st. same_machine number hosting_of done.parts closed.parts m c.keep_turn.ensures.tasks c.keep_turn.ensures.timers c.keep_turn.ensures.has_timers c.keep_turn.ensures.blocking st) c.keep_turn.ensures.timers)
    refl (subst (λ x. HasLasted lasts x) c.keep_turn.ensures.memory lasted) refl refl)
    c.open_turn.ensures.faults
    (telling_on c.open_turn.ensures.told (tells_kept _ _ _ refl c.keep_turn.ensures.history))
    (fills_turn number sharing future old.cx opened done old.journal first last _ _ _ _ c.open_turn.ensures.goes c.open_turn.ensures.full (λ unfull. c.in-Some.ensures.acts ∙ ap no_acts (sym c.open_turn.ensures.full ∙ unfull)) c.turn-task.ensures.turn is c.keep_turn.ensures.full)
    (c.keep_turn.ensures.held ∙ c.open_turn.ensures.held)
    (closes_turn number _ _ old.cx.parts opened.parts closed.parts old.journal first last _ _ _ _ _ c.turn-task.ensures.closed c.in-Some.ensures.reading
    (does_turn number opened.parts done.parts closed.parts first last _ _ _ is c.keep_turn.ensures.history
    (λ m st. same_machine number hosting_of done.parts closed.parts m c.keep_turn.ensures.tasks c.keep_turn.ensures.timers c.keep_turn.ensures.has_timers c.keep_turn.ensures.blocking st) c.keep_turn.ensures.timers)))

pub turn-task-requires-clause-callable : goal.turn-task-requires-clause-callable
turn-task-requires-clause-callable g c =
    let old = c.args.self.now in
    let opened = record old.cx { parts = c.open_turn.new.self } in
    turn_same g.F.TaskFuture g.F.TaskFuture.gives old.cx opened (no_more_same g.F.TaskFuture.gives old.cx opened c.open_turn.ensures.tasks refl) refl c.requires.callable
