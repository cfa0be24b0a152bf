use Rattle.std.proofs.Common.{arith, ◌≡◌, ℕ, List, [], ◌∷◌, ◌++◌, refl, sym, ap, subst, ◌∙◌, append_assoc, append-nil}
use Rattle.mono_time.specs.Instants.{nanos_of}
use Rattle.mono_time.specs.Sleeps.{SleepTable, at_clock_tick, with_fired_sleep, with_removed_sleep, IsFiredFirst, IsNoneArmedUpTo}
use Rattle.mono_time.specs.Timers.{sleeps_of}
use Rattle.mono_session.specs.Keeper.{Keeper, with_entries, with_greatest, without_session}
use Rattle.mono_session.specs.Answers as answer
use Rattle.mono_session.specs.Steps.{greatest_at, without_all}
use Rattle.mono_session.specs.Refinement.{Matches, Beside}
use Rattle.mono_session.specs.declared.keeper.Sessions.{Sessions}
use Rattle.mono_session.proofs.CloseLemmas.{all_greatest, clock_timely}
use Rattle.mono_session.proofs.SessionSleepLemmas.{sleep_closed}
use Rattle.mono_session.proofs.CloseListLemmas.{CloseInTurn, IsFirst, first_due, none_due, due_inside, due_open, all-push, clock-again, beside_clock, lists_due}
use Rattle.mono_session.proofs.LeaveLemmas.{others, beside_entries, without_left, leaves_on, leaves_greatest}
use Rattle.mono_session.proofs.keeper.Sessions.clock_leaving.Goals as goal

pub loop-session-init : goal.loop-session-init
loop-session-init g c = record { steps = omega arith; room = c.requires.closed; left_room = c.requires.left; capacity = refl; turns = λ k st. ([], k, st.matches, refl, sym (append-nil c.args.closed.now.items), sym (append-nil c.args.left.now.items), λ more turn. turn) }

pub loop-session-preserved : goal.loop-session-preserved
loop-session-preserved g c = record {
  steps = omega (arith, c.loop-session.invariant.steps, c.clock.ensures.steps, c.close_due.ensures.raise);
  room = c.close_due.ensures.room;
  left_room = omega (arith, c.leave_each.ensures.room, c.close_due.ensures.fewer);
  capacity = c.leave_each.ensures.capacity ∙ c.loop-session.invariant.capacity;
  turns = λ k st.
      let n = nanos_of c.args.now in
      let s = c.in-Some.session in
      let waker = c.in-Some.field-0-1 in
      let at : Sessions = record { timers = c.loop-session.self.timers; limits = c.loop-session.self.limits; entries = c.loop-session.self.entries; most_entries = c.loop-session.self.most_entries } in
      let mid_code : Sessions = record { timers = c.clock.new.self; limits = c.loop-session.self.limits; entries = c.loop-session.self.entries; most_entries = c.loop-session.self.most_entries } in
      let was = c.loop-session.invariant.turns k st in
      let due : List ℕ = was.0 in
      let before : Keeper = was.1 in
      let tick : ℕ = greatest_at k n in
      let start : Keeper = with_greatest k tick in
      let mid : Keeper = with_greatest before (greatest_at before n) in
      let same : mid ≡ without_all start due = was.3 in
      let told : IsFiredFirst (at_clock_tick (sleeps_of at.timers) n) s waker × (sleeps_of c.clock.new.self ≡ with_fired_sleep (at_clock_tick (sleeps_of at.timers) n) s) = c.in-Some.ensures.some in
      let first : IsFirst mid.sessions mid.greatest s = first_due mid s waker (subst (λ x. IsFiredFirst (at_clock_tick x n) s waker) was.2.sleeps told.0) in
      let beside : Beside mid_code mid = beside_clock at mid_code before (greatest_at before n) refl refl refl was.2.beside in
      let gone : Sessions = record { timers = c.clock.new.self; limits = c.loop-session.self.limits; entries = c.leave_each.new.self; most_entries = c.loop-session.self.most_entries } in
      let away : Keeper = with_entries mid (others s mid.entries) in
      let beside_gone : Beside gone away = beside_entries mid_code gone mid away.entries refl refl (c.leave_each.ensures.kept mid.entries beside.entries) beside in
      let here : IsFirst (without_all start due).sessions tick s = subst (λ t. IsFirst (without_all start due).sessions t s) (all_greatest start due) (subst (λ (x : Keeper). IsFirst x.sessions x.greatest s) same first) in (
        due ++ s ∷ [],
        without_session mid s,
        record {
          sleeps = c.close_due.ensures.sleeps ∙ ap (λ x. with_removed_sleep x s) (told.1 ∙ ap (λ x. with_fired_sleep (at_clock_tick x n) s) was.2.sleeps) ∙ sleep_closed mid s (due_inside mid mid.greatest s first);
          beside = subst (Beside c.close_due.new.self) (without_left mid s) (c.close_due.ensures.beside away beside_gone);
        },
        clock-again before n s ∙ ap (λ x. without_session x s) same ∙ sym (all-push start due s),
        c.close_due.ensures.listed away beside_gone (due_open mid mid.greatest s first) ∙ ap (λ xs. xs ++ s ∷ []) was.4 ∙ append_assoc c.args.closed.now.items due (s ∷ []),
        leaves_on start due s c.args.left.now.items c.loop-session.left.items c.leave_each.new.left.items mid same (c.leave_each.ensures.listed mid.entries beside.entries) was.5,
        λ more turn.
            subst (CloseInTurn k.sessions tick) (sym (append_assoc due (s ∷ []) more))
            (was.6 (s ∷ more) (here, subst (λ (x : Keeper). CloseInTurn x.sessions tick more) (all-push start due s) turn)),
      );
}

pub returns-clause-step : goal.returns-clause-step
returns-clause-step g c = λ k st.
    let n = nanos_of c.args.now in
    let at : Sessions = record { timers = c.loop-session.self.timers; limits = c.loop-session.self.limits; entries = c.loop-session.self.entries; most_entries = c.loop-session.self.most_entries } in
    let new : Sessions = record { timers = c.clock.new.self; limits = c.loop-session.self.limits; entries = c.loop-session.self.entries; most_entries = c.loop-session.self.most_entries } in
    let was = c.loop-session.invariant.turns k st in
    let due : List ℕ = was.0 in
    let before : Keeper = was.1 in
    let tick : ℕ = greatest_at k n in
    let start : Keeper = with_greatest k tick in
    let mid : Keeper = with_greatest before (greatest_at before n) in
    let same : mid ≡ without_all start due = was.3 in
    let told : IsNoneArmedUpTo (at_clock_tick (sleeps_of at.timers) n) × (sleeps_of c.clock.new.self ≡ at_clock_tick (sleeps_of at.timers) n) = c.in_default.ensures.none in
    let left : CloseInTurn mid.sessions mid.greatest [] = none_due mid (subst (λ x. IsNoneArmedUpTo (at_clock_tick x n)) was.2.sleeps told.0) in
    let none : CloseInTurn (without_all start due).sessions tick [] = subst (λ t. CloseInTurn (without_all start due).sessions t []) (all_greatest start due) (subst (λ (x : Keeper). CloseInTurn x.sessions x.greatest []) same left) in
    let lists = lists_due k.sessions tick due (subst (CloseInTurn k.sessions tick) (append-nil due) (was.6 [] none)) in
    let matches : Matches new mid = record { sleeps = told.1 ∙ ap (λ x. at_clock_tick x n) was.2.sleeps; beside = beside_clock at new before (greatest_at before n) refl refl refl was.2.beside } in (
      due,
      was.4,
      was.5 ∙ ap (λ xs. c.args.left.now.items ++ xs) (leaves_greatest k tick due),
      lists,
      record {
        matches = subst (Matches new) same matches;
        rests = c.in_default.ensures.elapsed ∙ ap (λ (x : SleepTable). x.greatest) (told.1 ∙ ap (λ x. at_clock_tick x n) was.2.sleeps) ∙ ap (λ (x : Keeper). x.greatest) same;
        timely = clock_timely k (without_all start due) n (answer.Closed due) st.timely (c.args.now.in_range, lists, refl);
      },
    )
