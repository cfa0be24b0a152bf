-- The strategy for blocking jobs stays along each run.
use Rattle.std.proofs.Common.{◌≡◌, ℕ, Bool, true, false, cond, List, [], ◌∷◌, Some, None, Option, refl, ap, sym, ◌∙◌}
use Rattle.std.specs.Prelude.{nat_lt, ◌||◌}
use Rattle.mono_model.specs.Ticks.{max_nanos}
use Rattle.mono_model.specs.Table.{value_at, is_full, is_issued}
use Rattle.mono_model.specs.Inbox.{is_waiting}
use Rattle.mono_model.specs.Sleeps.{Sleep}
use Rattle.mono_machine.specs.Machine.{Machine}
use Rattle.mono_machine.specs.Acts.{Outcome, for_sleep, reset, act_outcome, step_outcome, block}
use Rattle.mono_machine.specs.Turns.{after_steps, after_end, after_begin, after_turn_for}
use Rattle.mono_machine.specs.Steps.{Step, ClockStep, has_finished, after_fires, after_fire, at_clock, after_remote}
use Rattle.mono_machine.specs.declared.events.Act.{Act}
use Rattle.mono_machine.specs.declared.events.Act.TheVariants as act
use Rattle.mono_machine.specs.declared.events.Query.{Query}
use Rattle.mono_machine.specs.declared.events.Query.TheVariants as query
use Rattle.mono_machine.specs.declared.events.TurnStep.{TurnStep}
use Rattle.mono_machine.specs.declared.events.TurnStep.TheVariants as step
use Rattle.mono_machine.specs.declared.events.End.{End}
use Rattle.mono_machine.specs.declared.events.End.TheVariants as end
use Rattle.mono_machine.specs.declared.events.Event.{Event}
use Rattle.mono_machine.specs.declared.events.Event.TheVariants as event
use Rattle.mono_machine.specs.declared.events.Report.{Report}
use Rattle.mono_machine.specs.declared.events.Report.TheVariants as report
use Rattle.mono_machine.specs.declared.events.Blocking.{Blocking}
use Rattle.mono_machine.specs.declared.events.Blocking.TheVariants as blocking
use Rattle.mono_blocking.specs.JobSpawns.{Seen, strategy_of}
use Rattle.mono_rt.specs.Refinement.{hosting_of, MatchesValid}
use Rattle.mono_rt.specs.Journals.{Follows, Went, Goes, Does}
use Rattle.mono_rt.specs.declared.parts.state.Parts.{Parts}
use Rattle.mono_rt.specs.declared.parts.journals.Entry.{Entry}
use Rattle.mono_rt.specs.declared.parts.journals.Entry.TheVariants.{Ran, Now, Park}
use Rattle.mono_rt.specs.declared.parts.journals.Journal.{Journal}

-- the machine's strategy is this
module _ (s : Blocking) where
  by_test : (b : Bool) (x y : Outcome) → x.machine.strategy ≡ s → y.machine.strategy ≡ s → (cond b x y).machine.strategy ≡ s
  by_test true x y p q = p
  by_test false x y p q = q

  by_machine : (b : Bool) (x y : Machine) → x.strategy ≡ s → y.strategy ≡ s → (cond b x y).strategy ≡ s
  by_machine true x y p q = p
  by_machine false x y p q = q

  module _ (m : Machine) (is : m.strategy ≡ s) where
    blocked : (b : Blocking) (output : ℕ) → (block b output m).machine.strategy ≡ s
    blocked blocking.Attached output = is
    blocked blocking.ExecuteLocal output = is
    blocked blocking.Panic output = is

    for_one : (v : Option Sleep) (o : Outcome) → o.machine.strategy ≡ s → (for_sleep v m o).machine.strategy ≡ s
    for_one None o q = is
    for_one (Some x) o q = q

    after_act : (a : Act) → (act_outcome a m).machine.strategy ≡ s
    after_act act.Spawn = by_test (is_full m.tasks.table m.tasks.limit) _ _ is is
    after_act (act.Wake t) = is
    after_act (act.NewSleep n) = by_test (is_full m.sleeps.table m.sleeps.limit) _ _ is (by_test (nat_lt max_nanos n) _ _ is is)
    after_act (act.Reset x n) = for_one (value_at m.sleeps.table x) _ (by_test (nat_lt max_nanos n) _ _ is is)
    after_act (act.DropSleep x) = is
    after_act (act.DropJoin t) = is
    after_act (act.Block output) = by_test (is_full m.jobs.table m.jobs.limit) _ _ is (blocked m.strategy output)
    after_act (act.DropJob j) = is
    after_act (act.Finished t) = is
    after_act (act.JobFinished j) = is
    after_act (act.SleepElapsed x) = is
    after_act (act.JobEnd j h) = is

    after_step : (me : ℕ) (x : TurnStep) → (step_outcome me x m).machine.strategy ≡ s
    after_step me (step.Act a) = after_act a
    after_step me (step.Query (query.Sleep x)) = is
    after_step me (step.Query (query.Join t)) = is
    after_step me (step.Query (query.Job j)) = is

  after_all : (me : ℕ) (steps : List TurnStep) (m : Machine) → m.strategy ≡ s → (after_steps me steps m).strategy ≡ s
  after_all me [] m is = is
  after_all me (x ∷ steps) m is = after_all me steps (step_outcome me x m).machine (after_step m is me x)

  at_end : (e : End) (me : ℕ) (m : Machine) → m.strategy ≡ s → (after_end e me m).strategy ≡ s
  at_end end.Pending me m is = is
  at_end (end.Ready output) me m is = is

  turned : (queue : List ℕ) (steps : List TurnStep) (e : End) (m : Machine) → m.strategy ≡ s → (after_turn_for queue steps e m).strategy ≡ s
  turned [] steps e m is = is
  turned (front ∷ rest) steps e m is = at_end e front (after_steps front steps (after_begin front rest m)) (after_all front steps (after_begin front rest m) is)

  fired : (fires : List ℕ) (m : Machine) → m.strategy ≡ s → (after_fires m fires).strategy ≡ s
  fired [] m is = is
  fired (x ∷ fires) m is = fired fires (after_fire m x) is

  clocked : (m : Machine) (n : ℕ) (answer : Report) (new : Machine) → m.strategy ≡ s → ClockStep m n answer new → new.strategy ≡ s
  clocked m n (report.Fired fires) new is at = ap (λ x. x.strategy) at.2 ∙ fired fires (at_clock m n) is
  clocked m n (report.Reply r) new is at = ap (λ x. x.strategy) at.2 ∙ is
  clocked m n (report.Turn me replies ended) new is at = absurd at
  clocked m n report.Listed new is at = absurd at
  clocked m n report.Unlisted new is at = absurd at
  clocked m n (report.Drained tasks) new is at = absurd at

  remoted : (m : Machine) (t : ℕ) → m.strategy ≡ s → (after_remote m t).strategy ≡ s
  remoted m t is = by_machine (is_issued m.tasks.table t) _ _ (by_machine (has_finished (value_at m.tasks.table t) || is_waiting m.inbox t) _ _ is is) is

  stepped : (m : Machine) (e : Event) (answer : Report) (new : Machine) → m.strategy ≡ s → Step m e answer new → new.strategy ≡ s
  stepped m (event.Act a) answer new is at = ap (λ x. x.strategy) at.1 ∙ after_act m is a
  stepped m (event.Turn steps e) answer new is at = ap (λ x. x.strategy) at.1 ∙ turned m.tasks.queue steps e m is
  stepped m (event.Clock n) answer new is at = clocked m n answer new is at
  stepped m (event.Remote t) answer new is at = ap (λ x. x.strategy) at.1 ∙ remoted m t is
  stepped m event.Drain answer new is at = ap (λ x. x.strategy) at.1 ∙ is

  followed : (old new : Machine) (part : List Entry) → old.strategy ≡ s → Follows old part new → new.strategy ≡ s
  followed old new [] is p = ap (λ x. x.strategy) p ∙ is
  followed old new (Ran e r ∷ part) is (mid, at, rest) = followed mid new part (stepped old e r mid is at) rest
  followed old new (Now n ∷ part) is p = followed old new part is p
  followed old new (Park v ∷ part) is p = followed old new part is p

module _ {O P : Type 0} (number : O → ℕ) where
  -- so the pool's strategy stays in each call that goes along
  pub same_strategy : (R : Machine → List Entry → Machine → List Entry → Type 0) (c d : Parts O (Seen P)) (j k : Journal) → Does number R c d j k
      → (m : Machine) → MatchesValid number hosting_of c m → strategy_of d.blocking.pool ≡ strategy_of c.blocking.pool
  same_strategy R c d j k does m st =
      let went : Went number c d j k m = (does.did m st).went in
      went.matches.matches.strategy ∙ followed m.strategy m went.new went.part refl went.follows ∙ sym st.matches.strategy
