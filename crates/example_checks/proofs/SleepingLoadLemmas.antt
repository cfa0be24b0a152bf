-- The output of a load with one sleep.
use Rattle.std.proofs.Common.{◌≡◌, ℕ, zero, suc, ◌+◌, ◌*◌, ◌^◌, ◌-◌, ◌<◌, ◌≤◌, List, [], ◌∷◌, ◌++◌, length, flat_map, Option, Some, false, codes, lit≤, lit<, refl, sym, ap, subst, ◌∙◌, arith}
use Rattle.mono_model.specs.Table.{value_at}
use Rattle.mono_model.specs.Sleeps.{Arming, armed, elapsed, MayFire, IsDueSleep}
use Rattle.mono_model.specs.Random.{seeded, drawn}
use Rattle.mono_machine.specs.Machine.{Machine, start_machine}
use Rattle.mono_machine.specs.Acts.{act_outcome}
use Rattle.mono_machine.specs.Turns.{turn_report_for, turn_report, after_turn}
use Rattle.mono_machine.specs.Steps.{Run, after_fires, at_clock, greatest_at}
use Rattle.mono_machine.specs.declared.events.Act.TheVariants as act
use Rattle.mono_machine.specs.declared.events.Query.TheVariants as query
use Rattle.mono_machine.specs.declared.events.TurnStep.{TurnStep}
use Rattle.mono_machine.specs.declared.events.TurnStep.TheVariants as step
use Rattle.mono_machine.specs.declared.events.End.TheVariants as end
use Rattle.mono_machine.specs.declared.events.Event.{Event}
use Rattle.mono_machine.specs.declared.events.Event.TheVariants as event
use Rattle.mono_machine.specs.declared.events.Blocking.TheVariants as blocking
use Rattle.mono_machine.specs.declared.events.Report.{Report}
use Rattle.mono_machine.specs.declared.events.Report.TheVariants as report
use Rattle.mono_replay.specs.Load.{load_limits, sleep_turn, clocks, endings, fired_in, total_of, refusals_in, order_from}
use Rattle.mono_script.specs.declared.command.Command.TheVariants as command
use Rattle.mono_script.specs.declared.ends.Status.TheVariants as status
use Rattle.mono_script.specs.Command.{IsCommand}
use Rattle.mono_script.specs.Meanings.{loading}
use Rattle.mono_script.specs.TopCall.{view_of}
use Rattle.example_checks.specs.Outputs.{line, Gives, Ended}
use Rattle.example_checks.proofs.NumberTextLemmas.{zero_text, one_text, nineteen_text}
use Rattle.example_checks.proofs.OutputLemmas.{IsOnly, gives}

abbrev pub words : List (List ℕ)
words = codes "load" ∷ codes "1" ∷ codes "1" ∷ []

abbrev pub output : List ℕ
output = line (codes "events 19 fired 1 refused 0 order 1")

is_command : IsCommand words (command.Load 1 1)
is_command = record { text = rw one_text refl; fit = (lit< tt, lit≤ tt) }

-- the generator of this seed draws two milliseconds
two_drawn : drawn (seeded 1) ≡ 2
two_drawn = refl

-- ---- clock steps
none_due : (g s : ℕ) → IsDueSleep (value_at (Some elapsed ∷ []) s) g → ⊥
none_due g zero due = due
none_due g (suc s) due = due

none_fire : (g : ℕ) (fired : List ℕ) → MayFire (Some elapsed ∷ []) g fired → fired ≡ []
none_fire g [] may = refl
none_fire g (s ∷ fired) may = absurd (none_due g s ((may.all_due s).0 (0, omega arith, refl)))

first_due : (a : Arming) (g s : ℕ) → IsDueSleep (value_at (Some (armed a) ∷ []) s) g → s ≡ 0
first_due a g zero due = refl
first_due a g (suc s) due = absurd due

one_fires : (a : Arming) (g : ℕ) (fired : List ℕ) → a.tick ≤ g → MayFire (Some (armed a) ∷ []) g fired → fired ≡ 0 ∷ []
one_fires a g [] come may = let (k, inside, at) = (may.all_due 0).1 come in absurd (omega (arith, inside))
one_fires a g (x ∷ []) come may = ap (λ s. s ∷ []) (first_due a g x ((may.all_due x).0 (0, omega arith, refl)))
one_fires a g (x ∷ y ∷ fired) come may =
    absurd (may.no_doubles 0 1 0 (omega arith) (omega arith) (first_due a g x ((may.all_due x).0 (0, omega arith, refl)) ∙ sym (first_due a g y ((may.all_due y).0 (1, omega arith, refl)))))

-- These reports list these sleeps, and have no refusal.
record Sums (told : List Report) (fired : List ℕ) : Type 0 where
  fires : flat_map fired_in told ≡ fired
  refuses : total_of refusals_in told ≡ 0

-- the last turn, of a task that is queued
last_turn : (m : Machine) (a : Report) → m.tasks.queue ≡ 0 ∷ [] → a ≡ turn_report [] (end.Ready 0) m → Sums (a ∷ []) []
last_turn m a queue is =
    let told : a ≡ turn_report_for (0 ∷ []) [] (end.Ready 0) m = is ∙ ap (λ q. turn_report_for q [] (end.Ready 0) m) queue in
    let none : refusals_in a ≡ 0 = ap refusals_in told in
    record { fires = ap (λ r. fired_in r ++ []) told; refuses = omega (arith, none) }

-- no clock step fires a sleep that has elapsed
all_rest : (n j : ℕ) (m : Machine) (told : List Report) (last : Machine) → j + n ≤ 17 → m.sleeps.table ≡ Some elapsed ∷ [] → m.tasks.queue ≡ 0 ∷ [] → Run m (clocks j n ++ endings 1) told last → Sums told []
all_rest zero j m [] last few none queue r = absurd r
all_rest zero j m (a ∷ []) last few none queue r = last_turn m a queue r.1.0
all_rest zero j m (a ∷ b ∷ told) last few none queue r = absurd r.2
all_rest (suc n) j m [] last few none queue r = absurd r
all_rest (suc n) j m (report.Fired fired ∷ told) last few none queue r =
    let empty : fired ≡ [] = none_fire (greatest_at m (j * 268435456000000)) fired (subst (λ t. MayFire t (greatest_at m (j * 268435456000000)) fired) none r.1.1) in
    let mid : r.0 ≡ at_clock m (j * 268435456000000) = r.1.2 ∙ ap (after_fires (at_clock m (j * 268435456000000))) empty in
    let rest : Sums told [] = all_rest n (j + 1) r.0 told last (omega (arith, few)) (ap (λ x. x.sleeps.table) mid ∙ none) (ap (λ x. x.tasks.queue) mid ∙ queue) r.2 in
    record { fires = ap (λ xs. xs ++ flat_map fired_in told) empty ∙ rest.fires; refuses = omega (arith, rest.refuses) }
all_rest (suc n) j m (report.Reply a ∷ told) last few none queue r = absurd (omega (arith, few, r.1.0))
all_rest (suc n) j m (report.Turn t replies ended ∷ told) last few none queue r = absurd r.1
all_rest (suc n) j m (report.Listed ∷ told) last few none queue r = absurd r.1
all_rest (suc n) j m (report.Unlisted ∷ told) last few none queue r = absurd r.1
all_rest (suc n) j m (report.Drained tasks ∷ told) last few none queue r = absurd r.1

-- ---- the task and its sleep
abbrev start : Machine
start = start_machine (load_limits 1) blocking.Panic

abbrev after_spawn : Machine
after_spawn = (act_outcome act.Spawn start).machine

abbrev sleeps : List TurnStep
sleeps = step.Act (act.NewSleep (2 * 1000000)) ∷ step.Query (query.Sleep 0) ∷ []

abbrev asleep : Machine
asleep = after_turn sleeps end.Pending after_spawn

abbrev arming : Arming
arming = record { tick = 2; arm = 0; is_moved = false; waker = Some 0 }

its_sleep : asleep.sleeps.table ≡ Some (armed arming) ∷ []
its_sleep = refl

abbrev first_step : ℕ
first_step = 1 * 268435456000000

abbrev awake : Machine
awake = after_fires (at_clock asleep first_step) (0 ∷ [])

-- the sleep fires at the first clock step
first_clock : (m : Machine) (told : List Report) (last : Machine) → m ≡ asleep → Run m (clocks 1 16 ++ endings 1) told last → Sums told (0 ∷ [])
first_clock m [] last is r = absurd r
first_clock m (report.Fired fired ∷ told) last is r =
    let may : MayFire (Some (armed arming) ∷ []) (greatest_at asleep first_step) fired = subst (λ x. MayFire x.sleeps.table (greatest_at x first_step) fired) is r.1.1 in
    let one : fired ≡ 0 ∷ [] = one_fires arming (greatest_at asleep first_step) fired (lit≤ tt) may in
    let mid : r.0 ≡ awake = r.1.2 ∙ ap (λ x. after_fires (at_clock x first_step) fired) is ∙ ap (after_fires (at_clock asleep first_step)) one in
    let rest : Sums told [] = all_rest 15 2 r.0 told last (lit≤ tt) (ap (λ x. x.sleeps.table) mid) (ap (λ x. x.tasks.queue) mid) r.2 in
    record { fires = ap (λ xs. xs ++ flat_map fired_in told) one ∙ ap (λ xs. 0 ∷ xs) rest.fires; refuses = omega (arith, rest.refuses) }
first_clock m (report.Reply a ∷ told) last is r = absurd (omega (arith, r.1.0))
first_clock m (report.Turn t replies ended ∷ told) last is r = absurd r.1
first_clock m (report.Listed ∷ told) last is r = absurd r.1
first_clock m (report.Unlisted ∷ told) last is r = absurd r.1
first_clock m (report.Drained tasks ∷ told) last is r = absurd r.1

abbrev events : ℕ → List Event
events millis = event.Act act.Spawn ∷ sleep_turn 0 millis ∷ (clocks 1 16 ++ endings 1)

whole : (told : List Report) (last : Machine) → Run start (events 2) told last → Sums told (0 ∷ [])
whole [] last r = absurd r
whole (a ∷ []) last r = absurd r.2
whole (a ∷ b ∷ told) last (first, spawn, (second, turn, rest)) =
    let made : a ≡ report.Reply (act_outcome act.Spawn start).reply = spawn.0 in
    let slept : b ≡ turn_report sleeps end.Pending after_spawn = turn.0 ∙ ap (turn_report sleeps end.Pending) spawn.1 in
    let sums : Sums told (0 ∷ []) = first_clock second told last (turn.1 ∙ ap (after_turn sleeps end.Pending) spawn.1) rest in
    let none : refusals_in a ≡ 0 = ap refusals_in made in
    let later : refusals_in b ≡ 0 = ap refusals_in slept in
    record {
      fires = ap (λ x. fired_in x ++ (fired_in b ++ flat_map fired_in told)) made ∙ ap (λ x. fired_in x ++ flat_map fired_in told) slept ∙ sums.fires;
      refuses = omega (arith, none, later, sums.refuses);
    }

only : IsOnly (loading 1 1) [] status.Done output
only s text (is, (sum, summed, written)) =
    let sums : Sums summed.reports (0 ∷ []) = whole summed.reports summed.last (subst (λ d. Run start (events d) summed.reports summed.last) two_drawn summed.run) in
    let many : sum.events ≡ 19 = summed.events in
    let fired : sum.fired ≡ 1 = summed.fired ∙ ap length sums.fires in
    let refused : sum.refused ≡ 0 = summed.refused ∙ sums.refuses in
    let order : sum.order ≡ 1 = summed.order ∙ ap (order_from 0) sums.fires in
    (is, written ∙ rw (many, fired, refused, order, zero_text, one_text, nineteen_text) refl)

pub sleeping_load_gives : (before after : Option (List ℕ)) (faults later code : ℕ) → faults < 2 ^ 64 - 1 → Ended words [] before after faults later code → Gives 0 output before after code
sleeping_load_gives before after faults later code few p =
    gives words p.0 (view_of (Some []) 0 before faults p.2.0) (view_of p.1 0 after later p.2.1) code (command.Load 1 1) [] output status.Done
    refl refl few p.2.2 is_command refl (lit≤ tt) tt only (λ e. p.2.2.done e)
