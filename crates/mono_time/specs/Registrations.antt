-- The tick at which each armed sleep is registered in the wheel, along a run of the machine. Arming anew registers a
-- sleep at its tick, and arming with the same arm number keeps the registered tick. When the clock reaches or passes
-- the start of its slot, a sleep is registered at its own tick.
use Rattle.std.specs.Prelude.{◌≡◌, ℕ, ◌==◌, if◌then◌else◌, List, [], ◌∷◌, Option, Some, None, nat_lt, nat_le}
use Rattle.mono_model.specs.Ticks.{max_nanos}
use Rattle.mono_model.specs.Table.{value_at}
use Rattle.mono_model.specs.Sleeps.{Sleep, Sleeps, Arming, fresh, armed, elapsed}
use Rattle.mono_wheel.specs.Start.{start, top_level}
use Rattle.mono_time.specs.SlotRegistration.{FirstSlot}
use Rattle.mono_time.specs.Timers.{registered_of}
use Rattle.mono_time.specs.declared.timers.Timers.{Timers}
use Rattle.mono_machine.specs.Machine.{Machine}
use Rattle.mono_machine.specs.Acts.{act_outcome, step_outcome}
use Rattle.mono_machine.specs.Turns.{after_begin}
use Rattle.mono_machine.specs.Steps.{greatest_at}
use Rattle.mono_machine.specs.declared.events.Event.{Event}
use Rattle.mono_machine.specs.declared.events.Event.TheVariants as event
use Rattle.mono_machine.specs.declared.events.TurnStep.{TurnStep}

-- The registered tick of a sleep that is armed after an act: its own if it was armed anew, else the old one.
abbrev pub armed_by_act : Option Sleep → Arming → Option ℕ → Option ℕ
armed_by_act None a registered = Some a.tick
armed_by_act (Some (fresh nanos)) a registered = Some a.tick
armed_by_act (Some (armed before)) a registered = if before.arm == a.arm then registered else Some a.tick
armed_by_act (Some elapsed) a registered = Some a.tick

-- The registered tick of a sleep that is not armed after an act: none if it was armed before.
abbrev pub unarmed_by_act : Option Sleep → Option ℕ → Option ℕ
unarmed_by_act None registered = registered
unarmed_by_act (Some (fresh nanos)) registered = registered
unarmed_by_act (Some (armed before)) registered = None
unarmed_by_act (Some elapsed) registered = registered

-- The registered tick after an act or a poll, by the sleep before and after.
abbrev pub by_act : Option Sleep → Option Sleep → Option ℕ → Option ℕ
by_act was None registered = unarmed_by_act was registered
by_act was (Some (fresh nanos)) registered = unarmed_by_act was registered
by_act was (Some (armed a)) registered = armed_by_act was a registered
by_act was (Some elapsed) registered = unarmed_by_act was registered

-- The registered tick of a sleep with this tick, once the clock moved from one tick to another.
abbrev pub gone_on : ℕ → ℕ → ℕ → Option ℕ → Option ℕ
gone_on old new tick None = None
gone_on old new tick (Some registered) = Some (if nat_le (start top_level old registered) new then tick else registered)

-- The registered tick after a clock step from one greatest tick to another, by the sleep before it. A due sleep has
-- fired.
abbrev pub by_clock : ℕ → ℕ → Option Sleep → Option ℕ → Option ℕ
by_clock old new None registered = registered
by_clock old new (Some (fresh nanos)) registered = registered
by_clock old new (Some (armed a)) registered = if nat_le a.tick new then None else gone_on old new a.tick registered
by_clock old new (Some elapsed) registered = registered

-- The registered tick of the sleep with this number, after an act or a poll.
abbrev pub registered_by_act : Sleeps → Sleeps → ℕ → Option ℕ → Option ℕ
registered_by_act old new s registered = by_act (value_at old.table s) (value_at new.table s) registered

abbrev pub registered_by_steps : ℕ → List TurnStep → Machine → ℕ → Option ℕ → Option ℕ
registered_by_steps me [] m s registered = registered
registered_by_steps me (step ∷ steps) m s registered =
    registered_by_steps me steps (step_outcome me step m).machine s (registered_by_act m.sleeps (step_outcome me step m).machine.sleeps s registered)

-- The registered tick after a turn of the task at the queue's front.
abbrev pub registered_by_turn : List ℕ → List TurnStep → Machine → ℕ → Option ℕ → Option ℕ
registered_by_turn [] steps m s registered = registered
registered_by_turn (front ∷ rest) steps m s registered = registered_by_steps front steps (after_begin front rest m) s registered

-- The registered tick of the sleep with this number after an event, by its registered tick before.
abbrev pub registered_after : Event → Machine → ℕ → Option ℕ → Option ℕ
registered_after (event.Act a) m s registered = registered_by_act m.sleeps (act_outcome a m).machine.sleeps s registered
registered_after (event.Turn steps e) m s registered = registered_by_turn m.tasks.queue steps m s registered
registered_after (event.Clock n) m s registered =
    if nat_lt max_nanos n then registered else by_clock m.sleeps.greatest (greatest_at m n) (value_at m.sleeps.table s) registered
registered_after (event.Remote t) m s registered = registered
registered_after event.Drain m s registered = registered

-- The next tick at which the wheel has something to do, if no sleep is due: the least start of a slot over the
-- registered ticks, and None if and only if nothing is registered.
abbrev pub IsNext : ℕ → (ℕ → Option ℕ) → Option ℕ → Type 0
IsNext greatest registered None = (s : ℕ) → registered s ≡ None
IsNext greatest registered (Some next) = FirstSlot greatest registered next

-- The table's registered ticks followed an act from some sleeps to others.
abbrev pub FollowsAct : Timers → Timers → Sleeps → Sleeps → Type 0
FollowsAct old new before after = (s : ℕ) → registered_of new s ≡ registered_by_act before after s (registered_of old s)
