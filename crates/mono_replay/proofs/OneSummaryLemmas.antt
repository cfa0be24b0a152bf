-- No sleep of a load is moved, so its reports are determined.
use Rattle.std.proofs.Common.{◌≡◌, ◌<◌, ◌≤◌, ◌⊎◌, inl, inr, ℕ, zero, suc, ◌+◌, ◌*◌, Bool, true, false, List, [], ◌∷◌, ◌++◌, Option, Some, None, length, flat_map, refl, sym, ap, subst, ◌∙◌, arith}
use Rattle.std.specs.Prelude.{⊤, if◌then◌else◌, slice_set, nat_lt, nat_le}
use Rattle.mono_model.specs.Ticks.{max_nanos, up}
use Rattle.mono_model.specs.Table.{Table, value_at, is_full, next_number}
use Rattle.mono_model.specs.Tasks.{spawned}
use Rattle.mono_model.specs.Sleeps.{Sleeps, Sleep, fresh, armed, elapsed, IsDueSleep, MayFire, MayFireBefore, with_sleep, armed_anew}
use Rattle.mono_model.specs.SleepActs as sleep
use Rattle.mono_machine.specs.Machine.{Machine, start_machine, with_tasks, with_sleeps}
use Rattle.mono_machine.specs.Acts.{Outcome, answered, refused, act_outcome, query_outcome}
use Rattle.mono_machine.specs.Turns.{after_turn, after_turn_for, after_begin}
use Rattle.mono_machine.specs.Steps.{Run, Step, ClockStep, after_fire, after_fires, at_clock, greatest_at}
use Rattle.mono_machine.specs.declared.events.Blocking.TheVariants as blocking
use Rattle.mono_machine.specs.declared.events.Act.TheVariants as act
use Rattle.mono_machine.specs.declared.events.Query.TheVariants as query
use Rattle.mono_machine.specs.declared.events.TurnStep.{TurnStep}
use Rattle.mono_machine.specs.declared.events.TurnStep.TheVariants as step
use Rattle.mono_machine.specs.declared.events.End.TheVariants as end
use Rattle.mono_machine.specs.declared.events.Event.{Event}
use Rattle.mono_machine.specs.declared.events.Event.TheVariants as event
use Rattle.mono_machine.specs.declared.events.Reply.TheVariants as reply
use Rattle.mono_machine.specs.declared.events.Refusal.TheVariants as refusal
use Rattle.mono_machine.specs.declared.events.Report.{Report}
use Rattle.mono_machine.specs.declared.events.Report.TheVariants as report
use Rattle.mono_model.specs.Random.{seeded, drawn, after_draw}
use Rattle.mono_model.specs.declared.random.FastRand.{FastRand}
use Rattle.mono_replay.specs.Load.{IsSummary, load_limits, load_events, sleep_turn, sleepers, clocks, endings, fired_in, total_of, refusals_in, order_from}
use Rattle.mono_replay.specs.declared.loads.Summary.{Summary}
use Rattle.mono_replay.proofs.OrderLemmas.{one_list}

-- ---- sleeps that were not moved

abbrev IsStill : Option Sleep → Type 0
IsStill None = ⊤
IsStill (Some (fresh nanos)) = ⊤
IsStill (Some (armed a)) = a.is_moved ≡ false
IsStill (Some elapsed) = ⊤

abbrev AreStill : Table Sleep → Type 0
AreStill [] = ⊤
AreStill (v ∷ vs) = IsStill v × AreStill vs

still_at : (table : Table Sleep) (s : ℕ) → AreStill table → IsStill (value_at table s)
still_at [] s still = tt
still_at (v ∷ vs) zero still = still.0
still_at (v ∷ vs) (suc s) still = still_at vs s still.1

still_set : (table : Table Sleep) (s : ℕ) (v : Option Sleep) → AreStill table → IsStill v → AreStill (slice_set table s v)
still_set [] s v still one = tt
still_set (w ∷ ws) zero v still one = (one, still.1)
still_set (w ∷ ws) (suc s) v still one = (still.0, still_set ws s v still.1 one)

still_next : (table : Table Sleep) (v : Option Sleep) → AreStill table → IsStill v → AreStill (table ++ v ∷ [])
still_next [] v still one = (one, tt)
still_next (w ∷ ws) v still one = (still.0, still_next ws v still.1 one)

-- ---- one list of a clock step

one_way : (g : ℕ) (u v : Option Sleep) → IsDueSleep u g → IsDueSleep v g → IsStill u → IsStill v → MayFireBefore u v → MayFireBefore v u → ⊥
one_way g None v du dv su sv p q = du
one_way g (Some (fresh n)) v du dv su sv p q = du
one_way g (Some elapsed) v du dv su sv p q = du
one_way g (Some (armed a)) None du dv su sv p q = dv
one_way g (Some (armed a)) (Some (fresh n)) du dv su sv p q = dv
one_way g (Some (armed a)) (Some elapsed) du dv su sv p q = dv
one_way g (Some (armed a)) (Some (armed b)) du dv su sv p q = elim (p a b refl refl) [
  | inl less ↦ elim (q b a refl refl) [
    | inl more ↦ omega (arith, less, more)
    | inr same ↦ omega (arith, less, same.0)
  ]
  | inr same ↦ elim (q b a refl refl) [
    | inl more ↦ omega (arith, same.0, more)
    | inr other ↦ omega (arith, same.1 su sv, other.1 sv su)
  ]
]

one_firing : (table : Table Sleep) (g : ℕ) (fired other : List ℕ) → AreStill table → MayFire table g fired → MayFire table g other → fired ≡ other
one_firing table g fired other still p q =
    one_list (λ s t. MayFireBefore (value_at table s) (value_at table t)) (λ s. IsDueSleep (value_at table s) g)
    (λ s t ds dt. one_way g (value_at table s) (value_at table t) ds dt (still_at table s still) (still_at table t still))
    fired other p.no_doubles q.no_doubles p.in_order q.in_order
    (λ s there. (q.all_due s).1 ((p.all_due s).0 there)) (λ s there. (p.all_due s).1 ((q.all_due s).0 there)) (λ s there. (p.all_due s).0 there)

-- ---- one report of a step

one_clock : (m : Machine) (n : ℕ) (r s : Report) (next other : Machine) → AreStill m.sleeps.table → ClockStep m n r next → ClockStep m n s other
    → (r ≡ s) × (next ≡ other)
one_clock m n (report.Fired f) (report.Fired g) next other still a b =
    let same = one_firing m.sleeps.table (greatest_at m n) f g still a.1 b.1 in
    (ap (λ ss. report.Fired ss) same, a.2 ∙ ap (λ ss. after_fires (at_clock m n) ss) same ∙ sym b.2)
one_clock m n (report.Fired f) (report.Reply s) next other still a b = absurd (omega (arith, a.0, b.0))
one_clock m n (report.Reply r) (report.Fired g) next other still a b = absurd (omega (arith, a.0, b.0))
one_clock m n (report.Reply r) (report.Reply s) next other still a b = (ap (λ x. report.Reply x) (a.1 ∙ sym b.1), a.2 ∙ sym b.2)
one_clock m n (report.Turn t replies ended) s next other still a b = absurd a
one_clock m n report.Listed s next other still a b = absurd a
one_clock m n report.Unlisted s next other still a b = absurd a
one_clock m n (report.Drained tasks) s next other still a b = absurd a
one_clock m n (report.Fired f) (report.Turn t replies ended) next other still a b = absurd b
one_clock m n (report.Fired f) report.Listed next other still a b = absurd b
one_clock m n (report.Fired f) report.Unlisted next other still a b = absurd b
one_clock m n (report.Fired f) (report.Drained tasks) next other still a b = absurd b
one_clock m n (report.Reply r) (report.Turn t replies ended) next other still a b = absurd b
one_clock m n (report.Reply r) report.Listed next other still a b = absurd b
one_clock m n (report.Reply r) report.Unlisted next other still a b = absurd b
one_clock m n (report.Reply r) (report.Drained tasks) next other still a b = absurd b

one_step : (m : Machine) (e : Event) (r s : Report) (next other : Machine) → AreStill m.sleeps.table → Step m e r next → Step m e s other
    → (r ≡ s) × (next ≡ other)
one_step m (event.Act a) r s next other still p q = (p.0 ∙ sym q.0, p.1 ∙ sym q.1)
one_step m (event.Turn steps e) r s next other still p q = (p.0 ∙ sym q.0, p.1 ∙ sym q.1)
one_step m (event.Clock n) r s next other still p q = one_clock m n r s next other still p q
one_step m (event.Remote t) r s next other still p q = (p.0 ∙ sym q.0, p.1 ∙ sym q.1)
one_step m event.Drain r s next other still p q = (p.0 ∙ sym q.0, p.1 ∙ sym q.1)

-- ---- the events of a load move no sleep

abbrev Keeps : Event → Type 0
Keeps e = (m : Machine) (r : Report) (next : Machine) → AreStill m.sleeps.table → Step m e r next → AreStill next.sleeps.table

abbrev AllKeep : List Event → Type 0
AllKeep [] = ⊤
AllKeep (e ∷ es) = Keeps e × AllKeep es

either_still : (b : Bool) (x y : Outcome) → AreStill x.machine.sleeps.table → AreStill y.machine.sleeps.table → AreStill (if b then x else y).machine.sleeps.table
either_still true x y p q = p
either_still false x y p q = q

spawn_still : (m : Machine) → AreStill m.sleeps.table → AreStill (act_outcome act.Spawn m).machine.sleeps.table
spawn_still m still =
    either_still (is_full m.tasks.table m.tasks.limit) (refused refusal.AtCapacity m) (answered (reply.Task (next_number m.tasks.table)) (with_tasks m (spawned m.tasks))) still still

new_still : (m : Machine) (n : ℕ) → AreStill m.sleeps.table → AreStill (act_outcome (act.NewSleep n) m).machine.sleeps.table
new_still m n still =
    let made : Outcome = answered (reply.Sleep (next_number m.sleeps.table)) (with_sleeps m (sleep.added m.sleeps n)) in
    let within : Outcome = if nat_lt max_nanos n then refused refusal.Invalid m else made in
    either_still (is_full m.sleeps.table m.sleeps.limit) (refused refusal.AtCapacity m) within still
    (either_still (nat_lt max_nanos n) (refused refusal.Invalid m) made still (still_next m.sleeps.table (Some (fresh n)) still tt))

either_table : (b : Bool) (x y : Sleeps) → AreStill x.table → AreStill y.table → AreStill (if b then x else y).table
either_table true x y p q = p
either_table false x y p q = q

polled_still : (sleeps : Sleeps) (s by : ℕ) (v : Option Sleep) → AreStill sleeps.table → IsStill v
    → AreStill (sleep.if_live v sleeps (λ one. sleep.after_poll one sleeps s by)).table
polled_still sleeps s by None still one = still
polled_still sleeps s by (Some (fresh nanos)) still one =
    either_table (nat_le (up nanos) sleeps.greatest) (with_sleep sleeps s elapsed) (armed_anew sleeps s (up nanos) (Some by)) (still_set sleeps.table s (Some elapsed) still tt)
    (still_set sleeps.table s (Some (armed (record { tick = up nanos; arm = sleeps.arm_count; is_moved = false; waker = Some by }))) still refl)
polled_still sleeps s by (Some (armed a)) still one = still_set sleeps.table s (Some (armed (record { tick = a.tick; arm = a.arm; is_moved = a.is_moved; waker = Some by }))) still one
polled_still sleeps s by (Some elapsed) still one = still

poll_still : (me s : ℕ) (m : Machine) → AreStill m.sleeps.table → AreStill (query_outcome me (query.Sleep s) m).machine.sleeps.table
poll_still me s m still = polled_still m.sleeps s me (value_at m.sleeps.table s) still (still_at m.sleeps.table s still)

abbrev sleep_steps : ℕ → ℕ → List TurnStep
sleep_steps k millis = step.Act (act.NewSleep (millis * 1000000)) ∷ step.Query (query.Sleep k) ∷ []

turn_still : (k millis : ℕ) (queue : List ℕ) (m : Machine) → AreStill m.sleeps.table
    → AreStill (after_turn_for queue (sleep_steps k millis) end.Pending m).sleeps.table
turn_still k millis [] m still = still
turn_still k millis (front ∷ rest) m still =
    poll_still front k (act_outcome (act.NewSleep (millis * 1000000)) (after_begin front rest m)).machine (new_still (after_begin front rest m) (millis * 1000000) still)

end_still : (queue : List ℕ) (m : Machine) → AreStill m.sleeps.table → AreStill (after_turn_for queue [] (end.Ready 0) m).sleeps.table
end_still [] m still = still
end_still (front ∷ rest) m still = still

fires_still : (m : Machine) (fired : List ℕ) → AreStill m.sleeps.table → AreStill (after_fires m fired).sleeps.table
fires_still m [] still = still
fires_still m (s ∷ fired) still = fires_still (after_fire m s) fired (still_set m.sleeps.table s (Some elapsed) still tt)

spawn_keeps : Keeps (event.Act act.Spawn)
spawn_keeps = λ m r next still p. subst (λ n. AreStill n.sleeps.table) (sym p.1) (spawn_still m still)

sleep_keeps : (k millis : ℕ) → Keeps (sleep_turn k millis)
sleep_keeps k millis = λ m r next still p. subst (λ n. AreStill n.sleeps.table) (sym p.1) (turn_still k millis m.tasks.queue m still)

end_keeps : Keeps (event.Turn [] (end.Ready 0))
end_keeps = λ m r next still p. subst (λ n. AreStill n.sleeps.table) (sym p.1) (end_still m.tasks.queue m still)

clock_still : (m : Machine) (n : ℕ) (r : Report) (next : Machine) → AreStill m.sleeps.table → ClockStep m n r next → AreStill next.sleeps.table
clock_still m n (report.Fired fired) next still p = subst (λ n. AreStill n.sleeps.table) (sym p.2) (fires_still (at_clock m n) fired still)
clock_still m n (report.Reply r) next still p = subst (λ n. AreStill n.sleeps.table) (sym p.2) still
clock_still m n (report.Turn t replies ended) next still p = absurd p
clock_still m n report.Listed next still p = absurd p
clock_still m n report.Unlisted next still p = absurd p
clock_still m n (report.Drained tasks) next still p = absurd p

sleepers_keep : (n k : ℕ) (random : FastRand) → AllKeep (sleepers k n random)
sleepers_keep zero k random = tt
sleepers_keep (suc n) k random = (spawn_keeps, (sleep_keeps k (drawn random), sleepers_keep n (k + 1) (after_draw random)))

clocks_keep : (n j : ℕ) → AllKeep (clocks j n)
clocks_keep zero j = tt
clocks_keep (suc n) j = (λ m r next still p. clock_still m (j * 268435456000000) r next still p, clocks_keep n (j + 1))

endings_keep : (n : ℕ) → AllKeep (endings n)
endings_keep zero = tt
endings_keep (suc n) = (end_keeps, endings_keep n)

both_keep : (es fs : List Event) → AllKeep es → AllKeep fs → AllKeep (es ++ fs)
both_keep [] fs p q = q
both_keep (e ∷ es) fs p q = (p.0, both_keep es fs p.1 q)

-- ---- one list of reports, one summary

one_run : (events : List Event) (m last other : Machine) (rs qs : List Report) → AllKeep events → AreStill m.sleeps.table → Run m events rs last → Run m events qs other → rs ≡ qs
one_run [] m last other [] [] keep still p q = refl
one_run [] m last other [] (s ∷ qs) keep still p q = absurd q
one_run [] m last other (r ∷ rs) qs keep still p q = absurd p
one_run (e ∷ events) m last other [] qs keep still p q = absurd p
one_run (e ∷ events) m last other (r ∷ rs) [] keep still p q = absurd q
one_run (e ∷ events) m last other (r ∷ rs) (s ∷ qs) keep still p q =
    let one = one_step m e r s p.0 q.0 still p.1 q.1 in
    let rest = one_run events p.0 last other rs qs keep.1 (keep.0 m r p.0 still p.1) p.2 (subst (λ x. Run x events qs other) (sym one.1) q.2) in
    ap (λ x. x ∷ rs) one.0 ∙ ap (λ xs. s ∷ xs) rest

load_keeps : (seed count : ℕ) → AllKeep (load_events seed count)
load_keeps seed count =
    both_keep (sleepers 0 count (seeded seed) ++ clocks 1 16) (endings count)
    (both_keep (sleepers 0 count (seeded seed)) (clocks 1 16) (sleepers_keep count 0 (seeded seed)) (clocks_keep 16 1)) (endings_keep count)

abbrev summary : ℕ → ℕ → ℕ → ℕ → Summary
summary events fired refused order = record { events = events; fired = fired; refused = refused; order = order }

pub one_summary : (seed count : ℕ) (s t : Summary) → IsSummary seed count s → IsSummary seed count t → s ≡ t
one_summary seed count s t p q =
    let start = start_machine (load_limits count) blocking.Panic in
    let same : p.reports ≡ q.reports = one_run (load_events seed count) start p.last q.last p.reports q.reports (load_keeps seed count) tt p.run q.run in
    let fired : s.fired ≡ t.fired = p.fired ∙ ap (λ rs. length (flat_map fired_in rs)) same ∙ sym q.fired in
    let refused : s.refused ≡ t.refused = p.refused ∙ ap (λ rs. total_of refusals_in rs) same ∙ sym q.refused in
    let order : s.order ≡ t.order = p.order ∙ ap (λ rs. order_from 0 (flat_map fired_in rs)) same ∙ sym q.order in
    ap (λ x. summary x s.fired s.refused s.order) (p.events ∙ sym q.events) ∙ ap (λ x. summary t.events x s.refused s.order) fired
    ∙ ap (λ x. summary t.events t.fired x s.order) refused ∙ ap (λ x. summary t.events t.fired t.refused x) order
