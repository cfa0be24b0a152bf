use Rattle.std.proofs.Common.{rules, ◌≡◌, ◌<◌, Some, refl, ap, sym, ◌∙◌, length}
use Rattle.std.specs.Prelude.{slice_get}
use Rattle.std.proofs.lemmas.Option.{slice_get_read}
use Rattle.mono_model.specs.Table.{value_at}
use Rattle.mono_wheel.specs.Model.{timed_at}
use Rattle.mono_time.specs.Instants.{nanos_of}
use Rattle.mono_time.specs.Sleeps.{woken_by_reset}
use Rattle.mono_time.specs.Entries.{kept_in}
use Rattle.mono_model.specs.Ticks.{up}
use Rattle.mono_time.specs.SlotRegistration.{registered_in, registered_under, registered_at, reset_registered}
use Rattle.mono_time.proofs.SlotRegistrationLemmas.{registers, reset-at, above-armed}
use Rattle.mono_time.proofs.FitLemmas.{ahead-reset}
use Rattle.mono_time.proofs.RefinementLemmas.{none_there}
use Rattle.mono_time.proofs.KeyCallLemmas.{turned-reset}
use Rattle.mono_time.proofs.TimersWriteLemmas.{key_inside, is_in-entry, holds-turned, table-turned, table-there, none-there, table_kept}
use Rattle.mono_time.proofs.ResetLemmas.{machine-reset, answered}
use Rattle.mono_time.proofs.timers.Timers.reset.Goals as goal

pub index_mut-entry-requires : goal.index_mut-entry-requires
index_mut-entry-requires c =
    let t = c.args.self.now in
    let inside : c.in-Some.key < length t.entries.items = key_inside t.wheel t.keys t.entries.items t.greatest t.live t.holds c.args.sleep c.in-Some.key (sym c.in-Some.ensures) in
    search rules

pub reset_entry-requires-clause-is_in : goal.reset_entry-requires-clause-is_in
reset_entry-requires-clause-is_in c =
    let t = c.args.self.now in
    let k = c.in-Some.key in
    let at : value_at t.keys c.args.sleep ≡ Some k = sym c.in-Some.ensures in
    let e = c.index_mut-entry.result.now in
    let was : slice_get t.entries.items k ≡ Some e = slice_get_read t.entries.items _ k e refl (key_inside t.wheel t.keys t.entries.items t.greatest t.live t.holds c.args.sleep k at) c.index_mut-entry.ensures.value in
    is_in-entry t.wheel t.keys t.entries.items t.greatest t.live t.holds c.args.sleep k e at was

pub invariant_of-self : goal.invariant_of-self
invariant_of-self c =
    let t = c.args.self.now in
    let s = c.args.sleep in
    let k = c.in-Some.key in
    let at : value_at t.keys s ≡ Some k = sym c.in-Some.ensures in
    let e = c.index_mut-entry.result.now in
    let was : slice_get t.entries.items k ≡ Some e = slice_get_read t.entries.items _ k e refl (key_inside t.wheel t.keys t.entries.items t.greatest t.live t.holds s k at) c.index_mut-entry.ensures.value in
    let done = c.reset_entry.ensures in
    let turned = turned-reset t.wheel k t.greatest c.reset_entry.new.wheel c.tick-tick.result e.state c.reset_entry.new.entry.state c.reset_entry.result done.reset in
    record { holds = holds-turned t.wheel t.keys t.entries.items t.greatest t.live t.holds s k e at was c.reset_entry.new.wheel c.reset_entry.new.entry done.sleep _ turned.0 (ahead-reset t.wheel c.reset_entry.new.wheel t.holds.ahead k t.greatest t.holds.elapsed c.tick-tick.result e.state c.reset_entry.new.entry.state c.reset_entry.result done.reset) }

pub returns-in-None-clause-answer : goal.returns-in-None-clause-answer
returns-in-None-clause-answer c = let t = c.args.self.now in rw (none-there t.wheel t.keys t.entries.items c.args.sleep (sym c.in-None.ensures)) refl

pub returns-in-None-clause-sleeps : goal.returns-in-None-clause-sleeps
returns-in-None-clause-sleeps c = let t = c.args.self.now in rw (none-there t.wheel t.keys t.entries.items c.args.sleep (sym c.in-None.ensures)) refl

pub returns-in-None-clause-stands : goal.returns-in-None-clause-stands
returns-in-None-clause-stands c = λ m st. let t = c.args.self.now in rw (none_there t.wheel t.keys t.entries.items t.greatest t.limit m st c.args.sleep (sym c.in-None.ensures)) (refl, st)

pub returns-in-Some-clause-answer : goal.returns-in-Some-clause-answer
returns-in-Some-clause-answer c =
    let t = c.args.self.now in
    let s = c.args.sleep in
    let k = c.in-Some.key in
    let at : value_at t.keys s ≡ Some k = sym c.in-Some.ensures in
    let e = c.index_mut-entry.result.now in
    let was : slice_get t.entries.items k ≡ Some e = slice_get_read t.entries.items _ k e refl (key_inside t.wheel t.keys t.entries.items t.greatest t.live t.holds s k at) c.index_mut-entry.ensures.value in
    let done = c.reset_entry.ensures in
    let turned = turned-reset t.wheel k t.greatest c.reset_entry.new.wheel c.tick-tick.result e.state c.reset_entry.new.entry.state c.reset_entry.result done.reset in
    rw (table-there t.wheel t.keys t.entries.items t.greatest t.live t.holds s k e at was)
    (ap answered (turned.1 ∙ ap (λ tick. woken_by_reset t.greatest tick (kept_in (timed_at t.wheel k) e.state)) c.tick-tick.ensures.tick))

pub returns-in-Some-clause-sleeps : goal.returns-in-Some-clause-sleeps
returns-in-Some-clause-sleeps c =
    let t = c.args.self.now in
    let s = c.args.sleep in
    let k = c.in-Some.key in
    let at : value_at t.keys s ≡ Some k = sym c.in-Some.ensures in
    let e = c.index_mut-entry.result.now in
    let was : slice_get t.entries.items k ≡ Some e = slice_get_read t.entries.items _ k e refl (key_inside t.wheel t.keys t.entries.items t.greatest t.live t.holds s k at) c.index_mut-entry.ensures.value in
    let done = c.reset_entry.ensures in
    let turned = turned-reset t.wheel k t.greatest c.reset_entry.new.wheel c.tick-tick.result e.state c.reset_entry.new.entry.state c.reset_entry.result done.reset in
    rw (table-there t.wheel t.keys t.entries.items t.greatest t.live t.holds s k e at was, table-turned t.wheel t.keys t.entries.items t.greatest t.live t.holds s k e at was c.reset_entry.new.wheel c.reset_entry.new.entry done.sleep _ turned.0, c.tick-tick.ensures.tick) refl

pub returns-in-Some-clause-stands : goal.returns-in-Some-clause-stands
returns-in-Some-clause-stands c = λ m st.
    let t = c.args.self.now in
    let s = c.args.sleep in
    let k = c.in-Some.key in
    let at : value_at t.keys s ≡ Some k = sym c.in-Some.ensures in
    let e = c.index_mut-entry.result.now in
    let was : slice_get t.entries.items k ≡ Some e = slice_get_read t.entries.items _ k e refl (key_inside t.wheel t.keys t.entries.items t.greatest t.live t.holds s k at) c.index_mut-entry.ensures.value in
    let done = c.reset_entry.ensures in
    machine-reset t.wheel c.reset_entry.new.wheel t.keys t.entries.items t.greatest t.live t.limit t.holds s k e c.reset_entry.new.entry at was done.sleep c.tick-tick.result c.reset_entry.result m st (nanos_of c.args.deadline) c.tick-tick.ensures.tick done.reset

pub returns-in-None-clause-registered : goal.returns-in-None-clause-registered
returns-in-None-clause-registered c = λ none. let t = c.args.self.now in rw (none-there t.wheel t.keys t.entries.items c.args.sleep (sym c.in-None.ensures)) (record { here = refl; others = λ q apart. refl })

pub returns-in-Some-clause-registered : goal.returns-in-Some-clause-registered
returns-in-Some-clause-registered c = λ none.
    let t = c.args.self.now in
    let s = c.args.sleep in
    let k = c.in-Some.key in
    let at : value_at t.keys s ≡ Some k = sym c.in-Some.ensures in
    let e = c.index_mut-entry.result.now in
    let was : slice_get t.entries.items k ≡ Some e = slice_get_read t.entries.items _ k e refl (key_inside t.wheel t.keys t.entries.items t.greatest t.live t.holds s k at) c.index_mut-entry.ensures.value in
    let done = c.reset_entry.ensures in
    let left = c.reset_entry.new.wheel in
    let turned = turned-reset t.wheel k t.greatest left c.tick-tick.result e.state c.reset_entry.new.entry.state c.reset_entry.result done.reset in
    let there = table-there t.wheel t.keys t.entries.items t.greatest t.live t.holds s k e at was in
    let table = table_kept t.wheel t.keys t.entries.items in
    let above = above-armed t.greatest (timed_at t.wheel k) e.state (λ tick waker is. none s tick waker (there ∙ is)) in
    let here = reset-at t.wheel left k t.greatest c.tick-tick.result e.state c.reset_entry.new.entry.state c.reset_entry.result done.reset t.holds.elapsed above in
    registers t.wheel left t.keys t.entries.items t.greatest t.live t.holds s k at turned.0.others (reset_registered t.greatest (up (nanos_of c.args.deadline)) (value_at table s) (registered_at t.wheel t.keys s))
    (here ∙ ap (λ tick. reset_registered t.greatest tick (Some (kept_in (timed_at t.wheel k) e.state)) (registered_in (timed_at t.wheel k))) c.tick-tick.ensures.tick
    ∙ ap (λ v. reset_registered t.greatest (up (nanos_of c.args.deadline)) v (registered_in (timed_at t.wheel k))) (sym there)
    ∙ ap (reset_registered t.greatest (up (nanos_of c.args.deadline)) (value_at table s)) (sym (ap (registered_under t.wheel) at)))
