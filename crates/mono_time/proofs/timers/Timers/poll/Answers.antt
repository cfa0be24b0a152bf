use Rattle.std.proofs.Common.{rules, arith, ◌≡◌, ◌<◌, Some, refl, ap, sym, ◌∙◌, length}
use Rattle.std.specs.Prelude.{slice_get}
use Rattle.std.proofs.lemmas.Option.{slice_get_read}
use Rattle.mono_model.specs.Table.{value_at}
use Rattle.mono_model.specs.SleepAnswers.{poll_of}
use Rattle.mono_wheel.specs.Model.{timed_at}
use Rattle.mono_time.specs.SlotRegistration.{registered_in, registered_under, registered_at, polled_registered}
use Rattle.mono_time.proofs.SlotRegistrationLemmas.{registers, polled-at}
use Rattle.mono_time.proofs.FitLemmas.{ahead-polled}
use Rattle.mono_time.proofs.RefinementLemmas.{none_there}
use Rattle.mono_time.proofs.KeyCallLemmas.{turned-polled}
use Rattle.mono_time.proofs.TimersWriteLemmas.{key_inside, is_in-entry, fresh_below-entry, holds-turned, table-turned, table-there, none-there, table_kept}
use Rattle.mono_time.specs.Timers.{poll_raise}
use Rattle.mono_time.specs.KeyCalls.{entry_raise}
use Rattle.mono_time.proofs.SleepPollLemmas.{machine-polled, answered, poll-raise}
use Rattle.mono_time.proofs.timers.Timers.poll.Goals as goal

pub index_mut-entry-requires : goal.index_mut-entry-requires
index_mut-entry-requires c =
    let t = c.args.self.now in
    let inside : c.in-Some.key < length t.entries.items = key_inside t.wheel t.keys t.entries.items t.greatest t.live t.holds c.args.sleep c.in-Some.key (sym c.in-Some.ensures) in
    search rules

pub poll_entry-is_ready-requires-clause-is_in : goal.poll_entry-is_ready-requires-clause-is_in
poll_entry-is_ready-requires-clause-is_in c =
    let t = c.args.self.now in
    let k = c.in-Some.key in
    let at : value_at t.keys c.args.sleep ≡ Some k = sym c.in-Some.ensures in
    let e = c.index_mut-entry.result.now in
    let was : slice_get t.entries.items k ≡ Some e = slice_get_read t.entries.items _ k e refl (key_inside t.wheel t.keys t.entries.items t.greatest t.live t.holds c.args.sleep k at) c.index_mut-entry.ensures.value in
    is_in-entry t.wheel t.keys t.entries.items t.greatest t.live t.holds c.args.sleep k e at was

pub poll_entry-is_ready-requires-clause-fresh : goal.poll_entry-is_ready-requires-clause-fresh
poll_entry-is_ready-requires-clause-fresh c =
    let t = c.args.self.now in
    let k = c.in-Some.key in
    let at : value_at t.keys c.args.sleep ≡ Some k = sym c.in-Some.ensures in
    let e = c.index_mut-entry.result.now in
    let was : slice_get t.entries.items k ≡ Some e = slice_get_read t.entries.items _ k e refl (key_inside t.wheel t.keys t.entries.items t.greatest t.live t.holds c.args.sleep k at) c.index_mut-entry.ensures.value in
    fresh_below-entry t.wheel t.keys t.entries.items t.greatest t.live t.holds c.args.sleep k e at was

pub invariant_of-self : goal.invariant_of-self
invariant_of-self c =
    let t = c.args.self.now in
    let s = c.args.sleep in
    let k = c.in-Some.key in
    let at : value_at t.keys s ≡ Some k = sym c.in-Some.ensures in
    let e = c.index_mut-entry.result.now in
    let was : slice_get t.entries.items k ≡ Some e = slice_get_read t.entries.items _ k e refl (key_inside t.wheel t.keys t.entries.items t.greatest t.live t.holds s k at) c.index_mut-entry.ensures.value in
    let polled = c.poll_entry-is_ready.ensures in
    let turned = turned-polled t.wheel k t.greatest c.poll_entry-is_ready.new.wheel c.args.by e.state c.poll_entry-is_ready.new.entry.state c.poll_entry-is_ready.result polled.polled (is_in-entry t.wheel t.keys t.entries.items t.greatest t.live t.holds s k e at was) in
    record { holds = holds-turned t.wheel t.keys t.entries.items t.greatest t.live t.holds s k e at was c.poll_entry-is_ready.new.wheel c.poll_entry-is_ready.new.entry polled.sleep _ turned.0 (ahead-polled t.wheel c.poll_entry-is_ready.new.wheel t.holds.ahead k t.greatest t.holds.elapsed c.args.by e.state c.poll_entry-is_ready.new.entry.state c.poll_entry-is_ready.result polled.polled) }

pub returns-in-None-clause-answer : goal.returns-in-None-clause-answer
returns-in-None-clause-answer c = let t = c.args.self.now in rw (none-there t.wheel t.keys t.entries.items c.args.sleep (sym c.in-None.ensures)) refl

pub returns-in-None-clause-sleeps : goal.returns-in-None-clause-sleeps
returns-in-None-clause-sleeps c = let t = c.args.self.now in rw (none-there t.wheel t.keys t.entries.items c.args.sleep (sym c.in-None.ensures)) refl

pub returns-in-None-clause-stands : goal.returns-in-None-clause-stands
returns-in-None-clause-stands c = λ m st. let t = c.args.self.now in rw (none_there t.wheel t.keys t.entries.items t.greatest t.limit m st c.args.sleep (sym c.in-None.ensures)) (refl, st)

pub returns-in-Some-clause-answer : goal.returns-in-Some-clause-answer
returns-in-Some-clause-answer c =
    let t = c.args.self.now in
    let s = c.args.sleep in
    let k = c.in-Some.key in
    let at : value_at t.keys s ≡ Some k = sym c.in-Some.ensures in
    let e = c.index_mut-entry.result.now in
    let was : slice_get t.entries.items k ≡ Some e = slice_get_read t.entries.items _ k e refl (key_inside t.wheel t.keys t.entries.items t.greatest t.live t.holds s k at) c.index_mut-entry.ensures.value in
    let polled = c.poll_entry-is_ready.ensures in
    let turned = turned-polled t.wheel k t.greatest c.poll_entry-is_ready.new.wheel c.args.by e.state c.poll_entry-is_ready.new.entry.state c.poll_entry-is_ready.result polled.polled (is_in-entry t.wheel t.keys t.entries.items t.greatest t.live t.holds s k e at was) in
    rw (table-there t.wheel t.keys t.entries.items t.greatest t.live t.holds s k e at was) (ap answered (c.ready_if.ensures ∙ ap poll_of turned.1))

pub returns-in-Some-clause-sleeps : goal.returns-in-Some-clause-sleeps
returns-in-Some-clause-sleeps c =
    let t = c.args.self.now in
    let s = c.args.sleep in
    let k = c.in-Some.key in
    let at : value_at t.keys s ≡ Some k = sym c.in-Some.ensures in
    let e = c.index_mut-entry.result.now in
    let was : slice_get t.entries.items k ≡ Some e = slice_get_read t.entries.items _ k e refl (key_inside t.wheel t.keys t.entries.items t.greatest t.live t.holds s k at) c.index_mut-entry.ensures.value in
    let polled = c.poll_entry-is_ready.ensures in
    let turned = turned-polled t.wheel k t.greatest c.poll_entry-is_ready.new.wheel c.args.by e.state c.poll_entry-is_ready.new.entry.state c.poll_entry-is_ready.result polled.polled (is_in-entry t.wheel t.keys t.entries.items t.greatest t.live t.holds s k e at was) in
    rw (table-there t.wheel t.keys t.entries.items t.greatest t.live t.holds s k e at was, table-turned t.wheel t.keys t.entries.items t.greatest t.live t.holds s k e at was c.poll_entry-is_ready.new.wheel c.poll_entry-is_ready.new.entry polled.sleep _ turned.0) refl

pub returns-in-Some-clause-stands : goal.returns-in-Some-clause-stands
returns-in-Some-clause-stands c = λ m st.
    let t = c.args.self.now in
    let s = c.args.sleep in
    let k = c.in-Some.key in
    let at : value_at t.keys s ≡ Some k = sym c.in-Some.ensures in
    let e = c.index_mut-entry.result.now in
    let was : slice_get t.entries.items k ≡ Some e = slice_get_read t.entries.items _ k e refl (key_inside t.wheel t.keys t.entries.items t.greatest t.live t.holds s k at) c.index_mut-entry.ensures.value in
    let polled = c.poll_entry-is_ready.ensures in
    let done = machine-polled t.wheel c.poll_entry-is_ready.new.wheel t.keys t.entries.items t.greatest t.live t.limit t.holds s k e c.poll_entry-is_ready.new.entry at was polled.sleep c.args.by c.poll_entry-is_ready.result m st polled.polled in
    (ap answered c.ready_if.ensures ∙ done.0, done.1)

pub returns-in-None-clause-registered : goal.returns-in-None-clause-registered
returns-in-None-clause-registered c = let t = c.args.self.now in rw (none-there t.wheel t.keys t.entries.items c.args.sleep (sym c.in-None.ensures)) (record { here = refl; others = λ q apart. refl })

pub returns-in-Some-clause-registered : goal.returns-in-Some-clause-registered
returns-in-Some-clause-registered c =
    let t = c.args.self.now in
    let s = c.args.sleep in
    let k = c.in-Some.key in
    let at : value_at t.keys s ≡ Some k = sym c.in-Some.ensures in
    let e = c.index_mut-entry.result.now in
    let was : slice_get t.entries.items k ≡ Some e = slice_get_read t.entries.items _ k e refl (key_inside t.wheel t.keys t.entries.items t.greatest t.live t.holds s k at) c.index_mut-entry.ensures.value in
    let polled = c.poll_entry-is_ready.ensures in
    let is_in = is_in-entry t.wheel t.keys t.entries.items t.greatest t.live t.holds s k e at was in
    let turned = turned-polled t.wheel k t.greatest c.poll_entry-is_ready.new.wheel c.args.by e.state c.poll_entry-is_ready.new.entry.state c.poll_entry-is_ready.result polled.polled is_in in
    let here = polled-at t.wheel c.poll_entry-is_ready.new.wheel k t.greatest c.args.by e.state c.poll_entry-is_ready.new.entry.state c.poll_entry-is_ready.result polled.polled is_in in
    let table = table_kept t.wheel t.keys t.entries.items in
    registers t.wheel c.poll_entry-is_ready.new.wheel t.keys t.entries.items t.greatest t.live t.holds s k at turned.0.others (polled_registered t.greatest (value_at table s) (registered_at t.wheel t.keys s))
    (here ∙ ap (λ v. polled_registered t.greatest v (registered_in (timed_at t.wheel k))) (sym (table-there t.wheel t.keys t.entries.items t.greatest t.live t.holds s k e at was))
    ∙ ap (polled_registered t.greatest (value_at table s)) (sym (ap (registered_under t.wheel) at)))

pub returns-in-Some-clause-raise : goal.returns-in-Some-clause-raise
returns-in-Some-clause-raise c =
    let t = c.args.self.now in
    let s = c.args.sleep in
    let k = c.in-Some.key in
    let at : value_at t.keys s ≡ Some k = sym c.in-Some.ensures in
    let e = c.index_mut-entry.result.now in
    let was : slice_get t.entries.items k ≡ Some e = slice_get_read t.entries.items _ k e refl (key_inside t.wheel t.keys t.entries.items t.greatest t.live t.holds s k at) c.index_mut-entry.ensures.value in
    let there = table-there t.wheel t.keys t.entries.items t.greatest t.live t.holds s k e at was in
    let same : poll_raise t.wheel.elapsed (value_at (table_kept t.wheel t.keys t.entries.items) s) ≡ entry_raise t.wheel.elapsed e.state = ap (poll_raise t.wheel.elapsed) there ∙ poll-raise t.wheel.elapsed (timed_at t.wheel k) e.state in
    omega (arith, c.poll_entry-is_ready.ensures.raise, same)
