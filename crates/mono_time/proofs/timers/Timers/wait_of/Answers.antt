use Rattle.std.proofs.Common.{rules, ◌≡◌, ◌<◌, None, Some, refl, ap, sym, ◌∙◌, length}
use Rattle.std.specs.Prelude.{slice_get}
use Rattle.std.proofs.lemmas.Option.{slice_get_read}
use Rattle.mono_model.specs.Table.{value_at}
use Rattle.mono_wheel.specs.Model.{timed_at, tick_of}
use Rattle.mono_time.specs.Timers.{with_tick}
use Rattle.mono_time.proofs.TimersWriteLemmas.{key_inside, table-there, none-there}
use Rattle.mono_time.proofs.WaitLemmas.{wait-kept}
use Rattle.mono_time.proofs.timers.Timers.wait_of.Goals as goal

pub index-requires : goal.index-requires
index-requires c =
    let t = c.args.self.now in
    let inside : c.in-Some.key < length t.entries.items = key_inside t.wheel t.keys t.entries.items t.greatest t.live t.holds c.args.sleep c.in-Some.key (sym c.in-Some.ensures) in
    search rules

pub returns-in-None : goal.returns-in-None
returns-in-None c = let t = c.args.self.now in rw (none-there t.wheel t.keys t.entries.items c.args.sleep (sym c.in-None.ensures)) refl

pub returns-in-None-waker : goal.returns-in-None-waker
returns-in-None-waker c =
    let t = c.args.self.now in
    let s = c.args.sleep in
    let k = c.in-Some.key in
    let at : value_at t.keys s ≡ Some k = sym c.in-Some.ensures in
    let e = c.index.result.now in
    let was : slice_get t.entries.items k ≡ Some e = slice_get_read t.entries.items _ k e refl (key_inside t.wheel t.keys t.entries.items t.greatest t.live t.holds s k at) c.index.ensures in
    rw (table-there t.wheel t.keys t.entries.items t.greatest t.live t.holds s k e at was) (sym (wait-kept (timed_at t.wheel k) e.state ∙ ap (with_tick (tick_of (timed_at t.wheel k))) (sym c.in-None-waker.ensures)))

pub returns-in-Some-waker : goal.returns-in-Some-waker
returns-in-Some-waker c =
    let t = c.args.self.now in
    let s = c.args.sleep in
    let k = c.in-Some.key in
    let at : value_at t.keys s ≡ Some k = sym c.in-Some.ensures in
    let e = c.index.result.now in
    let was : slice_get t.entries.items k ≡ Some e = slice_get_read t.entries.items _ k e refl (key_inside t.wheel t.keys t.entries.items t.greatest t.live t.holds s k at) c.index.ensures in
    rw (table-there t.wheel t.keys t.entries.items t.greatest t.live t.holds s k e at was)
    (ap (λ n. with_tick n (Some c.in-Some-waker.task)) c.tick_of.ensures ∙ sym (wait-kept (timed_at t.wheel k) e.state ∙ ap (with_tick (tick_of (timed_at t.wheel k))) (sym c.in-Some-waker.ensures)))
