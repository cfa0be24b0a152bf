use Rattle.std.proofs.Common.{rules, ◌≡◌, ◌<◌, Some, refl, ap, sym, ◌∙◌, length}
use Rattle.std.specs.Prelude.{slice_get}
use Rattle.std.proofs.lemmas.Option.{slice_get_read}
use Rattle.mono_model.specs.Table.{value_at}
use Rattle.mono_wheel.specs.Model.{timed_at}
use Rattle.mono_time.proofs.RefinementLemmas.{none_there}
use Rattle.mono_time.proofs.TimersWriteLemmas.{key_inside, table-there, none-there}
use Rattle.mono_time.proofs.ElapsedLemmas.{elapsed-kept, machine-elapsed, answered}
use Rattle.mono_time.proofs.timers.Timers.is_elapsed.Goals as goal

pub index-requires : goal.index-requires
index-requires c =
    let t = c.args.self.now in
    let inside : c.in-Some.key < length t.entries.items = key_inside t.wheel t.keys t.entries.items t.greatest t.live t.holds c.args.sleep c.in-Some.key (sym c.in-Some.ensures) in
    search rules

pub returns-in-None-clause-answer : goal.returns-in-None-clause-answer
returns-in-None-clause-answer c = let t = c.args.self.now in rw (none-there t.wheel t.keys t.entries.items c.args.sleep (sym c.in-None.ensures)) refl

pub returns-in-None-clause-stands : goal.returns-in-None-clause-stands
returns-in-None-clause-stands c = λ m st. let t = c.args.self.now in rw (none_there t.wheel t.keys t.entries.items t.greatest t.limit m st c.args.sleep (sym c.in-None.ensures)) refl

pub returns-in-Some-clause-answer : goal.returns-in-Some-clause-answer
returns-in-Some-clause-answer c =
    let t = c.args.self.now in
    let s = c.args.sleep in
    let k = c.in-Some.key in
    let at : value_at t.keys s ≡ Some k = sym c.in-Some.ensures in
    let e = c.index.result.now in
    let was : slice_get t.entries.items k ≡ Some e = slice_get_read t.entries.items _ k e refl (key_inside t.wheel t.keys t.entries.items t.greatest t.live t.holds s k at) c.index.ensures in
    rw (table-there t.wheel t.keys t.entries.items t.greatest t.live t.holds s k e at was) (ap answered (c.is_elapsed.ensures ∙ elapsed-kept (timed_at t.wheel k) e.state))

pub returns-in-Some-clause-stands : goal.returns-in-Some-clause-stands
returns-in-Some-clause-stands c = λ m st.
    let t = c.args.self.now in
    let s = c.args.sleep in
    let k = c.in-Some.key in
    let at : value_at t.keys s ≡ Some k = sym c.in-Some.ensures in
    let e = c.index.result.now in
    let was : slice_get t.entries.items k ≡ Some e = slice_get_read t.entries.items _ k e refl (key_inside t.wheel t.keys t.entries.items t.greatest t.live t.holds s k at) c.index.ensures in
    ap answered c.is_elapsed.ensures ∙ machine-elapsed t.wheel t.keys t.entries.items t.greatest t.live t.limit t.holds s k e at was m st
