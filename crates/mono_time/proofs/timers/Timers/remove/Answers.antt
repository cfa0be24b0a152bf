use Rattle.std.proofs.Common.{rules, ◌≡◌, ◌<◌, ◌+◌, ◌-◌, Some, refl, sym, subst, ◌∙◌, length, arith}
use Rattle.std.specs.Prelude.{slice_get}
use Rattle.std.proofs.lemmas.Option.{slice_get_read}
use Rattle.mono_model.specs.Table.{value_at}
use Rattle.mono_time.specs.Representation.{Holds}
use Rattle.mono_time.proofs.CountLemmas.{count_of-gone}
use Rattle.mono_time.proofs.RefinementLemmas.{none_there}
use Rattle.mono_time.proofs.TimersWriteLemmas.{key_inside, is_in-entry, table-there, none-there}
use Rattle.mono_time.proofs.RemovalLemmas.{holds-removed, table-removed, machine-removed}
use Rattle.mono_time.proofs.timers.Timers.remove.Goals as goal

pub index-requires : goal.index-requires
index-requires c =
    let t = c.args.self.now in
    let inside : c.in-Some.key < length t.entries.items = key_inside t.wheel t.keys t.entries.items t.greatest t.live t.holds c.args.sleep c.in-Some.key (sym c.in-Some.ensures) in
    search rules

pub take_out-requires : goal.take_out-requires
take_out-requires c =
    let t = c.args.self.now in
    let s = c.args.sleep in
    let k = c.in-Some.key in
    let at : value_at t.keys s ≡ Some k = sym c.in-Some.ensures in
    let e = c.index.result.now in
    let was : slice_get t.entries.items k ≡ Some e = slice_get_read t.entries.items _ k e refl (key_inside t.wheel t.keys t.entries.items t.greatest t.live t.holds s k at) c.index.ensures in
    is_in-entry t.wheel t.keys t.entries.items t.greatest t.live t.holds s k e at was ∙ sym c.is_armed-is_armed.ensures

pub invariant_of-self : goal.invariant_of-self
invariant_of-self c =
    let t = c.args.self.now in
    let s = c.args.sleep in
    let k = c.in-Some.key in
    let at : value_at t.keys s ≡ Some k = sym c.in-Some.ensures in
    let e = c.index.result.now in
    let was : slice_get t.entries.items k ≡ Some e = slice_get_read t.entries.items _ k e refl (key_inside t.wheel t.keys t.entries.items t.greatest t.live t.holds s k at) c.index.ensures in
    let count : t.live - 1 + 1 ≡ t.live = omega (arith, t.holds.live_count, count_of-gone t.keys s k at) in
    record { holds = subst (λ ks. Holds c.free_entry.new.self ks t.entries.items t.greatest (t.live - 1)) (sym c.remove.ensures) (holds-removed t.wheel c.take_out.new.wheel c.free_entry.new.self t.keys t.entries.items t.greatest t.live t.holds s k at c.take_out.ensures.out c.free_entry.ensures.entries c.free_entry.ensures.elapsed c.free_entry.ensures.others (t.live - 1) count c.free_entry.ensures.gone) }

pub returns-in-None-clause-answer : goal.returns-in-None-clause-answer
returns-in-None-clause-answer c = let t = c.args.self.now in rw (none-there t.wheel t.keys t.entries.items c.args.sleep (sym c.in-None.ensures)) refl

pub returns-in-None-clause-sleeps : goal.returns-in-None-clause-sleeps
returns-in-None-clause-sleeps c = let t = c.args.self.now in rw (none-there t.wheel t.keys t.entries.items c.args.sleep (sym c.in-None.ensures)) refl

pub returns-in-None-clause-stands : goal.returns-in-None-clause-stands
returns-in-None-clause-stands c = λ m st. let t = c.args.self.now in rw (none_there t.wheel t.keys t.entries.items t.greatest t.limit m st c.args.sleep (sym c.in-None.ensures)) (refl, st)

pub returns-in-Some-clause-answer : goal.returns-in-Some-clause-answer
returns-in-Some-clause-answer c =
    let t = c.args.self.now in
    let s = c.args.sleep in
    let k = c.in-Some.key in
    let at : value_at t.keys s ≡ Some k = sym c.in-Some.ensures in
    let e = c.index.result.now in
    let was : slice_get t.entries.items k ≡ Some e = slice_get_read t.entries.items _ k e refl (key_inside t.wheel t.keys t.entries.items t.greatest t.live t.holds s k at) c.index.ensures in
    rw (table-there t.wheel t.keys t.entries.items t.greatest t.live t.holds s k e at was) refl

pub returns-in-Some-clause-sleeps : goal.returns-in-Some-clause-sleeps
returns-in-Some-clause-sleeps c =
    let t = c.args.self.now in
    let s = c.args.sleep in
    let k = c.in-Some.key in
    let at : value_at t.keys s ≡ Some k = sym c.in-Some.ensures in
    let e = c.index.result.now in
    let was : slice_get t.entries.items k ≡ Some e = slice_get_read t.entries.items _ k e refl (key_inside t.wheel t.keys t.entries.items t.greatest t.live t.holds s k at) c.index.ensures in
    rw (c.remove.ensures, table-there t.wheel t.keys t.entries.items t.greatest t.live t.holds s k e at was, table-removed t.wheel c.take_out.new.wheel c.free_entry.new.self t.keys t.entries.items t.greatest t.live t.holds s k at c.take_out.ensures.out c.free_entry.ensures.entries c.free_entry.ensures.elapsed c.free_entry.ensures.others) refl

pub returns-in-Some-clause-stands : goal.returns-in-Some-clause-stands
returns-in-Some-clause-stands c = λ m st.
    let t = c.args.self.now in
    let s = c.args.sleep in
    let k = c.in-Some.key in
    let at : value_at t.keys s ≡ Some k = sym c.in-Some.ensures in
    let e = c.index.result.now in
    let was : slice_get t.entries.items k ≡ Some e = slice_get_read t.entries.items _ k e refl (key_inside t.wheel t.keys t.entries.items t.greatest t.live t.holds s k at) c.index.ensures in
    rw c.remove.ensures (machine-removed t.wheel c.take_out.new.wheel c.free_entry.new.self t.keys t.entries.items t.greatest t.live t.holds s k at c.take_out.ensures.out c.free_entry.ensures.entries c.free_entry.ensures.elapsed c.free_entry.ensures.others t.limit m st c.free_entry.ensures.order e was)
