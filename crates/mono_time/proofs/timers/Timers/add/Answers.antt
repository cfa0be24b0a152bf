use Rattle.std.proofs.Common.{rules, ◌≡◌, ◌^◌, ◌+◌, true, false, refl, ap, sym, subst, ◌∙◌, length, set}
use Rattle.std.specs.Prelude.{nat_le, ◌==◌, ◌||◌, ◌-◌}
use Rattle.mono_model.specs.Table.{with_next}
use Rattle.mono_model.proofs.TableOfLemmas.{length-table_of}
use Rattle.mono_time.specs.Instants.{nanos_of}
use Rattle.mono_time.specs.Sleeps.{with_table, with_added_sleep, fresh}
use Rattle.mono_time.specs.Representation.{Holds, kept_at}
use Rattle.mono_model.specs.SleepActs as machine
use Rattle.mono_time.specs.Refinement.{Standing}
use Rattle.mono_time.specs.Timers.{sleeps_of}
use Rattle.mono_time.specs.declared.entry.State.TheVariants.{Fresh}
use Rattle.mono_time.specs.SlotRegistration.{registered_at}
use Rattle.mono_time.proofs.SlotRegistrationLemmas.{registered-added}
use Rattle.mono_time.proofs.RefinementLemmas.{same_length}
use Rattle.mono_time.proofs.TimersWriteLemmas.{table_kept}
use Rattle.mono_time.proofs.NewSleepLemmas.{full-kept, full-machine, holds-added, table-added, standing-added, holds-same, table-same, standing-same, made_at, none_at, at_next}
use Rattle.mono_time.proofs.timers.Timers.add.Goals as goal

pub invariant_of-self : goal.invariant_of-self
invariant_of-self c =
    let t = c.args.self.now in
    let new = c.make_key.new in
    let none = c.in-Err.ensures.refused in
    let stay = none_at t.wheel new.wheel t.keys new.keys t.entries.items new.entries.items none in
    record { holds = subst (λ ks. Holds new.wheel ks new.entries.items t.greatest t.live) (sym none.same_keys) (holds-same t.wheel c.make_key.new.wheel t.keys t.entries.items c.make_key.new.entries.items t.greatest t.live t.holds stay) }

pub returns-then-is_at_end-clause-added : goal.returns-then-is_at_end-clause-added
returns-then-is_at_end-clause-added c =
    let t = c.args.self.now in
    let full : (nat_le t.limit t.live || (length t.keys == 2 ^ 64 - 1)) ≡ true = ap (λ n. nat_le t.limit t.live || (n == 2 ^ 64 - 1)) (sym c.len-sleep.ensures) ∙ sym c.is_at_end.ensures ∙ c.if-is_at_end.true in
    (search rules, full-kept t.wheel t.keys t.entries.items t.greatest t.live t.holds t.limit ∙ full, refl)

pub returns-then-is_at_end-clause-stands : goal.returns-then-is_at_end-clause-stands
returns-then-is_at_end-clause-stands c = λ m st.
    let t = c.args.self.now in
    let full : (nat_le t.limit t.live || (length t.keys == 2 ^ 64 - 1)) ≡ true = ap (λ n. nat_le t.limit t.live || (n == 2 ^ 64 - 1)) (sym c.len-sleep.ensures) ∙ sym c.is_at_end.ensures ∙ c.if-is_at_end.true in
    (search rules, full-machine t.wheel t.keys t.entries.items t.greatest t.live t.holds t.limit m st ∙ full, st)

pub invariant_of-self-in-Ok : goal.invariant_of-self-in-Ok
invariant_of-self-in-Ok c =
    let t = c.args.self.now in
    let k = c.in-Ok.key in
    let tick = c.tick.result in
    let made = c.in-Ok.ensures.made in
    let new = c.make_key.new in
    let number : c.len-sleep.result ≡ length t.keys = c.len-sleep.ensures in
    let placed = made_at t.wheel new.wheel t.keys new.keys t.entries.items new.entries.items k made in
    record {
      holds = at_next (λ ks n. Holds new.wheel ks (set new.entries.items k (record { sleep = n; state = Fresh tick })) t.greatest (t.live + 1)) t.keys new.keys k c.len-sleep.result made.one_more number
          (holds-added t.wheel c.make_key.new.wheel t.keys t.entries.items c.make_key.new.entries.items t.greatest t.live t.holds k tick placed c.tick.ensures.range);
    }

pub returns-in-Err-clause-added : goal.returns-in-Err-clause-added
returns-in-Err-clause-added c =
    let t = c.args.self.now in
    let room : (nat_le t.limit t.live || (length t.keys == 2 ^ 64 - 1)) ≡ false = ap (λ n. nat_le t.limit t.live || (n == 2 ^ 64 - 1)) (sym c.len-sleep.ensures) ∙ sym c.is_at_end.ensures ∙ c.if-is_at_end.false in
    let new = c.make_key.new in
    let none = c.in-Err.ensures.refused in
    let stay = none_at t.wheel new.wheel t.keys new.keys t.entries.items new.entries.items none in
    let table : table_kept new.wheel new.keys new.entries.items ≡ table_kept t.wheel t.keys t.entries.items = ap (λ ks. table_kept new.wheel ks new.entries.items) none.same_keys ∙ table-same t.wheel c.make_key.new.wheel t.keys t.entries.items c.make_key.new.entries.items t.greatest t.live t.holds stay in
    (search rules, full-kept t.wheel t.keys t.entries.items t.greatest t.live t.holds t.limit ∙ room, ap (with_table (sleeps_of t)) table)

pub returns-in-Err-clause-stands : goal.returns-in-Err-clause-stands
returns-in-Err-clause-stands c = λ m st.
    let t = c.args.self.now in
    let room : (nat_le t.limit t.live || (length t.keys == 2 ^ 64 - 1)) ≡ false = ap (λ n. nat_le t.limit t.live || (n == 2 ^ 64 - 1)) (sym c.len-sleep.ensures) ∙ sym c.is_at_end.ensures ∙ c.if-is_at_end.false in
    let new = c.make_key.new in
    let none = c.in-Err.ensures.refused in
    let stay = none_at t.wheel new.wheel t.keys new.keys t.entries.items new.entries.items none in
    (search rules, full-machine t.wheel t.keys t.entries.items t.greatest t.live t.holds t.limit m st ∙ room, subst (λ ks. Standing new.wheel ks new.entries.items t.greatest t.limit m) (sym none.same_keys) (standing-same t.wheel c.make_key.new.wheel t.keys t.entries.items c.make_key.new.entries.items t.greatest t.live t.holds stay t.limit m st))

pub returns-in-Ok-clause-added : goal.returns-in-Ok-clause-added
returns-in-Ok-clause-added c =
    let t = c.args.self.now in
    let room : (nat_le t.limit t.live || (length t.keys == 2 ^ 64 - 1)) ≡ false = ap (λ n. nat_le t.limit t.live || (n == 2 ^ 64 - 1)) (sym c.len-sleep.ensures) ∙ sym c.is_at_end.ensures ∙ c.if-is_at_end.false in
    let k = c.in-Ok.key in
    let tick = c.tick.result in
    let made = c.in-Ok.ensures.made in
    let new = c.make_key.new in
    let number : c.len-sleep.result ≡ length t.keys = c.len-sleep.ensures in
    let placed = made_at t.wheel new.wheel t.keys new.keys t.entries.items new.entries.items k made in
    let table : table_kept new.wheel new.keys (set new.entries.items k (record { sleep = c.len-sleep.result; state = Fresh tick })) ≡ with_next (table_kept t.wheel t.keys t.entries.items) (fresh tick) =
    at_next (λ ks n. table_kept new.wheel ks (set new.entries.items k (record { sleep = n; state = Fresh tick })) ≡ with_next (table_kept t.wheel t.keys t.entries.items) (fresh tick)) t.keys new.keys k c.len-sleep.result made.one_more number
    (table-added t.wheel c.make_key.new.wheel t.keys t.entries.items c.make_key.new.entries.items t.greatest t.live t.holds k tick placed c.tick.ensures.range) in (
      search rules,
      full-kept t.wheel t.keys t.entries.items t.greatest t.live t.holds t.limit ∙ room,
      number ∙ sym (length-table_of (kept_at t.wheel t.keys t.entries.items) (length t.keys)),
      ap (with_table (sleeps_of t)) table ∙ ap (with_added_sleep (sleeps_of t)) c.tick.ensures.tick,
    )

pub returns-in-Ok-clause-stands : goal.returns-in-Ok-clause-stands
returns-in-Ok-clause-stands c = λ m st.
    let t = c.args.self.now in
    let room : (nat_le t.limit t.live || (length t.keys == 2 ^ 64 - 1)) ≡ false = ap (λ n. nat_le t.limit t.live || (n == 2 ^ 64 - 1)) (sym c.len-sleep.ensures) ∙ sym c.is_at_end.ensures ∙ c.if-is_at_end.false in
    let k = c.in-Ok.key in
    let tick = c.tick.result in
    let made = c.in-Ok.ensures.made in
    let new = c.make_key.new in
    let number : c.len-sleep.result ≡ length t.keys = c.len-sleep.ensures in
    let placed = made_at t.wheel new.wheel t.keys new.keys t.entries.items new.entries.items k made in (
      search rules,
      full-machine t.wheel t.keys t.entries.items t.greatest t.live t.holds t.limit m st ∙ room,
      number ∙ sym (same_length t.wheel t.keys t.entries.items t.greatest t.limit m st),
      at_next (λ ks n. Standing new.wheel ks (set new.entries.items k (record { sleep = n; state = Fresh tick })) t.greatest t.limit (machine.added m (nanos_of c.args.deadline))) t.keys new.keys k c.len-sleep.result made.one_more number
          (standing-added t.wheel c.make_key.new.wheel t.keys t.entries.items c.make_key.new.entries.items t.greatest t.live t.holds k tick placed c.tick.ensures.range t.limit (nanos_of c.args.deadline) m c.tick.ensures.tick st),
    )

pub returns-in-Ok-clause-registered : goal.returns-in-Ok-clause-registered
returns-in-Ok-clause-registered c = λ s.
    let t = c.args.self.now in
    let k = c.in-Ok.key in
    let tick = c.tick.result in
    let made = c.in-Ok.ensures.made in
    let new = c.make_key.new in
    let number : c.len-sleep.result ≡ length t.keys = c.len-sleep.ensures in
    let placed = made_at t.wheel new.wheel t.keys new.keys t.entries.items new.entries.items k made in
    subst (λ ks. registered_at new.wheel ks s ≡ registered_at t.wheel t.keys s) (sym made.one_more) (registered-added t.wheel new.wheel t.keys t.entries.items new.entries.items k placed s)
