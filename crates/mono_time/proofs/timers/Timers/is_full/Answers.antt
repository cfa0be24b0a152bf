use Rattle.std.proofs.Common.{◌≡◌, ◌-◌, ◌^◌, sym, ◌∙◌, ap, length}
use Rattle.std.specs.Prelude.{nat_le, ◌==◌, ◌||◌}
use Rattle.mono_time.proofs.NewSleepLemmas.{full-kept, full-machine}
use Rattle.mono_time.proofs.timers.Timers.is_full.Goals as goal

pub returns-clause-full : goal.returns-clause-full
returns-clause-full c =
    let t = c.args.self.now in
    let is : c.is_at_end.result ≡ (nat_le t.limit t.live || (length t.keys == 2 ^ 64 - 1)) = c.is_at_end.ensures ∙ ap (λ n. nat_le t.limit t.live || (n == 2 ^ 64 - 1)) c.len.ensures in
    is ∙ sym (full-kept t.wheel t.keys t.entries.items t.greatest t.live t.holds t.limit)

pub returns-clause-stands : goal.returns-clause-stands
returns-clause-stands c = λ m st.
    let t = c.args.self.now in
    let is : c.is_at_end.result ≡ (nat_le t.limit t.live || (length t.keys == 2 ^ 64 - 1)) = c.is_at_end.ensures ∙ ap (λ n. nat_le t.limit t.live || (n == 2 ^ 64 - 1)) c.len.ensures in
    is ∙ sym (full-machine t.wheel t.keys t.entries.items t.greatest t.live t.holds t.limit m st)
