use Rattle.std.proofs.Common.{◌≡◌, ◌+◌, ◌-◌, Some, cond, sym, ◌∙◌, ap, subst, refl, arith, rules}
use Rattle.std.specs.Prelude.{Err, ◌≤◌}
use Rattle.mono_model.specs.Table.{with_next}
use Rattle.mono_model.specs.Ticks.{up}
use Rattle.mono_time.specs.Instants.{nanos_of}
use Rattle.mono_time.specs.Timers.{sleeps_of, elapsed_tick, credit_left}
use Rattle.mono_wheel.specs.Credit.{most_takes}
use Rattle.mono_session.specs.Keeper.{open_answer, opened}
use Rattle.mono_model.specs.Memory.{OrLacksMemory}
use Rattle.mono_session.specs.Refinement.{StandsFor}
use Rattle.mono_session.specs.declared.keeper.Sessions.{Sessions}
use Rattle.mono_session.specs.declared.error.SessionError.TheVariants.{Memory, AtCapacity, Invalid, ZeroLimit}
use Rattle.mono_session.proofs.SessionSleepLemmas.{opens, open_refused, open_lacks, open-full, open-late, open-none, open-ok, in_time, too_late, greatest_told, full_told, zero-tells, nonzero-tells, stands_alike, unchanged_by}
use Rattle.mono_session.proofs.keeper.Sessions.open.Goals as goal

pub returns-then-is_full-clause-step : goal.returns-then-is_full-clause-step
returns-then-is_full-clause-step c = λ k stands.
    open_refused c.args.self.now k c.args.limit_ms AtCapacity (open-full k c.args.limit_ms (sym (full_told c.args.self.now k c.is_full.result c.is_full.ensures.full stands) ∙ c.if-is_full.true)) stands

pub returns-in_default-clause-step : goal.returns-in_default-clause-step
returns-in_default-clause-step c = λ k stands.
    let g = greatest_told c.args.self.now k c.greatest.result c.greatest.ensures stands in
    open_refused c.args.self.now k c.args.limit_ms Invalid (open-late k c.args.limit_ms (sym (full_told c.args.self.now k c.is_full.result c.is_full.ensures.full stands) ∙ c.if-is_full.false)
    (too_late c.deadline_after.result k.greatest c.greatest.result c.args.limit_ms c.deadline_after.ensures.variant c.in_default.is g)) stands

pub returns-then-limit_ms-eq0-clause-step : goal.returns-then-limit_ms-eq0-clause-step
returns-then-limit_ms-eq0-clause-step c = λ k stands.
    let g = greatest_told c.args.self.now k c.greatest.result c.greatest.ensures stands in
    open_refused c.args.self.now k c.args.limit_ms ZeroLimit (open-none k c.args.limit_ms (sym (full_told c.args.self.now k c.is_full.result c.is_full.ensures.full stands) ∙ c.if-is_full.false)
    (in_time c.deadline_after.result c.in-Some.deadline k.greatest c.greatest.result c.args.limit_ms c.deadline_after.ensures.variant c.in-Some.is g) (zero-tells c.args.limit_ms c.if-limit_ms-eq0.true)) stands

pub returns-in_err-reserve-clause-step : goal.returns-in_err-reserve-clause-step
returns-in_err-reserve-clause-step c = λ k stands.
    let old = c.args.self.now in
    let limit = c.args.limit_ms in
    let g = greatest_told old k c.greatest.result c.greatest.ensures stands in
    let new : Sessions = record { timers = old.timers; limits = c.reserve.new.self; entries = old.entries; most_entries = old.most_entries } in
    let is : c.from_residual.result ≡ Err Memory = search rules in
    subst (OrLacksMemory Memory (open_answer k limit) k (opened k limit) (StandsFor new)) (sym is)
    (open_lacks new k limit
    (open-ok k limit (sym (full_told old k c.is_full.result c.is_full.ensures.full stands) ∙ c.if-is_full.false)
    (in_time c.deadline_after.result c.in-Some.deadline k.greatest c.greatest.result limit c.deadline_after.ensures.variant c.in-Some.is g)
    (nonzero-tells limit c.if-limit_ms-eq0.false))
    (stands_alike old new k refl c.reserve.ensures.table refl refl refl stands))

pub returns-in-Err-clause-step : goal.returns-in-Err-clause-step
returns-in-Err-clause-step c = λ k stands.
    let old = c.args.self.now in
    let g = greatest_told old k c.greatest.result c.greatest.ensures stands in
    let new : Sessions = record { timers = c.add_armed.new.timers; limits = c.reserve.new.self; entries = old.entries; most_entries = old.most_entries } in
    open_lacks new k c.args.limit_ms
    (open-ok k c.args.limit_ms (sym (full_told old k c.is_full.result c.is_full.ensures.full stands) ∙ c.if-is_full.false)
    (in_time c.deadline_after.result c.in-Some.deadline k.greatest c.greatest.result c.args.limit_ms c.deadline_after.ensures.variant c.in-Some.is g)
    (nonzero-tells c.args.limit_ms c.if-limit_ms-eq0.false))
    (stands_alike old new k (unchanged_by (sleeps_of old.timers) (sleeps_of c.add_armed.new.timers) (up (nanos_of c.in-Some.deadline)) c.in-Err.field-0 c.in-Err.ensures.armed)
    c.reserve.ensures.table refl refl c.add_armed.ensures.elapsed stands)

pub returns-in-Ok-clause-step : goal.returns-in-Ok-clause-step
returns-in-Ok-clause-step c = λ k stands.
    let old = c.args.self.now in
    let g = greatest_told old k c.greatest.result c.greatest.ensures stands in
    let limit = c.args.limit_ms in
    let session = c.in-Ok.session in
    let new : Sessions = record { timers = c.add_armed.new.timers; limits = c.add.new.self; entries = old.entries; most_entries = old.most_entries } in
    opens old new k limit session (up (nanos_of c.in-Some.deadline)) stands
    (sym (full_told old k c.is_full.result c.is_full.ensures.full stands) ∙ c.if-is_full.false)
    (in_time c.deadline_after.result c.in-Some.deadline k.greatest c.greatest.result limit c.deadline_after.ensures.variant c.in-Some.is g)
    (nonzero-tells limit c.if-limit_ms-eq0.false)
    c.in-Ok.ensures.armed
    (c.in-Some.ensures.some ∙ ap (λ n. n + limit) g)
    (c.add.ensures.table ∙ ap (λ t. with_next t limit) c.reserve.ensures.table)
    refl refl c.add_armed.ensures.elapsed

pub returns-in-Err-clause-raise : goal.returns-in-Err-clause-raise
returns-in-Err-clause-raise c = λ k stands.
    let old = c.args.self.now in
    let tick : up (nanos_of c.in-Some.deadline) ≡ k.greatest + c.args.limit_ms = c.in-Some.ensures.some ∙ ap (λ n. n + c.args.limit_ms) (greatest_told old k c.greatest.result c.greatest.ensures stands) in
    let gap : up (nanos_of c.in-Some.deadline) - elapsed_tick old.timers ≡ c.args.limit_ms = omega (arith, tick, stands.rests) in
    subst (λ d. credit_left c.add_armed.new.timers ≤ credit_left old.timers + most_takes d) gap c.add_armed.ensures.raise

pub returns-in-Ok-clause-raise : goal.returns-in-Ok-clause-raise
returns-in-Ok-clause-raise c = λ k stands.
    let old = c.args.self.now in
    let tick : up (nanos_of c.in-Some.deadline) ≡ k.greatest + c.args.limit_ms = c.in-Some.ensures.some ∙ ap (λ n. n + c.args.limit_ms) (greatest_told old k c.greatest.result c.greatest.ensures stands) in
    let gap : up (nanos_of c.in-Some.deadline) - elapsed_tick old.timers ≡ c.args.limit_ms = omega (arith, tick, stands.rests) in
    subst (λ d. credit_left c.add_armed.new.timers ≤ credit_left old.timers + most_takes d) gap c.add_armed.ensures.raise
