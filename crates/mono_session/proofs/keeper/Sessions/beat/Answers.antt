use Rattle.std.proofs.Common.{ℕ, ◌-◌, ◌≤◌, sym, subst, arith, ◌≡◌, ◌+◌, Some, false, ◌∙◌, ap, refl}
use Rattle.std.specs.Prelude.{nat_lt}
use Rattle.mono_model.specs.Table.{value_at}
use Rattle.mono_model.specs.Ticks.{up}
use Rattle.mono_time.specs.Instants.{nanos_of}
use Rattle.mono_session.specs.Keeper.{last_tick}
use Rattle.mono_time.specs.Timers.{elapsed_tick, credit_left}
use Rattle.mono_wheel.specs.Credit.{most_takes}
use Rattle.mono_session.specs.Refinement.{limit_in}
use Rattle.mono_session.specs.declared.keeper.Sessions.{Sessions}
use Rattle.mono_session.proofs.SessionSleepLemmas.{beats, in_time, greatest_told}
use Rattle.mono_session.proofs.keeper.Sessions.beat.Goals as goal

pub returns-clause-step : goal.returns-clause-step
returns-clause-step c = λ k stands.
    let old = c.args.self.now in
    let new : Sessions = record { timers = c.reset.new.self; limits = old.limits; entries = old.entries; most_entries = old.most_entries } in
    let g : c.greatest.result ≡ k.greatest = greatest_told old k c.greatest.result c.greatest.ensures stands in
    let at : value_at old.limits.table c.args.session ≡ Some c.in-Some.limit = cc in
    let late : nat_lt last_tick (k.greatest + c.in-Some.limit) ≡ false = in_time c.deadline_after.result c.in-Some-deadline_after.deadline k.greatest c.greatest.result c.in-Some.limit c.deadline_after.ensures.variant c.in-Some-deadline_after.is g in
    let tick : up (nanos_of c.in-Some-deadline_after.deadline) ≡ k.greatest + c.in-Some.limit = c.in-Some-deadline_after.ensures.some ∙ ap (λ n. n + c.in-Some.limit) g in
    beats old new k c.args.session c.in-Some.limit (up (nanos_of c.in-Some-deadline_after.deadline)) stands at late tick c.reset.ensures.sleeps refl refl refl c.reset.ensures.elapsed

same-some : (a b : ℕ) → Some a ≡ Some b → a ≡ b
same-some a b e = cc

pub returns-clause-raise : goal.returns-clause-raise
returns-clause-raise c = λ k kept stands at.
    let old = c.args.self.now in
    let found : value_at old.limits.table c.args.session ≡ Some c.in-Some.limit = cc in
    let limit : c.in-Some.limit ≡ kept.limit = same-some c.in-Some.limit kept.limit (sym found ∙ stands.matches.beside.limits c.args.session ∙ ap limit_in at) in
    let tick : up (nanos_of c.in-Some-deadline_after.deadline) ≡ k.greatest + c.in-Some.limit = c.in-Some-deadline_after.ensures.some ∙ ap (λ n. n + c.in-Some.limit) (greatest_told old k c.greatest.result c.greatest.ensures stands) in
    let gap : up (nanos_of c.in-Some-deadline_after.deadline) - elapsed_tick old.timers ≡ kept.limit = omega (arith, tick, limit, stands.rests) in
    subst (λ d. credit_left c.reset.new.self ≤ credit_left old.timers + most_takes d) gap c.reset.ensures.raise
