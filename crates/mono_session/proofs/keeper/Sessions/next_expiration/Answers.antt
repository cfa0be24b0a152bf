use Rattle.std.proofs.Common.{ap, sym, ◌∙◌}
use Rattle.mono_time.specs.Sleeps.{SleepTable}
use Rattle.mono_time.specs.Timers.{sleeps_of, elapsed_tick, registered_of}
use Rattle.mono_session.proofs.NextCloseLemmas.{timely_sleeps, next_in_time, next_ahead}
use Rattle.mono_session.proofs.keeper.Sessions.next_expiration.Goals as goal

pub returns-clause-in_time : goal.returns-clause-in_time
returns-clause-in_time c = λ k stands.
    let t = c.args.self.now.timers in
    next_in_time (elapsed_tick t) (registered_of t) (sleeps_of t) k c.next_expiration_time.result stands.matches.sleeps c.next_expiration_time.ensures.next
    (c.next_expiration_time.ensures.ahead (timely_sleeps (sleeps_of t) k stands.matches.sleeps stands.timely) (stands.rests ∙ ap (λ (s : SleepTable). s.greatest) (sym stands.matches.sleeps)))

pub returns-clause-ahead : goal.returns-clause-ahead
returns-clause-ahead c = λ k stands.
    let t = c.args.self.now.timers in
    next_ahead (sleeps_of t) k c.next_expiration_time.result stands.matches.sleeps
    (c.next_expiration_time.ensures.ahead (timely_sleeps (sleeps_of t) k stands.matches.sleeps stands.timely) (stands.rests ∙ ap (λ (s : SleepTable). s.greatest) (sym stands.matches.sleeps)))
    c.next_expiration_time.ensures.armed
