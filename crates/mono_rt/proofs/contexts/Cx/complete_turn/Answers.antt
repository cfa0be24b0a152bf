use Rattle.std.proofs.Common.{refl}
use Rattle.mono_rt.proofs.contexts.Cx.complete_turn.Goals as goal

pub returns-clause-completes : goal.returns-clause-completes
returns-clause-completes g c = (
  c.pay_owed.new.self,
  (
    c.pay_owed.ensures,
    record {
      parts = record { told = c.end_turn.ensures.answer; tasks = c.end_turn.ensures.after; timers = refl; has_timers = refl; blocking = refl; acts = refl; memory = refl };
      futures = c.remove.ensures.items;
      shared = refl;
    },
  ),
)
