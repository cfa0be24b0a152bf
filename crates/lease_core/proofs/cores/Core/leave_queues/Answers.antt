use Rattle.std.proofs.Common.{refl, arith}
use Rattle.mono_session.specs.Keeper.{with_entries}
use Rattle.mono_session.proofs.LeaveLemmas.{without_one}
use Rattle.lease_core.proofs.LeaveLemmas.{leaving_goes_on, leaving_ends}
use Rattle.lease_core.proofs.cores.Core.leave_queues.Goals as goal

pub loop-key-preserved : goal.loop-key-preserved
loop-key-preserved c =
    let s = c.args.session in
    let key = c.in-Some.key in
    let before = c.loop-key.invariant in
    record {
      leaving = λ k stands.
          let now = before.leaving k stands in
          let step = c.in-Some.ensures.step (with_entries k now.0) now.1.leases in (
            without_one s key now.0,
            leaving_goes_on c.args.self.now c.loop-key.self _ k s key now.0 c.owner-holder.result now.1 step.0 step.1 (c.owner-holder.ensures (with_entries k (without_one s key now.0)) step.1)
                before.tick c.end_left.ensures.items c.end_left.ensures.kept,
          );
      room = omega (arith, before.room, c.end_left.ensures.room, c.end_left.ensures.capacity);
      limiter = before.limiter;
      actors = before.actors;
      tick = before.tick;
    }

pub returns-clause-frees : goal.returns-clause-frees
returns-clause-frees c = λ k stands.
    let now = c.loop-key.invariant.leaving k stands in
    let step = c.in_default.ensures.step (with_entries k now.0) now.1.leases in
    leaving_ends c.args.self.now c.loop-key.self _ k c.args.session now.0 now.1 step.0 step.1 refl refl
