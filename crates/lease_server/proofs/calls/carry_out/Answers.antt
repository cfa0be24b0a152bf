use Rattle.std.proofs.Common.{rules, ◌≡◌, false}
use Rattle.lease_server.proofs.calls.carry_out.Goals as goal

pub returns-clause-says : goal.returns-clause-says
returns-clause-says g c =
    let unasked : c.args.waits ≡ false → c.notice.result ≡ false = search rules in
    record {
      is_due = c.notice.result;
      unasked = unasked;
      middle = g.E.Sink.written c.notice.new.causes;
      middle_faults = g.E.Sink.faults c.notice.new.causes;
      noticed = c.notice.ensures.noticed;
      told = rw c.from.ensures c.tell_end.ensures;
    }
