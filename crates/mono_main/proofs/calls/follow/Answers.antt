use Rattle.std.proofs.Common.{rules, ◌≡◌, false}
use Rattle.mono_script.specs.declared.ends.Status.TheVariants as status
use Rattle.mono_main.proofs.calls.follow.Goals as goal

pub returns-in-None-clause-says : goal.returns-in-None-clause-says
returns-in-None-clause-says g c =
    let unasked : c.args.waits ≡ false → c.notice.result ≡ false = search rules in
    record {
      status = status.Usage;
      is_code = c.code-in-None.ensures;
      is_due = c.notice.result;
      unasked = unasked;
      middle = g.E.Sink.written c.notice.new.causes;
      middle_faults = g.E.Sink.faults c.notice.new.causes;
      noticed = c.notice.ensures.noticed;
      told = c.tell_made.ensures;
    }
