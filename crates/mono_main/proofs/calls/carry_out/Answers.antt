use Rattle.std.proofs.Common.{rules, ◌≡◌, false, ◌∙◌, ap, map, string_bytes}
use Rattle.mono_script.specs.TopCall.{CarriesOut, view_of}
use Rattle.mono_main.specs.Causes.{end_status}
use Rattle.mono_main.proofs.CauseLemmas.{code_of_end}
use Rattle.mono_main.proofs.calls.carry_out.Goals.{then-joins_workers, else-joins_workers}
use Rattle.mono_main.proofs.calls.carry_out.Goals as goal

pub returns-clause-carried : goal.returns-clause-carried
returns-clause-carried g c =
    let starts : g.P.Spawner.starts c.if-joins_workers.spawner ≡ g.P.Spawner.starts c.explained-ended.new.spawner =
    elim c.if-joins_workers.branch [
      | then-joins_workers w ↦ ap g.P.Spawner.starts w.spawner-is ∙ w.join.ensures.starts
      | else-joins_workers w ↦ ap g.P.Spawner.starts w.spawner-is
    ] in
    rw (starts, c.exit_code.ensures) c.explained-ended.ensures.ends

pub returns-clause-says : goal.returns-clause-says
returns-clause-says g c =
    let unasked : c.args.waits ≡ false → c.notice.result ≡ false = search rules in
    record {
      status = end_status c.explained-ended.result;
      is_code = c.exit_code.ensures ∙ code_of_end c.explained-ended.result;
      is_due = c.notice.result;
      unasked = unasked;
      middle = g.E.Sink.written c.notice.new.causes;
      middle_faults = g.E.Sink.faults c.notice.new.causes;
      noticed = c.notice.ensures.noticed;
      told = c.tell_call.ensures;
    }
