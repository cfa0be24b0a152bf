use Rattle.std.proofs.Common.{map, string_bytes}
use Rattle.mono_script.proofs.CommandLemmas.{command_once}
use Rattle.mono_script.proofs.inputs.reads_input.Goals as goal

pub returns-in-Some-clause-command : goal.returns-in-Some-clause-command
returns-in-Some-clause-command c = λ d readings words.
    let same = command_once (map string_bytes c.args.words.now.items) d c.in-Some.command words c.in-Some.ensures.found in
    rw same (c.reads.ensures readings)
