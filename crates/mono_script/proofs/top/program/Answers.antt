use Rattle.mono_script.proofs.top.program.Goals as goal

pub returns : goal.returns
returns g c = rw c.exit_code.ensures c.explained-ended.ensures.ends
