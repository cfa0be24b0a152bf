use Rattle.mono_replay.proofs.loads.load.Goals as goal

pub returns : goal.returns
returns c = c.summary_of.ensures
