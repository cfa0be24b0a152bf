use Rattle.mono_replay.proofs.OneSummaryLemmas as law
use Rattle.mono_replay.proofs.laws.one_summary.Goals as goal

pub returns : goal.returns
returns c = law.one_summary
