use Rattle.mono_machine.proofs.HandoutLemmas.{job_once}
use Rattle.mono_machine.proofs.laws.job_hands_out_once.Goals as goal

pub returns : goal.returns
returns c = job_once
