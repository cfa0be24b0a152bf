use Rattle.mono_serve.proofs.MailLemmas as law
use Rattle.mono_serve.proofs.laws.waits_in_line.Goals as goal

pub returns : goal.returns
returns c d = law.waits_in_line _
