use Rattle.mono_serve.proofs.MailLemmas as law
use Rattle.mono_serve.proofs.laws.received_in_order.Goals as goal

pub returns : goal.returns
returns c d = law.received_in_order _
