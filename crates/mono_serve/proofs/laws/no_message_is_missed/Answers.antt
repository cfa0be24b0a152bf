use Rattle.mono_serve.proofs.MailLemmas as law
use Rattle.mono_serve.proofs.laws.no_message_is_missed.Goals as goal

pub returns : goal.returns
returns c d = law.no_message_is_missed _
