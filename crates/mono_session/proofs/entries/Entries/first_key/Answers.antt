use Rattle.mono_session.specs.Entries.{keys_in, key_chains}
use Rattle.mono_session.proofs.QueueLemmas.{first_is_none, first_is_some}
use Rattle.mono_session.proofs.entries.Entries.first_key.Goals as goal

pub returns-in-None : goal.returns-in-None
returns-in-None c = λ entries entered. first_is_none (key_chains c.args.self.now) (keys_in entries) c.args.session c.in-None.ensures.value entered.keys

pub returns-in-Some : goal.returns-in-Some
returns-in-Some c = λ entries entered. first_is_some (key_chains c.args.self.now) (keys_in entries) c.args.session c.in-Some.keys.now c.in-Some.ensures.value entered.keys
