use Rattle.mono_replay.proofs.MatchLemmas.{remote_put}
use Rattle.mono_replay.proofs.parts.Parts.remote.Goals as goal

pub returns-then-put-clause-matches : goal.returns-then-put-clause-matches
returns-then-put-clause-matches c = λ m st. remote_put c.args.self.now m c.args.t c.put.new.self st c.put.ensures.state

pub returns-else-put-clause-matches : goal.returns-else-put-clause-matches
returns-else-put-clause-matches c = λ m st. remote_put c.args.self.now m c.args.t c.put.new.self st c.put.ensures.state
