use Rattle.mono_script.proofs.FollowLemmas.{found_event, no_event}
use Rattle.mono_script.proofs.replay.ReplayLinesService.read.Goals as goal

pub returns-clause-found : goal.returns-clause-found
returns-clause-found c = found_event c.line.result c.args.reader.now.rest.now c.line.new.self.rest.now c.line.ensures.found

pub returns-clause-none : goal.returns-clause-none
returns-clause-none c = no_event c.line.result c.args.reader.now.rest.now c.line.ensures.none
