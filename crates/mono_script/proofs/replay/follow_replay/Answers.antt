use Rattle.mono_script.proofs.FollowLemmas.{replay_followed}
use Rattle.mono_script.proofs.replay.follow_replay.Goals as goal

pub returns-clause-followed : goal.returns-clause-followed
returns-clause-followed g c =
    replay_followed (record { exec = c.in_ok-exec.exec }) c.args.limits c.args.blocking c.follow.result (g.S.Source.left c.args.source.now) (g.S.Source.left c.follow.new.source) (g.K.Sink.written c.args.sink.now) (g.K.Sink.written c.follow.new.sink)
    c.in_ok-exec.ensures.start c.follow.ensures.followed
