use Rattle.mono_limit.specs.Limiter.{no_limits}
use Rattle.mono_lines.specs.LimiterTexts.{call_text, FitsCall, StepsAs, ShowsLimits}
use Rattle.mono_lines.specs.declared.limit.serve.LimiterLines.{LimiterLines}
use Rattle.mono_lines.proofs.ServiceLemmas.{followed}
use Rattle.mono_lines.proofs.limit.serve.follow_limiter.Goals as goal

pub returns-clause-followed : goal.returns-clause-followed
returns-clause-followed g c =
    followed (λ (l : LimiterLines). l.limiter) ShowsLimits StepsAs call_text FitsCall c.in_ok-lines.lines (no_limits c.args.most_buckets c.args.most_retries) c.follow.result
    (g.S.Source.left c.args.source.now) (g.S.Source.left c.follow.new.source) (g.K.Sink.written c.args.sink.now) (g.K.Sink.written c.follow.new.sink) c.in_ok-lines.ensures c.follow.ensures.followed
