use Rattle.mono_limit.specs.Limiter.{no_limits}
use Rattle.mono_lines.specs.LimiterTexts.{call_text, FitsCall, StepsAs, ShowsLimits}
use Rattle.mono_lines.specs.declared.limit.serve.LimiterLines.{LimiterLines}
use Rattle.mono_lines.proofs.ServiceLemmas.{served}
use Rattle.mono_lines.proofs.limit.serve.limiter.Goals as goal

pub returns : goal.returns
returns c =
    served (λ (l : LimiterLines). l.limiter) ShowsLimits StepsAs call_text FitsCall c.in_ok-lines.lines (no_limits c.args.buckets c.args.retries) c.args.input.now c.serve.result c.in_ok-lines.ensures c.serve.ensures
