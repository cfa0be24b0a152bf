use Rattle.mono_lines.specs.declared.limit.calls.LimiterCall.TheVariants as line
use Rattle.mono_lines.proofs.LimiterClockLemmas.{as_model}
use Rattle.mono_lines.proofs.limit.serve.LimiterLinesService.answer.Goals as goal

pub returns-in-Bucket : goal.returns-in-Bucket
returns-in-Bucket c = rw c.in-Bucket.is (as_model c.bucket.result c.args.self.now.limiter c.bucket.new.self.limiter (line.Bucket c.in-Bucket.burst c.in-Bucket.period) c.args.out.now.items c.bucket.new.out.items c.bucket.ensures)

pub returns-in-Take : goal.returns-in-Take
returns-in-Take c = rw c.in-Take.is (as_model c.take.result c.args.self.now.limiter c.take.new.self.limiter (line.Take c.in-Take.bucket c.in-Take.n) c.args.out.now.items c.take.new.out.items c.take.ensures)

pub returns-in-Retry : goal.returns-in-Retry
returns-in-Retry c = rw c.in-Retry.is (as_model c.retry.result c.args.self.now.limiter c.retry.new.self.limiter (line.Retry c.in-Retry.base c.in-Retry.cap c.in-Retry.most) c.args.out.now.items c.retry.new.out.items c.retry.ensures)

pub returns-in-Fail : goal.returns-in-Fail
returns-in-Fail c = rw c.in-Fail.is (as_model c.fail.result c.args.self.now.limiter c.fail.new.self.limiter (line.Fail c.in-Fail.retry) c.args.out.now.items c.fail.new.out.items c.fail.ensures)

pub returns-in-Done : goal.returns-in-Done
returns-in-Done c = rw c.in-Done.is (as_model c.done.result c.args.self.now.limiter c.done.new.self.limiter (line.Done c.in-Done.retry) c.args.out.now.items c.done.new.out.items c.done.ensures)

pub returns-in-Clock : goal.returns-in-Clock
returns-in-Clock c = rw c.in-Clock.is (as_model c.clock.result c.args.self.now.limiter c.clock.new.self.limiter (line.Clock c.in-Clock.n) c.args.out.now.items c.clock.new.out.items c.clock.ensures)
