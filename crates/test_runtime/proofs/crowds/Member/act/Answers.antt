use Rattle.mono_rt.specs.Reaches.{reaches_itself}
use Rattle.test_runtime.proofs.crowds.Member.act.Goals as goal

pub returns-in-Wakes : goal.returns-in-Wakes
returns-in-Wakes g c = reaches_itself (λ n. n) c.args.cx.now

pub returns-in-Waits : goal.returns-in-Waits
returns-in-Waits g c = reaches_itself (λ n. n) c.args.cx.now

pub returns-in-Gives : goal.returns-in-Gives
returns-in-Gives g c = c.keep_waker.ensures

pub returns-in-Ends : goal.returns-in-Ends
returns-in-Ends g c = reaches_itself (λ n. n) c.args.cx.now

pub returns-in-Idles : goal.returns-in-Idles
returns-in-Idles g c = reaches_itself (λ n. n) c.args.cx.now
