use Rattle.example_parts.proofs.NestPollLemmas.{nest_waits}
use Rattle.example_parts.proofs.nests.laws.nest_waits.Goals as goal

pub returns : goal.returns
returns g c = λ a b e f p q u v cx r left d polls wa wb we wf.
    nest_waits g.C.Context.number g.C.TimeContext.sleeps g.C.Context.work g.C.Context.wakes g.C.Context.reaches
    g.met.C.Context.same_number g.met.C.TimeContext.wakes_no_sleep
    g.G.Fn g.H.Fn g.I.Fn g.J.Fn _ _ (λ s c0 r0 t d0 k. k) (λ s c0 r0 t d0 k. k)
    a b e f p q u v cx r left d polls wa wb we wf
