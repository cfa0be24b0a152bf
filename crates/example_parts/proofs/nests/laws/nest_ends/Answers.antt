use Rattle.std.proofs.Common.{ap, ◌∙◌}
use Rattle.mono_model.specs.Table.{value_at}
use Rattle.example_parts.proofs.NestPollLemmas.{nest_ends, end_gone}
use Rattle.example_parts.proofs.nests.laws.nest_ends.Goals as goal

pub returns : goal.returns
returns g c = λ a b e f p q u v cx r left d polls over we lf apart passes passes'.
    let k = nest_ends g.C.Context.number g.C.TimeContext.sleeps g.C.Context.work g.C.Context.wakes g.C.Context.reaches
    g.met.C.Context.same_number g.met.C.TimeContext.wakes_no_sleep
    g.G.Fn g.H.Fn g.I.Fn g.J.Fn _ _ (λ s c0 r0 t d0 k. k) (λ s c0 d0 k. k) (λ s c0 r0 t d0 k. k) (λ s c0 d0 k. k)
    a b e f p q u v cx r left d polls over we lf apart passes passes' in
    let gone = end_gone (g.C.TimeContext.sleeps cx) a.delay.number b.delay.number e.delay.number f.delay.number (g.C.Context.number cx) in (
      k.0,
      k.1,
      ap (λ s. value_at s.table a.delay.number) k.1 ∙ gone.0,
      ap (λ s. value_at s.table b.delay.number) k.1 ∙ gone.1,
      ap (λ s. value_at s.table e.delay.number) k.1 ∙ gone.2,
      ap (λ s. value_at s.table f.delay.number) k.1 ∙ gone.3,
    )
