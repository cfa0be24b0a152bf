use Rattle.std.proofs.Common.{ap, ◌∙◌, ◌-◌, ◌^◌}
use Rattle.std.specs.Prelude.{◌==◌}
use Rattle.mono_model.specs.Table.{is_full}
use Rattle.mono_trace.specs.Tables.{job_of}
use Rattle.mono_trace.proofs.LimitLemmas.{full_at_limit, full_at_last}
use Rattle.mono_trace.proofs.jobs.Jobs.is_full.Goals as goal

pub returns-then-live-self : goal.returns-then-live-self
returns-then-live-self c = full_at_limit job_of c.self.inside.places.now c.live.result c.self.inside.limit c.live.ensures c.if-live-self.true ∙ ap (λ m. is_full m.now.table m.now.limit) c.self.view_is

pub returns-else-live-self : goal.returns-else-live-self
returns-else-live-self c =
    ap (λ n. n == 2 ^ 64 - 1) c.next_number.ensures ∙ full_at_last job_of c.self.inside.places.now c.live.result c.self.inside.limit c.live.ensures c.if-live-self.false ∙ ap (λ m. is_full m.now.table m.now.limit) c.self.view_is
