use Rattle.std.proofs.Common.{ap, ◌∙◌}
use Rattle.mono_wheel.specs.Model.{tick_of, timed_at}
use Rattle.mono_wheel.proofs.KeyLemmas.{tick-read}
use Rattle.mono_wheel.proofs.wheel.Wheel.tick_of.Goals as goal

pub returns : goal.returns
returns c = tick-read c.self.inside.links.table.entries c.args.key c.entry.result c.entry.ensures ∙ ap (λ w. tick_of (timed_at w c.args.key)) c.self.view_is
