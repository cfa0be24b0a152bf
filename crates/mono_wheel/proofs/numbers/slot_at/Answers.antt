use Rattle.mono_wheel.proofs.ShiftLemmas.{shift-slot}
use Rattle.mono_wheel.proofs.numbers.slot_at.Goals as goal

pub returns-clause-value : goal.returns-clause-value
returns-clause-value c = shift-slot c.args.level c.args.tick
