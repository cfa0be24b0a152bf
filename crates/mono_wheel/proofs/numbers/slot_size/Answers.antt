use Rattle.mono_wheel.proofs.ShiftLemmas.{shift-size}
use Rattle.mono_wheel.proofs.numbers.slot_size.Goals as goal

pub returns-clause-value : goal.returns-clause-value
returns-clause-value c = shift-size c.args.level c.requires
