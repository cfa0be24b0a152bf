-- The steps with which a run of a world ends.
use Rattle.std.specs.Prelude.{Option, Some, None}
use Rattle.mono_sim.specs.declared.steps.Step.{Step}
use Rattle.mono_sim.specs.declared.steps.Step.TheVariants as step
use Rattle.mono_sim.specs.declared.steps.End.{End}
use Rattle.mono_sim.specs.declared.steps.End.TheVariants as end

abbrev pub end_of : Step → Option End
end_of (step.Ran i answer) = None
end_of (step.Stood i) = None
end_of step.Round = None
end_of step.Moved = None
end_of step.Over = Some end.Over
end_of step.Stuck = Some end.Stuck
