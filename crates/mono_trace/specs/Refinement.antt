-- The refinement: the machine that a trace views.
use Rattle.mono_machine.specs.Machine.{Machine}
use Rattle.mono_trace.specs.declared.traces.Trace.{Trace}

abbrev pub machine_of : Trace → Machine
machine_of trace = trace.parts.now
