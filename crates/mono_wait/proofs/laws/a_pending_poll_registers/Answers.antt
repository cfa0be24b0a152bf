use Rattle.mono_wait.specs.Sources.{in_machine}
use Rattle.mono_wait.proofs.RegistrationLemmas.{registers}
use Rattle.mono_wait.proofs.laws.a_pending_poll_registers.Goals as goal

pub returns : goal.returns
returns g c = λ f cx h d x polled needed.
    registers g.C.Context.number g.C.Context.work g.C.Context.reaches g.C.WaitContext.watcher g.C.MachineContext.stands
    g.met.C.Context.same_number g.met.C.MachineContext.leads g.met.C.MachineContext.same_watcher g.met.C.MachineContext.same_stirred
    c.what_a_turn_registers_stands.ensures cx d x ((g.met.F.Waits.covers f cx h d polled).each (in_machine x) needed)
