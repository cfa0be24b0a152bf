use Rattle.std.proofs.Common.{refl}
use Rattle.mono_sync.proofs.semaphores.Semaphore.ask.Goals as goal

pub returns-in-Ok : goal.returns-in-Ok
returns-in-Ok c = (c.if-self.false, (c.come.new.self, (c.in-Full.ensures.comes, c.in-Ok.ensures)), refl, c.if-self.false)

pub returns-in-Err : goal.returns-in-Err
returns-in-Err c = (c.if-self.false, (c.come.new.self, (c.in-Full.ensures.comes, c.in-Err.ensures)), refl, c.if-self.false)
