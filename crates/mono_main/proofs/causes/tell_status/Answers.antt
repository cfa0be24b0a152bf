use Rattle.std.specs.Prelude.{codes}
use Rattle.mono_main.specs.declared.causes.TheConstants.{SPENT}
use Rattle.mono_main.proofs.causes.tell_status.Goals as goal

pub returns-in-Usage : goal.returns-in-Usage
returns-in-Usage g c = rw c.in-Usage.is (codes "the words are no command", c.tell-in-Usage.ensures)

pub returns-in-BadLine : goal.returns-in-BadLine
returns-in-BadLine g c = rw c.in-BadLine.is (codes "a line says nothing of the command", c.tell-in-BadLine.ensures)

pub returns-in-Turns : goal.returns-in-Turns
returns-in-Turns g c = rw c.in-Turns.is (SPENT.now, c.tell-in-Turns.ensures)

pub returns-in-NotARun : goal.returns-in-NotARun
returns-in-NotARun g c = rw c.in-NotARun.is (codes "the journal is no run", c.tell-in-NotARun.ensures)
