use Rattle.mono_locks.proofs.OnceCellLemmas.{inits_keeps}
use Rattle.mono_locks.proofs.once_cell.OnceCell.get_or_init.Goals as goal

pub returns-clause-keeps : goal.returns-clause-keeps
returns-clause-keeps g c = inits_keeps c.args.self.now c.ask.new.self c.args.ticket c.args.me c.ask.result c.ask.ensures
