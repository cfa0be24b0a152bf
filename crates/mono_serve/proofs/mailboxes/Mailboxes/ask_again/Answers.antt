use Rattle.std.proofs.Common.{sym, ◌∙◌}
use Rattle.mono_serve.proofs.mailboxes.Mailboxes.ask_again.Goals as goal

pub returns : goal.returns
returns g c = rw (sym c.is_called.ensures ∙ c.if-is_called.false) (c.give_up.new.self, c.give_up.ensures, c.ask_anew.ensures)
