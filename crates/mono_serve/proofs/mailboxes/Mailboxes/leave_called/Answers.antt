use Rattle.mono_serve.proofs.mailboxes.Mailboxes.leave_called.Goals as goal

pub returns : goal.returns
returns g c = (c.drop_called-left.result, c.drop_called-left.new.self, c.drop_called-left.ensures, c.call_next.ensures)
