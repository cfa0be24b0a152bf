use Rattle.mono_lines.proofs.session.serve.SessionLinesService.answer.Goals as goal

pub returns-in-Acquire : goal.returns-in-Acquire
returns-in-Acquire c = rw c.in-Acquire.is c.acquire.ensures
