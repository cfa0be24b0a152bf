use Rattle.std.proofs.Common.{sym}
use Rattle.mono_time.proofs.SleepTableLemmas.{none_armed}
use Rattle.mono_time.proofs.RegistrationLemmas.{next-is}
use Rattle.mono_replay.proofs.executor.Exec.timers.Goals as goal

pub returns-clause-sleeps : goal.returns-clause-sleeps
returns-clause-sleeps c = λ m st. st.matches.sleeps.keeps.stands

pub returns-clause-greatest : goal.returns-clause-greatest
returns-clause-greatest c = λ m st. sym st.matches.sleeps.keeps.stands.same_greatest

pub returns-clause-rests : goal.returns-clause-rests
returns-clause-rests c = λ m st. (none_armed c.args.self.now.parts.timers _ m.sleeps st.matches.sleeps.keeps.stands st.valid.sleeps, st.matches.sleeps.has_gone)

pub returns-clause-next : goal.returns-clause-next
returns-clause-next c = λ m st answer next.
    let timers = c.args.self.now.parts.timers in
    let stands = st.matches.sleeps.keeps.stands in
    next-is timers m.sleeps.greatest answer (none_armed timers _ m.sleeps stands st.valid.sleeps) st.matches.sleeps.has_gone (sym stands.same_greatest) next
